-- The computed frame number, count of an axis and count of frames are those of the rules. Assumes nothing.
use Prim.Native.Nat.{ℕ, ◌+◌, ◌*◌}
use mathlib.Core.Path.{◌≡◌, refl, ap}
use mathlib.Core.Bool.{Bool, true, false, cond}
use mathlib.Core.List.{List, [], ◌∷◌}
use lib.Dec.{eqb}
use borrow.Author.Tests.{eqb-true, eqb-false}
use Rattle.format.proofs.Frames.Places.{axis_number_is}
use Rattle.format.specs.Loops.{axis_number}
use Rattle.format.specs.Frames.{count_of, index_of, seq_from, seq_index, frames}
use Rattle.format.specs.Grammar.Frames.{IndexOn, time, focus, points, Leads, over, loop, FrameNumber, AxisCount, no_loop, its_loop, another}
use Rattle.format.specs.Grammar.Frames.{FrameCount, one, times}
use Rattle.format.specs.declared.Axis.{Axis}
use Rattle.format.specs.declared.Axis.TheVariants.{T, Z, P}
use Rattle.format.specs.declared.Loop.{Loop}

index_on : (a : Axis) (scene t z : ℕ) → IndexOn scene t z a (index_of a scene t z)
index_on T scene t z = time
index_on Z scene t z = focus
index_on P scene t z = points

leads_from : (ls : List Loop) (n scene t z : ℕ) → Leads scene t z n ls (seq_from n ls scene t z)
unfolding seq_from
leads_from [] n scene t z = over
leads_from (l ∷ ls) n scene t z =
    loop (index_on l.axis scene t z) (leads_from ls (n * l.count + index_of l.axis scene t z) scene t z)

pub frame_number : (ls : List Loop) (scene t z : ℕ) → FrameNumber ls scene t z (seq_index ls scene t z)
unfolding seq_index
frame_number ls scene t z = leads_from ls 0 scene t z

pub axis_count : (a : Axis) (ls : List Loop) → AxisCount a ls (count_of a ls)
unfolding count_of
axis_count a [] = no_loop
axis_count a (l ∷ ls) = go (eqb (axis_number l.axis) (axis_number a)) refl (axis_count a ls)
  where
    go : (b : Bool) → eqb (axis_number l.axis) (axis_number a) ≡ b → AxisCount a ls (count_of a ls)
        → AxisCount a (l ∷ ls) (cond b l.count (count_of a ls))
    go true e r = its_loop (axis_number_is l.axis a (eqb-true _ _ e))
    go false e r = another (λ q. eqb-false _ _ e (ap axis_number q)) r

pub frame_count : (ls : List Loop) → FrameCount ls (frames ls)
unfolding frames
frame_count [] = one
frame_count (l ∷ ls) = times (frame_count ls)
