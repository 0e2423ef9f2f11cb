-- A summary that a file is joined to passes the test 20. Assumes nothing.
use Prim.Native.Nat.{ℕ, ◌≤◌, ◌<◌}
use mathlib.Core.Path.{◌≡◌, ◌∙◌}
use mathlib.Core.List.{List, [], ◌∷◌, ◌++◌, reverse}
use native.Mathlib.Omega.{arith}
use lib.ListN.{length, take, replicate}
use lib.Seq.{take-take, take-append_seam}
use Rattle.format.proofs.Loops.Appended.{Each, no_more, one, walks_each, each_reverse}
use Rattle.format.proofs.Frames.Places.{axis_number_is}
use Rattle.format.specs.Loops.{most_count, Built, axis_number}
use Rattle.format.specs.Summary.{no_loop, in_three, shape_of}
use Rattle.format.specs.Grammar.Loops.{Distinct, Counted, Walks, OnAxes, LoopsOf}
use Rattle.format.specs.Grammar.Loops.{nil, cons}
use Rattle.format.specs.Grammar.File.{SummaryOf, Joined}
use Rattle.format.specs.Refused.Summary.{Sound}
use Rattle.format.specs.declared.Entry.{Entry}
use Rattle.format.specs.declared.Axis.{Axis}
use Rattle.format.specs.declared.Axis.TheVariants.{T, Z, P}
use Rattle.format.specs.declared.Loop.{Loop}
use Rattle.format.specs.declared.Summary.{Summary}

-- ---- counts

abbrev InRange : ℕ → ℕ → Type 0
InRange t c = (0 < c) × (c ≤ most_count)

in_range : (s : List ℕ) (es : List Entry) (is : List ℕ) (n : ℕ) (bs : List Built) → Walks s es is n [] bs → Each InRange (reverse bs)
in_range s es is n bs w =
    each_reverse InRange bs []
    (walks_each s es InRange (λ i t c x _. (x.count_some, x.count_most)) (λ t c d h k. (omega arith, omega arith)) is n [] bs w no_more) no_more

range_counted : (bs : List Built) (ls : List Loop) → OnAxes bs ls → Each InRange bs → Counted ls
range_counted [] ls nil r = nil
range_counted (b ∷ bs) ls (cons {l = l} {ls = ms} o e x) (one (h, k) r) = cons {l = l} (rw e h) (rw e k) (range_counted bs ms x r)

-- ---- at most three loops

axis_below : (a : Axis) → axis_number a < 3
axis_below T = omega arith
axis_below Z = omega arith
axis_below P = omega arith

pub distinct_three : (ls : List Loop) → Distinct ls → length ls ≤ 3
distinct_three [] d = omega arith
distinct_three (a ∷ []) d = omega arith
distinct_three (a ∷ b ∷ []) d = omega arith
distinct_three (a ∷ b ∷ c ∷ []) d = omega arith
distinct_three (a ∷ b ∷ c ∷ e ∷ ls) (cons (cons ab (cons ac (cons ae f₁))) (cons (cons bc (cons be f₂)) (cons (cons ce f₃) d))) =
    absurd (four (axis_number a.axis) (axis_number b.axis) (axis_number c.axis) (axis_number e.axis) (axis_below a.axis)
    (axis_below b.axis) (axis_below c.axis)
    (axis_below e.axis) (λ z. ab (axis_number_is _ _ z)) (λ z. ac (axis_number_is _ _ z)) (λ z. ae (axis_number_is _ _ z)) (λ z. bc (axis_number_is _ _ z))
    (λ z. be (axis_number_is _ _ z))
    (λ z. ce (axis_number_is _ _ z)))
  where
    four : (a b c e : ℕ) → a < 3 → b < 3 → c < 3 → e < 3 → (b ≡ a → ⊥) → (c ≡ a → ⊥) → (e ≡ a → ⊥) → (c ≡ b → ⊥) → (e ≡ b → ⊥) → (e ≡ c → ⊥) → ⊥
    four a b c e ha hb hc he ab ac ae bc be ce = omega arith

-- the loops that are used of those in three places
pub three_loops : (ls : List Loop) → length ls ≤ 3 → take (length ls) (in_three ls) ≡ ls
three_loops ls h = take-take (length ls) 3 (ls ++ replicate 3 no_loop) h ∙ take-append_seam ls (replicate 3 no_loop)

-- ---- the summary of a file

pub joined_sound : (s : List ℕ) (u : Summary) → Joined s u → Sound s u
joined_sound s u x =
    record {
      bits = rw y.bits x.attributes_of_is.bits_known;
      shape = rw shape x.attributes_of_is.shape;
      plane_most = rw (y.width, y.height, y.bits) x.plane_most;
      loops_most = rw y.depth (distinct_three x.loops lo.distinct);
      loops_counted = rw y.loops_used all_counted;
      loops_distinct = rw y.loops_used lo.distinct;
      map_within = let c = x.mapped.map_chunk in rw y.map (omega (arith, c.data_within, c.data_start, c.data_len));
    }
  where
    y : SummaryOf x.map_place x.attributes x.loops x.size u
    y = x.summary

    lo : LoopsOf s x.experiment_tree x.experiment_level x.loops
    lo = x.loops_of_is

    shape : shape_of u ≡ x.attributes
    shape = λ k. record { width = y.width k; stride = y.stride k; height = y.height k; components = y.components k; bits = y.bits k }

    all_counted : Counted x.loops
    all_counted =
        range_counted (reverse lo.built) x.loops lo.on_axes (in_range s x.experiment_tree (x.experiment_level ∷ []) 0 lo.built lo.walked)
