-- What one loop more makes of a run of loops, from the first on. Assumes nothing.
use Prim.Native.Nat.{ℕ, zero, suc, ◌+◌, ◌-◌, ◌*◌, ◌/◌, ◌^◌, ◌≤◌, ◌<◌}
use mathlib.Core.Path.{◌≡◌, refl, sym, ap, ◌∙◌}
use mathlib.Core.Bool.{Bool, true, false, ◌||◌}
use mathlib.Core.List.{List, [], ◌∷◌}
use native.Mathlib.Nat.{mul_assoc, mul-pos, le-mul_of_pos_right, mul-le-mul, pow-suc, pow-le-pow_right, suc-mul, mod-one}
use native.Mathlib.Numerals.{add-one}
use native.Mathlib.Omega.{arith}
use lib.Dec.{eqb, ltb}
use lib.Seq.{drop-cons}
use lib.ListN.{length, take, drop, get_or, drop_of_length-le}
use denote.Enum.Bare.{sameb}
use Rattle.std.proofs.lemmas.List.{take_rest}
use Rattle.std.proofs.lemmas.Bool.Decides.{nat_tests}
use Rattle.std.specs.List.{list_any}
use Rattle.format.specs.Loops.{most_count, same_axis, has_axis}
use Rattle.format.specs.Frames.{count_of, index_of, seq_from, frames, index_at}
use Rattle.format.specs.Summary.{no_loop, bad_loops}
use Rattle.format.specs.Grammar.Loops.{Counted, Distinct, cons}
use Rattle.format.specs.Refused.Plane.{Within}
use Rattle.format.specs.declared.Axis.{Axis}
use Rattle.format.specs.declared.Axis.TheVariants.{T, Z, P}
use Rattle.format.specs.contracts.Axis.{the_type}
use Rattle.format.specs.declared.Loop.{Loop}
use Rattle.format.proofs.Frames.Places.{Below, one, index, within_below}
use Rattle.format.proofs.Frames.Names.{frames_most}
use Rattle.summary.specs.Pacing.{Paced}

-- ---- runs of loops

-- where all have come, none is left
pub past : (i : ℕ) (ls : List Loop) → length ls ≤ i → drop i ls ≡ []
past i ls h = drop_of_length-le ls {i = i} h

-- what holds of all loops holds of the last ones
pub counted_drop : (i : ℕ) (ls : List Loop) → Counted ls → Counted (drop i ls)
counted_drop zero ls c = c
counted_drop (suc i) [] c = c
counted_drop (suc i) (l ∷ ls) (cons h k c) = counted_drop i ls c

below_drop : (f : Axis → ℕ) (i : ℕ) (ls : List Loop) → Below f ls → Below f (drop i ls)
below_drop f zero ls b = b
below_drop f (suc i) [] b = b
below_drop f (suc i) (l ∷ ls) (one h b) = below_drop f i ls b

-- the derived equality of axes is that of their numbers
axes_same : (a b : Axis) {r : Bool} → r ≡ sameb the_type a b → same_axis a b ≡ r
axes_same T T e = sym e
axes_same T Z e = sym e
axes_same T P e = sym e
axes_same Z T e = sym e
axes_same Z Z e = sym e
axes_same Z P e = sym e
axes_same P T e = sym e
axes_same P Z e = sym e
axes_same P P e = sym e

-- whether a loop runs over an axis, as a chain of iterators says it
has_any : (a : Axis) (ls : List Loop) → has_axis a ls ≡ list_any (λ l. same_axis l.axis a) ls
unfolding has_axis
has_any a [] = refl
has_any a (l ∷ ls) = rw (has_any a ls) refl

-- the loops from number i on
at : (ls : List Loop) (i : ℕ) → i < length ls → drop i ls ≡ get_or ls i no_loop ∷ drop (i + 1) ls
at ls i h = rw add-one (drop-cons ls i no_loop h)

-- xs are the loop l and the others, ls
module _ {xs ls : List Loop} {l : Loop} (e : xs ≡ l ∷ ls) where
  counted_first : Counted xs → (0 < l.count) × (l.count ≤ most_count) × Counted ls
  counted_first c = go (rw e at c)
    where
      go : Counted (l ∷ ls) → (0 < l.count) × (l.count ≤ most_count) × Counted ls
      go (cons h k c) = (h, k, c)

  below_first : (f : Axis → ℕ) → Below f xs → f l.axis < l.count
  below_first f b = go (rw e at b)
    where
      go : Below f (l ∷ ls) → f l.axis < l.count
      go (one h b) = h

  seq_on : (n scene t z : ℕ) → seq_from n xs scene t z ≡ seq_from (n * l.count + index_of l.axis scene t z) ls scene t z
  unfolding seq_from
  seq_on n scene t z = rw e refl

  frames_on : frames xs ≡ l.count * frames ls
  unfolding frames
  frames_on = rw e refl

-- ---- loops that are bad

-- the loop at i and those behind it, as the code looks at them
pub bad_at : (ls : List Loop) (i : ℕ) → i < length ls
    → bad_loops (drop i ls) ≡ (eqb (get_or ls i no_loop).count 0 || ltb most_count (get_or ls i no_loop).count
    || list_any (λ l. same_axis l.axis (get_or ls i no_loop).axis) (take (length ls - (i + 1)) (drop (i + 1) ls)) || bad_loops (drop (i + 1) ls))
unfolding bad_loops
bad_at ls i h = rw (at ls i h, take_rest, ← has_any (get_or ls i no_loop).axis (drop (i + 1) ls)) refl

pub ruleset bad = (past, bad_at, nat_tests)

-- ---- how many frames

-- counted loops make some frames
frames_some : (ls : List Loop) → Counted ls → 0 < frames ls
unfolding frames
frames_some [] c = omega arith
frames_some (l ∷ ls) (cons h k c) = mul-pos h (frames_some ls c)

-- n frames so far, with those of the loop at i
module _ (ls : List Loop) (i : ℕ) (h : i < length ls) (n : ℕ) (e : n * frames (drop i ls) ≡ frames ls) where
  pub frames_turn : n * (get_or ls i no_loop).count * frames (drop (i + 1) ls) ≡ frames ls
  frames_turn =
      mul_assoc n (get_or ls i no_loop).count (frames (drop (i + 1) ls)) ∙ (ap (λ (x : ℕ). n * x) (sym (frames_on (at ls i h))) ∙ e)

  pub frames_fit : Counted ls → length ls ≤ 3 → n * (get_or ls i no_loop).count < 2 ^ 64
  frames_fit c k =
      let some = frames_some (drop (i + 1) ls) (counted_drop (i + 1) ls c) in
      omega (arith, frames_turn, le-mul_of_pos_right (n * (get_or ls i no_loop).count) some, frames_most ls c k)

pub ruleset product = (past, frames_turn, frames_fit)

-- ---- one axis

-- the pace of an axis: no loop has it, or that at i has it
pub paced_none : (a : Axis) (ls : List Loop) → ((n : ℕ) → 0 ≡ index_at a n ls) → Paced (record { stay = 1; count = 1 }) a ls
paced_none a ls e = record { stays = omega arith; some = omega arith; index = λ n. sym (e n) ∙ sym (mod-one (n / 1)) }

pub paced_at : (a : Axis) (ls : List Loop) (i : ℕ) → i < length ls → Counted ls → true ≡ sameb the_type (get_or ls i no_loop).axis a
    → ((n : ℕ) → index_at a n (drop i ls) ≡ index_at a n ls)
    → Paced (record { stay = frames (drop (i + 1) ls); count = (get_or ls i no_loop).count }) a ls
unfolding index_at
paced_at a ls i h c q e =
    let l = get_or ls i no_loop in
    let s = axes_same l.axis a q in
    record {
      stays = frames_some (drop (i + 1) ls) (counted_drop (i + 1) ls c);
      some = (counted_first (at ls i h) (counted_drop i ls c)).0;
      index = λ n. sym (e n) ∙ rw (at ls i h, s) refl;
    }

-- the loop at i runs over the axis, or not
module _ (a : Axis) (ls : List Loop) (i : ℕ) (h : i < length ls) where
  pub count_at : true ≡ sameb the_type (get_or ls i no_loop).axis a → count_of a (drop i ls) ≡ (get_or ls i no_loop).count
  unfolding count_of
  count_at q = let s = axes_same (get_or ls i no_loop).axis a q in rw (at ls i h, s) refl

  pub count_on : false ≡ sameb the_type (get_or ls i no_loop).axis a → count_of a (drop (i + 1) ls) ≡ count_of a (drop i ls)
  unfolding count_of
  count_on q = let s = axes_same (get_or ls i no_loop).axis a q in rw (at ls i h, s) refl

  pub index_on : false ≡ sameb the_type (get_or ls i no_loop).axis a → (n : ℕ) → index_at a n (drop (i + 1) ls) ≡ index_at a n (drop i ls)
  unfolding index_at
  index_on q n = let s = axes_same (get_or ls i no_loop).axis a q in rw (at ls i h, s) refl

pub ruleset counting = (past, count_at, count_on)

pub ruleset pacing = (past, paced_none, paced_at, index_on, counted_drop, take_rest)

-- ---- the number of a frame

-- a number below 1,000,000^i, with one loop more
grows : (n i count index : ℕ) → n < most_count ^ i → count ≤ most_count → index < count → n * count + index < most_count ^ (i + 1)
grows n i count index h hc hx = rw (add-one, pow-suc) (omega (arith, mul-le-mul h hc, suc-mul n count))

-- n, the number so far, with the loop at i: it comes to the same with the loops that are left, is below a bound, and fits in 64 bits
module _ (ls : List Loop) (i : ℕ) (h : i < length ls) (n : ℕ) where
  pub seq_same : (scene t z : ℕ) → seq_from (n * (get_or ls i no_loop).count + index_of (get_or ls i no_loop).axis scene t z) (drop (i + 1) ls) scene t z
      ≡ seq_from n (drop i ls) scene t z
  seq_same scene t z = sym (seq_on (at ls i h) n scene t z)

  module _ (xs : List Loop) (e : ls ≡ xs) (q : n < most_count ^ i) where
    pub seq_below : (scene t z : ℕ) → Counted xs × Distinct xs × Within xs scene t z
        → n * (get_or ls i no_loop).count + index_of (get_or ls i no_loop).axis scene t z < most_count ^ (i + 1)
    seq_below scene t z p =
        let (c, d, w) = rw (← e) at p in
        let below = below_first (at ls i h) (index scene t z) (below_drop (index scene t z) i ls (within_below ls scene t z d w)) in
        grows n i (get_or ls i no_loop).count (index scene t z (get_or ls i no_loop).axis) q (counted_first (at ls i h) (counted_drop i ls c)).1 below

    module _ (three : length ls ≤ 3) where
      pub seq_sum : (scene t z : ℕ) → Counted xs × Distinct xs × Within xs scene t z
          → n * (get_or ls i no_loop).count + index_of (get_or ls i no_loop).axis scene t z < 2 ^ 64
      seq_sum scene t z p =
          let top : most_count ^ (i + 1) ≤ most_count ^ 3 = pow-le-pow_right (omega arith) {i = i + 1} {j = 3} (omega arith) in
          omega (arith, seq_below scene t z p)

      pub seq_product : Counted xs → n * (get_or ls i no_loop).count < 2 ^ 64
      seq_product c =
          let counted = counted_first (at ls i h) (counted_drop i ls (rw (← e) at c)) in
          let top : most_count ^ i ≤ most_count ^ 2 = pow-le-pow_right (omega arith) {i = i} {j = 2} (omega arith) in
          let low : n ≤ most_count ^ 2 = omega arith in
          omega (arith, mul-le-mul low counted.1)

pub ruleset numbering = (past, seq_same, seq_below, seq_sum, seq_product)
