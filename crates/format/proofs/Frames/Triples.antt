-- The frame numbers of the triples in range are the numbers below the count of frames, each of one triple. Assumes nothing.
use Prim.Native.Nat.{ℕ, suc, ◌+◌, ◌*◌, ◌/◌, ◌%◌, ◌≤◌, ◌<◌}
use mathlib.Core.Path.{◌≡◌, refl, sym, ap, ◌∙◌}
use mathlib.Core.Bool.{Bool, true, false, cond, true≢false}
use mathlib.Core.List.{List, [], ◌∷◌}
use native.Mathlib.Nat.{mul-le-mul_right, mul_assoc, mul-pos, mod-lt, mod-eq_of_lt, add-mul}
use native.Mathlib.Omega.{arith}
use lib.Arith.{mod-mul}
use borrow.Author.Tests.{eqb-true, eq-eqb}
use Rattle.format.proofs.Frames.Places.{Below, one, index, within_below, axis_number_is, free_has, seq_different}
use Rattle.format.specs.Loops.{most_count, has_axis, axis_number, same_axis}
use Rattle.format.specs.Frames.{count_of, index_of, seq_from, seq_index, frames, index_at}
use Rattle.format.specs.Grammar.Loops.{Distinct, Counted}
use Rattle.format.specs.Grammar.Loops.{cons}
use Rattle.format.specs.Refused.Plane.{Within}
use Rattle.format.specs.declared.Axis.{Axis}
use Rattle.format.specs.declared.Axis.TheVariants.{T, Z, P}
use Rattle.format.specs.declared.Loop.{Loop}

-- ---- a triple's number

seq_bound : (ls : List Loop) (n scene t z : ℕ) → Below (index scene t z) ls → seq_from n ls scene t z < suc n * frames ls
unfolding seq_from frames
seq_bound [] n scene t z b = omega arith
seq_bound (l ∷ ls) n scene t z (one h b) =
    let i = index_of l.axis scene t z in
    let k = seq_bound ls (n * l.count + i) scene t z b in
    let j : suc (n * l.count + i) * frames ls ≤ suc n * l.count * frames ls = mul-le-mul_right (frames ls) (omega arith) in
    let m : suc n * l.count * frames ls ≡ suc n * (l.count * frames ls) = mul_assoc (suc n) l.count (frames ls) in
    omega arith

-- The frame number of a triple in range is below the count of frames.
pub seq_below : (ls : List Loop) (scene t z : ℕ) → Distinct ls → Within ls scene t z → seq_index ls scene t z < frames ls
unfolding seq_index
seq_below ls scene t z d w = let b = seq_bound ls 0 scene t z (within_below ls scene t z d w) in omega arith

-- ---- a number's triple

frames_some : (ls : List Loop) → Counted ls → 0 < frames ls
unfolding frames
frames_some [] c = omega arith
frames_some (l ∷ ls) (cons h k c) = mul-pos h (frames_some ls c)

-- each index is below its axis's count
index_below : (a : Axis) (n : ℕ) (ls : List Loop) → Counted ls → index_at a n ls < count_of a ls
unfolding index_at count_of
index_below a n [] c = omega arith
index_below a n (l ∷ ls) (cons h k c) = go (same_axis l.axis a) (index_below a n ls c)
  where
    go : (b : Bool) → index_at a n ls < count_of a ls → cond b (n / frames ls % l.count) (index_at a n ls) < cond b l.count (count_of a ls)
    go true r = mod-lt (n / frames ls) h
    go false r = r

-- and below 1,000,000
pub index_most : (a : Axis) (n : ℕ) (ls : List Loop) → Counted ls → index_at a n ls < most_count
unfolding index_at
index_most a n [] c = omega arith
index_most a n (l ∷ ls) (cons h k c) = go (same_axis l.axis a) (index_most a n ls c)
  where
    go : (b : Bool) → index_at a n ls < most_count → cond b (n / frames ls % l.count) (index_at a n ls) < most_count
    go true r = let m = mod-lt (n / frames ls) h in omega arith
    go false r = r

-- every loop of ls has n's digit at its place
data Digits (i : Axis → ℕ) (n : ℕ) : List Loop → Type 0 where
  no_more : Digits i n []
  digit : {l : Loop} {ls : List Loop} → i l.axis ≡ n / frames ls % l.count → Digits i n ls → Digits i n (l ∷ ls)

digits_from : (i : Axis → ℕ) (n : ℕ) (ls : List Loop) → Distinct ls → ((a : Axis) → has_axis a ls ≡ true → i a ≡ index_at a n ls) → Digits i n ls
unfolding index_at has_axis
digits_from i n [] d h = no_more
digits_from i n (l ∷ ls) (cons f d) h =
    digit {l = l} {ls = ls} (h l.axis (rw same refl) ∙ rw same refl) (digits_from i n ls d λ a q. rest a q (same_axis l.axis a) refl)
  where
    same : same_axis l.axis l.axis ≡ true
    same = eq-eqb (axis_number l.axis) (axis_number l.axis) refl

    rest : (a : Axis) → has_axis a ls ≡ true → (b : Bool) → same_axis l.axis a ≡ b → i a ≡ index_at a n ls
    rest a q true e = absurd (true≢false (sym q ∙ ap (λ (x : Axis). has_axis x ls) (sym (axis_number_is _ _ (eqb-true _ _ e))) ∙ free_has l.axis ls f))
    rest a q false e = h a (rw e q) ∙ rw e refl

digits_seq : (ls : List Loop) (m n scene t z : ℕ) → Counted ls → Digits (index scene t z) n ls → seq_from m ls scene t z ≡ m * frames ls + n % frames ls
unfolding seq_from frames
digits_seq [] m n scene t z c d = omega arith
digits_seq (l ∷ ls) m n scene t z (cons h k c) (digit e d) =
    let i = index_of l.axis scene t z in
    let f = frames ls in
    let r : seq_from (m * l.count + i) ls scene t z ≡ (m * l.count + i) * f + n % f = digits_seq ls (m * l.count + i) n scene t z c d in
    let e₁ : n % (l.count * f) ≡ (n / f % l.count) * f + n % f = mod-mul n h (frames_some ls c) in
    let e₂ : i * f ≡ (n / f % l.count) * f = ap (λ (x : ℕ). x * f) e in
    let e₃ : (m * l.count + i) * f ≡ m * l.count * f + i * f = add-mul (m * l.count) i f in
    let e₄ : m * l.count * f ≡ m * (l.count * f) = mul_assoc m l.count f in
    omega arith

-- Every number below the count of frames is the frame number of a triple in range,
pub number_triple : (ls : List Loop) (n : ℕ) → Counted ls → Distinct ls → n < frames ls
    → Within ls (index_at P n ls) (index_at T n ls) (index_at Z n ls) × (seq_index ls (index_at P n ls) (index_at T n ls) (index_at Z n ls) ≡ n)
unfolding seq_index
number_triple ls n c d h =
    let e : n % frames ls ≡ n = mod-eq_of_lt h in
    let r = digits_seq ls 0 n (index_at P n ls) (index_at T n ls) (index_at Z n ls) c
    (digits_from (index (index_at P n ls) (index_at T n ls) (index_at Z n ls)) n ls d λ a _. each a) in
    (record { scene_below = index_below P n ls c; t_below = index_below T n ls c; z_below = index_below Z n ls c }, omega arith)
  where
    each : (a : Axis) → index (index_at P n ls) (index_at T n ls) (index_at Z n ls) a ≡ index_at a n ls
    each T = refl
    each Z = refl
    each P = refl

-- and of no other.
pub triple_only : (ls : List Loop) (n scene t z : ℕ) → Counted ls → Distinct ls → Within ls scene t z → seq_index ls scene t z ≡ n
    → (scene ≡ index_at P n ls) × (t ≡ index_at T n ls) × (z ≡ index_at Z n ls)
triple_only ls n scene t z c d w e =
    let b = seq_below ls scene t z d w in
    let (v, q) = number_triple ls n c d (omega arith) in
    seq_different ls scene t z (index_at P n ls) (index_at T n ls) (index_at Z n ls) d w v (e ∙ sym q)
