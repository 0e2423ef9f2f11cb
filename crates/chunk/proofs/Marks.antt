-- Bytes among which no '!' stands, by digits that say where one does, and the first '!' after them. Assumes nothing.
use Prim.Native.Nat.{ℕ, zero, suc, ◌+◌, ◌-◌, ◌*◌, ◌/◌, ◌%◌, ◌^◌, ◌≤◌, ◌<◌}
use mathlib.Core.Path.{◌≡◌, refl, sym, ap, ◌∙◌}
use mathlib.Core.Bool.{Bool, true, false, cond}
use mathlib.Core.Option.{none, some}
use mathlib.Core.List.{List}
use native.Mathlib.Omega.{arith}
use native.Mathlib.Numerals.{add-one}
use native.Mathlib.Nat.{add-zero, add-suc, mul-one, mul-le-mul_left}
use lib.Bits.{block_half, block_odd, shifted_half, shifted_even}
use lib.Count.{count_trailing_zeros, under, trailing_of_zero, trailing_le}
use lib.ListN.{length, get_or, drop}
use lib.Pow.{pow-add}
use lib.Dec.{eqb, ltb}
use borrow.Author.Tests.{ltb-true, ltb-false, ne_eqb}
use Rattle.format.specs.Map.{through_mark}
use Rattle.format.proofs.Map.Entries.{through_name, through_none}
use Rattle.chunk.specs.Scan.{Clear, Marked, first_then, Skipped}

pub clear_none : (s : List ℕ) (a b : ℕ) → b ≤ a → Clear s a b
clear_none s a b o = record { clear = λ k l h. absurd (omega arith) }

module _ {s : List ℕ} {a b : ℕ} (f : Clear s a b) where
  pub clear_join : {d : ℕ} → Clear s b d → Clear s a d
  clear_join {d} g = record { clear = λ k l h. by k l h (ltb k b) refl }
    where
      by : (k : ℕ) → k < d → a ≤ k → (t : Bool) → ltb k b ≡ t → get_or s k 0 ≡ 33 → ⊥
      by k l h true q = f.clear k (ltb-true k b q) h
      by k l h false q = g.clear k l (ltb-false k b q)

  pub clear_more : (get_or s b 0 ≡ 33 → ⊥) → Clear s a (b + 1)
  clear_more e = clear_join (record { clear = λ k l h. let z : k ≡ b = omega arith in rw z e })

  pub marked : a ≤ b → b < length s → get_or s b 0 ≡ 33 → some (b - a + 1) ≡ through_mark (drop a s)
  marked o l e =
      let z : a + (b - a) ≡ b = omega arith in
      rw add-one
      (sym (through_name s a (b - a) (record { name_within = omega arith; mark = rw z e; none_before = λ j h. f.clear (a + j) (omega arith) (omega arith) })))

  pub unmarked : length s ≤ b → none ≡ through_mark (drop a s)
  unmarked l = sym (through_none s a λ k n. f.clear (a + k) (omega (arith, n.name_within)) (omega arith) n.mark)

-- ---- the lowest digit that is 1

low_none : (n k b : ℕ) → count_trailing_zeros (k + n) (b * 2 ^ n) ≡ count_trailing_zeros k b + n
unfolding count_trailing_zeros
low_none zero k b = rw (add-zero, add-zero, mul-one)
low_none (suc n) k b = rw (add-suc, shifted_even, shifted_half, low_none n k b, add-suc)

low_set : (n k a b : ℕ) → 0 < a → a < 2 ^ n → count_trailing_zeros (k + n) (b * 2 ^ n + a) ≡ count_trailing_zeros n a
unfolding count_trailing_zeros
low_set zero k a b o h = absurd (omega arith)
low_set (suc n) k a b o h = rw (add-suc, block_odd, block_half) (by (a % 2) refl (low_set n k (a / 2) b))
  where
    by : (r : ℕ) → a % 2 ≡ r → (0 < a / 2 → a / 2 < 2 ^ n → count_trailing_zeros (k + n) (b * 2 ^ n + a / 2) ≡ count_trailing_zeros n (a / 2))
        → under r (count_trailing_zeros (k + n) (b * 2 ^ n + a / 2)) ≡ under r (count_trailing_zeros n (a / 2))
    by zero q f = ap suc (f (omega arith) (omega arith))
    by (suc r) q f = refl

-- of m and a 1 behind its 16 digits
pub lowest : (m : ℕ) → m < 2 ^ 16 → count_trailing_zeros 32 (m + 65536) ≡ count_trailing_zeros 16 m
unfolding count_trailing_zeros
lowest zero h = low_none 16 16 1 ∙ sym (trailing_of_zero 16)
lowest (suc m) h = let z : suc m + 65536 ≡ 1 * 2 ^ 16 + suc m = omega arith in rw z (low_set 16 16 (suc m) 1 (omega arith) h)

-- ---- digits that say where '!' stands

pub marked_one : (s : List ℕ) (at : ℕ) → Marked s at 1 1
unfolding count_trailing_zeros
marked_one s at = record { low = omega arith; clear = clear_none s at (at + 0) (omega arith) }

pub marked_none : (s : List ℕ) (at : ℕ) → (get_or s at 0 ≡ 33 → ⊥) → Marked s at 1 0
unfolding count_trailing_zeros
marked_none s at e = record { low = omega arith; clear = clear_more (clear_none s at at (omega arith)) e }

module _ {s : List ℕ} {at n a b : ℕ} (f : Marked s at n a) (g : Marked s (at + n) n b) where
  join_low : a + 2 ^ n * b < 2 ^ (n + n)
  join_low = rw (pow-add 2 n n) (omega (arith, f.low, mul-le-mul_left (2 ^ n) g.low))

  join_clear : (a : ℕ) → Marked s at n a → Clear s at (at + count_trailing_zeros (n + n) (b * 2 ^ n + a))
  join_clear zero f =
      let z : at + (count_trailing_zeros n b + n) ≡ at + n + count_trailing_zeros n b = omega arith in
      rw (add-zero, low_none n n b) (rw z (clear_join (rw (trailing_of_zero n) at f.clear) g.clear))
  join_clear (suc a) f = rw (low_set n n (suc a) b (omega arith) f.low) f.clear

  pub marked_join : Marked s at (n + n) (a + 2 ^ n * b)
  marked_join = record { low = join_low; clear = let z : a + 2 ^ n * b ≡ b * 2 ^ n + a = omega arith in rw z (join_clear a f) }

-- ---- places with no '!' before them

-- f of n bytes were passed
pub record Ahead (s : List ℕ) (at f n : ℕ) : Type 0 where
  pub few : f ≤ n
  pub clear : Clear s at (at + f)

pub ahead_first : {s : List ℕ} {at m f : ℕ} → Marked s at 16 m → f ≡ count_trailing_zeros 16 m → Ahead s at f 16
ahead_first {m = m} h e = rw e (record { few = trailing_le 16 m; clear = h.clear })

pub ahead_then : {s : List ℕ} {at p m f n r : ℕ} → Marked s at 16 m → Ahead s p f n → p ≡ at + 16 → r ≡ first_then m f → Ahead s at r (16 + n)
unfolding first_then
ahead_then {s} {at} {p} {m} {f} {n} h g q e = rw e (by m h)
  where
    by : (m : ℕ) → Marked s at 16 m → Ahead s at (cond (eqb m 0) (16 + f) (count_trailing_zeros 16 m)) (16 + n)
    by zero h =
        let z : at + (16 + f) ≡ p + f = omega arith in
        record { few = omega (arith, g.few); clear = rw z (clear_join (rw (trailing_of_zero 16, ← q) at h.clear) g.clear) }
    by (suc m) h = rw (ne_eqb (suc m) 0 (omega arith)) (record { few = omega (arith, trailing_le 16 (suc m)); clear = h.clear })

pub skipped_none : (s : List ℕ) (a : ℕ) → a ≤ length s → Skipped s a a
skipped_none s a l = record { from = omega arith; inside = l; clear = clear_none s a a (omega arith) }

pub skipped_ahead : {s : List ℕ} {a f n : ℕ} → Ahead s a f n → a + n ≤ length s → Skipped s a (a + f)
skipped_ahead h l = record { from = omega arith; inside = omega (arith, h.few); clear = h.clear }

pub skipped_more : {s : List ℕ} {a i r : ℕ} → Skipped s a i → (get_or s i 0 ≡ 33 → ⊥) → Skipped s (i + 1) r → Skipped s a r
skipped_more h e g = record { from = omega (arith, h.from, g.from); inside = g.inside; clear = clear_join (clear_more h.clear e) g.clear }
