-- Laws of UTF-16 units and of the units with each lone surrogate replaced. Assumes nothing.
use Prim.Native.Nat.{ℕ, zero, suc, ◌+◌, ◌-◌, ◌*◌, ◌≤◌, ◌<◌}
use mathlib.Core.Path.{◌≡◌, refl, sym, ap, ◌∙◌}
use mathlib.Core.Bool.{Bool, true, false, not, ◌&&◌, ◌||◌, cond, or-false}
use mathlib.Core.List.{List, [], ◌∷◌}
use native.Mathlib.Omega.{arith}
use native.Mathlib.Numerals.{add-one}
use native.Mathlib.Nat.{add_assoc}
use lib.Dec.{eqb, leb, ltb}
use lib.ListN.{length, get_or, get_or-eq_default}
use borrow.Author.Tests.{eqb-true, eqb-false, eq-eqb, ne_eqb, le-leb, lt-leb, le-ltb, leb-true, leb-false, ltb-true, ltb-false}
use Rattle.format.proofs.Ground.Tests.{or_left, or_right, and_left, and_right, and_none}
use Rattle.format.specs.Bytes.{le_at}
use Rattle.format.specs.Text.{units, high_surrogate, low_surrogate, replaced, replaced_after, lossy}

-- ---- units

pub length_units : (n : ℕ) (s : List ℕ) (i : ℕ) → length (units n s i) ≡ n
unfolding units
length_units zero s i = refl
length_units (suc n) s i = ap suc (length_units n s (i + 2))

pub units_at : (n : ℕ) (s : List ℕ) (i k : ℕ) → k < n → get_or (units n s i) k 0 ≡ le_at 2 s (i + 2 * k)
unfolding units
units_at zero s i k h = absurd (omega arith)
units_at (suc n) s i zero h = ap (le_at 2 s) (omega arith)
units_at (suc n) s i (suc k) h = units_at n s (i + 2) k (omega arith) ∙ ap (le_at 2 s) (omega arith)

pub units_past : (n : ℕ) (s : List ℕ) (i k : ℕ) → n ≤ k → get_or (units n s i) k 0 ≡ 0
units_past n s i k h = get_or-eq_default (units n s i) 0 (rw length_units h)

-- the unit before unit k
pub units_before : (n : ℕ) (s : List ℕ) (i k : ℕ) → k < n → (k ≡ 0 → ⊥) → get_or (0 ∷ units n s i) k 0 ≡ le_at 2 s (i + 2 * (k - 1))
units_before n s i zero h z = absurd (z refl)
units_before n s i (suc k) h z = units_at n s i k (omega arith) ∙ ap (le_at 2 s) (omega arith)

-- ---- what stands for a unit, by its kind

kept_by : (b : Bool) (u : ℕ) → cond (not b) 0xFFFD u ≡ cond b u 0xFFFD
kept_by true u = refl
kept_by false u = refl

pub replaced_high : (p u q : ℕ) → high_surrogate u ≡ true → replaced p u q ≡ cond (low_surrogate q) u 0xFFFD
unfolding replaced
replaced_high p u q h =
    let k = ltb-true u 0xDC00 (and_right (leb 0xD800 u) _ h) in
    rw (h, lt-leb 0xDC00 u k, or-false) (kept_by (low_surrogate q) u)

pub replaced_low : (p u q : ℕ) → low_surrogate u ≡ true → replaced p u q ≡ cond (high_surrogate p) u 0xFFFD
unfolding replaced
replaced_low p u q h =
    let k = leb-true 0xDC00 u (and_left _ _ h) in
    rw (h, le-leb 0xD800 u (omega arith), le-ltb u 0xDC00 k) (kept_by (high_surrogate p) u)

pub replaced_other : (p u q : ℕ) → high_surrogate u ≡ false → low_surrogate u ≡ false → replaced p u q ≡ u
unfolding replaced
replaced_other p u q h l = rw (h, l)

-- a unit below the surrogates
pub replaced_plain : (p u q : ℕ) → u < 0xD800 → replaced p u q ≡ u
replaced_plain p u q h = replaced_other p u q (rw (lt-leb 0xD800 u h)) (rw (lt-leb 0xDC00 u (omega arith)))

-- a unit above them
replaced_above : (p u q : ℕ) → 0xE000 ≤ u → replaced p u q ≡ u
replaced_above p u q h = replaced_other p u q (and_none (leb 0xD800 u) _ (le-ltb u 0xDC00 (omega arith))) (and_none (leb 0xDC00 u) _ (le-ltb u 0xE000 h))

-- a unit that is no surrogate
pub replaced_outside : (p u q : ℕ) → (ltb u 0xD800 || leb 0xE000 u) ≡ true → replaced p u q ≡ u
replaced_outside p u q h = go (ltb u 0xD800) refl
  where
    go : (t : Bool) → ltb u 0xD800 ≡ t → replaced p u q ≡ u
    go true e = replaced_plain p u q (ltb-true u 0xD800 e)
    go false e = replaced_above p u q (leb-true 0xE000 u (rw e at h))

-- and one that is
pub surrogate_in : (u : ℕ) → (ltb u 0xD800 || leb 0xE000 u) ≡ false → (0xD800 ≤ u) × (u < 0xE000)
surrogate_in u h = (ltb-false u 0xD800 (or_left (ltb u 0xD800) _ h), leb-false 0xE000 u (or_right (ltb u 0xD800) _ h))

-- nothing else becomes a unit below the surrogates: U+FFFD is none
plain_replaced : (p u q b : ℕ) → b < 0xD800 → b ≡ replaced p u q → b ≡ u
unfolding replaced
plain_replaced p u q b l = go (high_surrogate u && not (low_surrogate q) || low_surrogate u && not (high_surrogate p))
  where
    go : (t : Bool) → b ≡ cond t 0xFFFD u → b ≡ u
    go true e = absurd (omega (arith, e))
    go false e = e

-- ---- the units with each lone surrogate replaced

after_at : (p : ℕ) (us : List ℕ) (i : ℕ) → i < length us
    → get_or (replaced_after p us) i 0 ≡ replaced (get_or (p ∷ us) i 0) (get_or us i 0) (get_or us (suc i) 0)
unfolding replaced_after
after_at p [] i h = absurd (omega arith)
after_at p (u ∷ []) zero h = refl
after_at p (u ∷ []) (suc i) h = absurd (omega arith)
after_at p (u ∷ q ∷ s) zero h = refl
after_at p (u ∷ q ∷ s) (suc i) h = after_at u (q ∷ s) i (omega arith)

-- each unit by its neighbours, 0 where there is none
pub lossy_at : (us : List ℕ) (i : ℕ) → i < length us → get_or (lossy us) i 0 ≡ replaced (get_or (0 ∷ us) i 0) (get_or us i 0) (get_or us (suc i) 0)
unfolding lossy
lossy_at us i h = after_at 0 us i h

length_after : (p : ℕ) (us : List ℕ) → length (replaced_after p us) ≡ length us
unfolding replaced_after
length_after p [] = refl
length_after p (u ∷ []) = refl
length_after p (u ∷ q ∷ s) = ap suc (length_after u (q ∷ s))

pub length_lossy : (us : List ℕ) → length (lossy us) ≡ length us
unfolding lossy
length_lossy us = length_after 0 us

-- a name of n units has n units
pub length_name : (n : ℕ) (s : List ℕ) (i : ℕ) → length (lossy (units n s i)) ≡ n
length_name n s i = length_lossy (units n s i) ∙ length_units n s i

-- and each is what its neighbours in the file make of it
pub name_at : (n : ℕ) (s : List ℕ) (i k : ℕ) → k < n
    → get_or (lossy (units n s i)) k 0 ≡ replaced (get_or (0 ∷ units n s i) k 0) (le_at 2 s (i + 2 * k)) (get_or (units n s i) (k + 1) 0)
name_at n s i k h = lossy_at (units n s i) k (rw length_units h) ∙ rw (units_at n s i k h, add-one)

-- one that is no surrogate stays
pub name_outside : (n : ℕ) (s : List ℕ) (i k : ℕ) → k < n → (ltb (le_at 2 s (i + 2 * k)) 0xD800 || leb 0xE000 (le_at 2 s (i + 2 * k))) ≡ true
    → get_or (lossy (units n s i)) k 0 ≡ le_at 2 s (i + 2 * k)
name_outside n s i k h e = name_at n s i k h ∙ replaced_outside _ _ _ e

-- a high surrogate goes by the unit after it, a low one by the unit before
pub name_high : (n : ℕ) (s : List ℕ) (i k : ℕ) → k < n → high_surrogate (le_at 2 s (i + 2 * k)) ≡ true
    → get_or (lossy (units n s i)) k 0 ≡ cond (low_surrogate (get_or (units n s i) (k + 1) 0)) (le_at 2 s (i + 2 * k)) 0xFFFD
name_high n s i k h e = name_at n s i k h ∙ replaced_high _ _ _ e

pub name_low : (n : ℕ) (s : List ℕ) (i k : ℕ) → k < n → low_surrogate (le_at 2 s (i + 2 * k)) ≡ true
    → get_or (lossy (units n s i)) k 0 ≡ cond (high_surrogate (get_or (0 ∷ units n s i) k 0)) (le_at 2 s (i + 2 * k)) 0xFFFD
name_low n s i k h e = name_at n s i k h ∙ replaced_low _ _ _ e

-- a number below the surrogates is the unit of a name exactly where it stands there
module _ (n : ℕ) (s : List ℕ) (i k b : ℕ) (h : k < n) (l : b < 0xD800) where
  pub plain_name_unit : b ≡ le_at 2 s (i + 2 * k) → b ≡ get_or (lossy (units n s i)) k 0
  plain_name_unit e = sym (name_at n s i k h ∙ (replaced_plain _ _ _ (rw (← e) l) ∙ sym e))

  pub name_unit_plain : b ≡ get_or (lossy (units n s i)) k 0 → b ≡ le_at 2 s (i + 2 * k)
  name_unit_plain e = plain_replaced _ _ _ b l (e ∙ name_at n s i k h)

  pub plain_eqb : eqb b (le_at 2 s (i + 2 * k)) ≡ eqb b (get_or (lossy (units n s i)) k 0)
  plain_eqb = go (eqb b (le_at 2 s (i + 2 * k))) refl
    where
      go : (t : Bool) → eqb b (le_at 2 s (i + 2 * k)) ≡ t → t ≡ eqb b (get_or (lossy (units n s i)) k 0)
      go true q = sym (eq-eqb _ _ (plain_name_unit (eqb-true _ _ q)))
      go false q = sym (ne_eqb _ _ λ e. eqb-false _ _ q (name_unit_plain e))

-- ---- two names as they stand, unit by unit

-- the first c units of both are the same
abbrev pub Stand : List ℕ → ℕ → ℕ → ℕ → Type 0
Stand s at from c = (k : ℕ) → k < c → le_at 2 s (at + 2 * k) ≡ le_at 2 s (from + 2 * k)

le_two : (s : List ℕ) (i j : ℕ) → get_or s i 0 ≡ get_or s j 0 → get_or s (i + 1) 0 ≡ get_or s (j + 1) 0 → le_at 2 s i ≡ le_at 2 s j
unfolding le_at
le_two s i j p q = omega (arith, p, rw (add-one, add-one) at q)

-- n units more where their bytes are
pub stand_more : (s : List ℕ) (at from i n : ℕ) → Stand s at from i
    → ((k : ℕ) → k < 2 * n → get_or s (at + 2 * i + k) 0 ≡ get_or s (from + 2 * i + k) 0) → Stand s at from (i + n)
stand_more s at from i n f g k h = go (ltb k i) refl
  where
    byte : (j l : ℕ) → j < 2 * n → 2 * i + j ≡ l → get_or s (at + l) 0 ≡ get_or s (from + l) 0
    byte j l b e = rw (← e, ← add_assoc, ← add_assoc) (g j b)

    go : (t : Bool) → ltb k i ≡ t → le_at 2 s (at + 2 * k) ≡ le_at 2 s (from + 2 * k)
    go true q = f k (ltb-true k i q)
    go false q =
        let o = ltb-false k i q in
        le_two s _ _ (byte (2 * (k - i)) (2 * k) (omega arith) (omega arith))
        (rw (add_assoc, add_assoc) (byte (2 * (k - i) + 1) (2 * k + 1) (omega arith) (omega arith)))
