-- The units with each lone surrogate replaced are those that the grammar's rule mends. Assumes nothing.
use Prim.Native.Nat.{ℕ}
use mathlib.Core.Path.{◌≡◌, refl, sym, ap, ◌∙◌}
use mathlib.Core.Bool.{Bool, true, false, true≢false}
use mathlib.Core.Logic.{◌↔◌}
use mathlib.Core.List.{List, [], ◌∷◌}
use native.Mathlib.Omega.{arith}
use lib.Dec.{leb}
use lib.ListN.{get_or}
use borrow.Author.Tests.{le-leb, lt-ltb, leb-true, ltb-true}
use Rattle.format.proofs.Ground.Tests.{and_left, and_right}
use Rattle.format.proofs.Text.Units.{replaced_high, replaced_low, replaced_other}
use Rattle.format.specs.Text.{units, high_surrogate, low_surrogate, replaced, replaced_after, lossy}
use Rattle.format.specs.Values.{name_of}
use Rattle.format.specs.Grammar.Text.{High, Low, NoLow, at_end, before, Mended, over, plain, pair, lone_high, lone_low}
use Rattle.format.specs.declared.Entry.{Entry}

-- ---- what the tests tell

pub true_high : (u : ℕ) → high_surrogate u ≡ true → High u
true_high u e = record { least = leb-true 0xD800 u (and_left _ _ e); most = ltb-true u 0xDC00 (and_right (leb 0xD800 u) _ e) }

pub high_true : (u : ℕ) → High u → high_surrogate u ≡ true
high_true u h = rw (le-leb 0xD800 u h.least, lt-ltb u 0xDC00 h.most) refl

true_low : (u : ℕ) → low_surrogate u ≡ true → Low u
true_low u e = record { least = leb-true 0xDC00 u (and_left _ _ e); most = ltb-true u 0xE000 (and_right (leb 0xDC00 u) _ e) }

pub low_true : (u : ℕ) → Low u → low_surrogate u ≡ true
low_true u h = rw (le-leb 0xDC00 u h.least, lt-ltb u 0xE000 h.most) refl

-- a test that fails
fails : (b : Bool) → (b ≡ true → ⊥) → b ≡ false
fails true f = absurd (f refl)
fails false f = refl

not_high : (u : ℕ) → (High u → ⊥) → high_surrogate u ≡ false
not_high u f = fails (high_surrogate u) λ e. f (true_high u e)

not_low : (u : ℕ) → (Low u → ⊥) → low_surrogate u ≡ false
not_low u f = fails (low_surrogate u) λ e. f (true_low u e)

low_high : (u : ℕ) → Low u → high_surrogate u ≡ false
low_high u l = not_high u λ h. omega (arith, h.most, l.least)

-- ---- one unit, and the others

after_step : (p u : ℕ) (us : List ℕ) → replaced_after p (u ∷ us) ≡ replaced p u (get_or us 0 0) ∷ replaced_after u us
unfolding replaced_after
after_step p u [] = refl
after_step p u (q ∷ us) = refl

-- where no low surrogate stands first, what stands before does not count
after_any : (p q : ℕ) (us : List ℕ) → NoLow us → replaced_after p us ≡ replaced_after q us
unfolding replaced_after
after_any p q us at_end = refl
after_any p q us (before {u = u} {us = vs} f) =
    after_step p u vs ∙ (ap (λ (x : ℕ). x ∷ replaced_after u vs) (first (high_surrogate u) refl) ∙ sym (after_step q u vs))
  where
    n : ℕ
    n = get_or vs 0 0

    first : (b : Bool) → high_surrogate u ≡ b → replaced p u n ≡ replaced q u n
    first true e = replaced_high p u n e ∙ sym (replaced_high q u n e)
    first false e = replaced_other p u n e (not_low u f) ∙ sym (replaced_other q u n e (not_low u f))

no_low : (us : List ℕ) → NoLow us → low_surrogate (get_or us 0 0) ≡ false
no_low us at_end = refl
no_low us (before {u = u} f) = not_low u f

cons_same : {a b : ℕ} {us vs : List ℕ} → a ≡ b → us ≡ vs → a ∷ us ≡ b ∷ vs
cons_same p q = λ k. p k ∷ q k

-- ---- what is mended is what is computed, behind a unit that is no high surrogate

read_mended : (p : ℕ) {us vs : List ℕ} → high_surrogate p ≡ false → Mended us vs → replaced_after p us ≡ vs
unfolding replaced_after
read_mended p f over = refl
read_mended p f (plain {u = u} {us = us} a b m) =
    after_step p u us ∙ cons_same (replaced_other p u (get_or us 0 0) (not_high u a) (not_low u b)) (read_mended u (not_high u a) m)
read_mended p f (pair {h = h} {l = l} {us = us} a b m) =
    cons_same (replaced_high p h l (high_true h a) ∙ rw (low_true l b) refl)
    (after_step h l us ∙ cons_same (replaced_low h l (get_or us 0 0) (low_true l b) ∙ rw (high_true h a) refl) (read_mended l (low_high l b) m))
read_mended p f (lone_high {h = h} {us = us} a n m) =
    after_step p h us ∙ cons_same (replaced_high p h (get_or us 0 0) (high_true h a) ∙ rw (no_low us n) refl) (after_any h 0 us n ∙ read_mended 0 refl m)
read_mended p f (lone_low {l = l} {us = us} b m) =
    after_step p l us ∙ cons_same (replaced_low p l (get_or us 0 0) (low_true l b) ∙ rw f refl) (read_mended l (low_high l b) m)

-- ---- and the other way round

data Sort (u : ℕ) : Type 0 where
  high : High u → Sort u
  low : Low u → Sort u
  other : (High u → ⊥) → (Low u → ⊥) → Sort u

sort : (u : ℕ) → Sort u
sort u = go (high_surrogate u) refl (low_surrogate u) refl
  where
    go : (a : Bool) → high_surrogate u ≡ a → (b : Bool) → low_surrogate u ≡ b → Sort u
    go true p b q = high (true_high u p)
    go false p true q = low (true_low u q)
    go false p false q = other (λ h. true≢false (sym (high_true u h) ∙ p)) (λ l. true≢false (sym (low_true u l) ∙ q))

-- some units are mended to some others
mends : (us : List ℕ) → (vs : List ℕ) × Mended us vs
mends [] = ([], over)
mends (u ∷ []) = go (sort u)
  where
    go : Sort u → (vs : List ℕ) × Mended (u ∷ []) vs
    go (high h) = (0xFFFD ∷ [], lone_high h at_end over)
    go (low l) = (0xFFFD ∷ [], lone_low l over)
    go (other a b) = (u ∷ [], plain a b over)
mends (u ∷ q ∷ us) = go (sort u) (sort q) (mends (q ∷ us)) (mends us)
  where
    go : Sort u → Sort q → (vs : List ℕ) × Mended (q ∷ us) vs → (vs : List ℕ) × Mended us vs → (vs : List ℕ) × Mended (u ∷ q ∷ us) vs
    go (high h) (low l) (vs, m) (ws, n) = (u ∷ q ∷ ws, pair h l n)
    go (high h) (high g) (vs, m) (ws, n) = (0xFFFD ∷ vs, lone_high h (before λ (l : Low q). omega (arith, g.most, l.least)) m)
    go (high h) (other a b) (vs, m) (ws, n) = (0xFFFD ∷ vs, lone_high h (before b) m)
    go (low l) k (vs, m) (ws, n) = (0xFFFD ∷ vs, lone_low l m)
    go (other a b) k (vs, m) (ws, n) = (u ∷ vs, plain a b m)

-- the units that are computed are those that are mended, and no others
pub mended_lossy : (us vs : List ℕ) → Mended us vs ↔ (vs ≡ lossy us)
unfolding lossy
mended_lossy us vs = ((λ m. sym (read_mended 0 refl m)), λ e. let (ws, m) = mends us in rw (e ∙ read_mended 0 refl m) m)

-- ---- the name of an entry

module _ (s : List ℕ) (e : Entry) where
  pub name_read : Mended (units e.units s e.name) (name_of s e)
  unfolding name_of
  name_read = (mended_lossy _ _).1 refl

  pub read_name : (n : List ℕ) → Mended (units e.units s e.name) n → name_of s e ≡ n
  unfolding name_of
  read_name n m = sym ((mended_lossy _ n).0 m)
