-- Different places of different frames: (scene, t, z) in range is found again from the frame's number; a number's digits, one by one. Assumes nothing.
use Prim.Native.Nat.{ℕ, zero, suc, ◌+◌, ◌*◌, ◌/◌, ◌%◌, ◌^◌, ◌≤◌, ◌<◌}
use mathlib.Core.Path.{◌≡◌, refl, sym, ap, ◌∙◌}
use mathlib.Core.Bool.{Bool, true, false, cond, ◌||◌, true≢false}
use mathlib.Core.Logic.{◌⊎◌, inl, inr}
use mathlib.Core.List.{List, [], ◌∷◌, ◌++◌}
use native.Mathlib.Nat.{suc-mul, mul-le-mul_right, eq-or-lt_of_le, pow-suc, div-lt_iff_lt-mul}
use native.Mathlib.Decide.{dec_le}
use native.Mathlib.Omega.{arith}
use lib.Dec.{eqb, ltb}
use borrow.Author.Tests.{eqb-true, eqb-false, ne_eqb, eq-eqb, ltb-false, lt-ltb, le-ltb}
use Rattle.format.proofs.Ground.Tests.{or_left, or_right, or_none}
use Rattle.format.specs.Loops.{has_axis, axis_number, most_count}
use Rattle.format.specs.Frames.{count_of, index_of, seq_from, seq_index, digits_from}
use Rattle.format.specs.Summary.{bad_loops}
use Rattle.format.specs.Grammar.Loops.{Free, Distinct, Counted}
use Rattle.format.specs.Grammar.Loops.{nil, cons}
use Rattle.format.specs.Refused.Plane.{Within}
use Rattle.format.specs.declared.Axis.{Axis}
use Rattle.format.specs.declared.Axis.TheVariants.{T, Z, P}
use Rattle.format.specs.declared.Loop.{Loop}

-- i and j agree on every axis of ls
data Agree (i j : Axis → ℕ) : List Loop → Type 0 where
  none : Agree i j []
  one : {l : Loop} {ls : List Loop} → i l.axis ≡ j l.axis → Agree i j ls → Agree i j (l ∷ ls)

-- every loop of ls has an index below its count
pub data Below (i : Axis → ℕ) : List Loop → Type 0 where
  none : Below i []
  one : {l : Loop} {ls : List Loop} → i l.axis < l.count → Below i ls → Below i (l ∷ ls)

digits : (n m c i j : ℕ) → i < c → j < c → n * c + i ≡ m * c + j → (n ≡ m) × (i ≡ j)
digits n m c i j hi hj e = go (dec_le n m)
  where
    lower : (n m i j : ℕ) → i < c → j < c → n * c + i ≡ m * c + j → n ≤ m → n ≡ m
    lower n m i j hi hj e h = by (eq-or-lt_of_le h)
      where
        by : (n ≡ m) ⊎ (n < m) → n ≡ m
        by (inl q) = q
        by (inr l) = let k : n * c + c ≤ m * c = rw (← suc-mul) (mul-le-mul_right c l) in omega arith

    same : n ≡ m → (n ≡ m) × (i ≡ j)
    same q = let q2 : n * c ≡ m * c = ap (λ (x : ℕ). x * c) q in (q, omega arith)

    go : Dec (n ≤ m) → (n ≡ m) × (i ≡ j)
    go (yes h) = same (lower n m i j hi hj e h)
    go (no h) = same (sym (lower m n j i hj hi (sym e) (omega arith)))

abbrev pub index : ℕ → ℕ → ℕ → Axis → ℕ
index scene t z a = index_of a scene t z

seq_agree : (ls : List Loop) (n m scene t z scene' t' z' : ℕ) → Below (index scene t z) ls → Below (index scene' t' z') ls
    → seq_from n ls scene t z ≡ seq_from m ls scene' t' z' → (n ≡ m) × Agree (index scene t z) (index scene' t' z') ls
unfolding seq_from
seq_agree [] n m scene t z scene' t' z' b b' e = (e, none)
seq_agree (l ∷ ls) n m scene t z scene' t' z' (one h b) (one h' b') e =
    let r = seq_agree ls (n * l.count + index_of l.axis scene t z) (m * l.count + index_of l.axis scene' t' z') scene t z scene' t' z' b b' e in
    let q = digits n m l.count (index_of l.axis scene t z) (index_of l.axis scene' t' z') h h' r.0 in
    (q.0, one q.1 r.1)

pub axis_number_is : (a b : Axis) → axis_number a ≡ axis_number b → a ≡ b
axis_number_is T T e = refl
axis_number_is T Z e = absurd (let z : ◌≡◌ {A = ℕ} 0 1 = e in omega arith)
axis_number_is T P e = absurd (let z : ◌≡◌ {A = ℕ} 0 2 = e in omega arith)
axis_number_is Z T e = absurd (let z : ◌≡◌ {A = ℕ} 1 0 = e in omega arith)
axis_number_is Z Z e = refl
axis_number_is Z P e = absurd (let z : ◌≡◌ {A = ℕ} 1 2 = e in omega arith)
axis_number_is P T e = absurd (let z : ◌≡◌ {A = ℕ} 2 0 = e in omega arith)
axis_number_is P Z e = absurd (let z : ◌≡◌ {A = ℕ} 2 1 = e in omega arith)
axis_number_is P P e = refl

-- an axis on which the loops agree, or that no loop has
agree_at : (ls : List Loop) (i j : Axis → ℕ) (a : Axis) → Agree i j ls → i a < count_of a ls → j a < count_of a ls → i a ≡ j a
unfolding count_of
agree_at [] i j a g hi hj = omega arith
agree_at (l ∷ ls) i j a (one e g) hi hj = go (eqb (axis_number l.axis) (axis_number a)) refl (agree_at ls i j a g)
  where
    go : (b : Bool) → eqb (axis_number l.axis) (axis_number a) ≡ b → (i a < count_of a ls → j a < count_of a ls → i a ≡ j a) → i a ≡ j a
    go true q k = rw (← axis_number_is l.axis a (eqb-true _ _ q)) e
    go false q k = k (rw q at hi) (rw q at hj)

pub has_free : (a : Axis) (ls : List Loop) → has_axis a ls ≡ false → Free a ls
unfolding has_axis
has_free a [] e = nil
has_free a (l ∷ ls) e =
    let t = eqb (axis_number l.axis) (axis_number a) in
    cons (λ q. eqb-false _ _ (or_left t (has_axis a ls) e) (ap axis_number q)) (has_free a ls (or_right t (has_axis a ls) e))

pub free_has : (a : Axis) (ls : List Loop) → Free a ls → has_axis a ls ≡ false
unfolding has_axis
free_has a [] f = refl
free_has a (l ∷ ls) (cons n f) = or_none _ _ (ne_eqb _ _ (λ q. n (axis_number_is l.axis a q))) (free_has a ls f)

-- where no axis stands twice, an index below its axis's count is below its loop's count
below_from : (i : Axis → ℕ) (ls : List Loop) → Distinct ls → ((a : Axis) → has_axis a ls ≡ true → i a < count_of a ls) → Below i ls
unfolding count_of has_axis
below_from i [] d h = none
below_from i (l ∷ ls) (cons f d) h =
    one (rw same at (h l.axis (rw same refl))) (below_from i ls d (λ a q. rest a q (eqb (axis_number l.axis) (axis_number a)) refl))
  where
    same : eqb (axis_number l.axis) (axis_number l.axis) ≡ true
    same = eq-eqb (axis_number l.axis) (axis_number l.axis) refl

    rest : (a : Axis) → has_axis a ls ≡ true → (b : Bool) → eqb (axis_number l.axis) (axis_number a) ≡ b → i a < count_of a ls
    rest a q true e = absurd (true≢false (sym q ∙ ap (λ (x : Axis). has_axis x ls) (sym (axis_number_is _ _ (eqb-true _ _ e))) ∙ free_has l.axis ls f))
    rest a q false e = rw e at (h a (rw e q))

each_below : (ls : List Loop) (scene t z : ℕ) → Within ls scene t z → (a : Axis) → index scene t z a < count_of a ls
each_below ls scene t z w T = w.t_below
each_below ls scene t z w Z = w.z_below
each_below ls scene t z w P = w.scene_below

pub within_below : (ls : List Loop) (scene t z : ℕ) → Distinct ls → Within ls scene t z → Below (index scene t z) ls
within_below ls scene t z d w = below_from (index scene t z) ls d (λ a _. each_below ls scene t z w a)

-- Where no axis stands twice, different triples in range have different frame numbers.
pub seq_different : (ls : List Loop) (scene t z scene' t' z' : ℕ) → Distinct ls → Within ls scene t z → Within ls scene' t' z'
    → seq_index ls scene t z ≡ seq_index ls scene' t' z' → (scene ≡ scene') × (t ≡ t') × (z ≡ z')
unfolding seq_index
seq_different ls scene t z scene' t' z' d w w' e = (at P, at T, at Z)
  where
    agree : Agree (index scene t z) (index scene' t' z') ls
    agree = (seq_agree ls 0 0 scene t z scene' t' z' (within_below ls scene t z d w) (within_below ls scene' t' z' d w') e).1

    at : (a : Axis) → index scene t z a ≡ index scene' t' z' a
    at a = agree_at ls (index scene t z) (index scene' t' z') a agree (each_below ls scene t z w a) (each_below ls scene' t' z' w' a)

-- The loops that pass the test 20.
pub good_loops : (ls : List Loop) → bad_loops ls ≡ false → Counted ls × Distinct ls
unfolding bad_loops
good_loops [] e = (nil, nil)
good_loops (l ∷ ls) e =
    let zero = eqb l.count 0 in
    let many = ltb most_count l.count in
    let twice = has_axis l.axis ls in
    let e₁ = or_left (zero || many || twice) (bad_loops ls) e in
    let e₂ = or_left (zero || many) twice e₁ in
    let more = good_loops ls (or_right (zero || many || twice) (bad_loops ls) e) in
    let some : (l.count ≡ 0 → ⊥) = eqb-false _ _ (or_left zero many e₂) in
    let least : 0 < l.count = omega arith in
    (cons least (ltb-false _ _ (or_right zero many e₂)) more.0, cons (has_free l.axis ls (or_right (zero || many) twice e₁)) more.1)

pub loops_good : (ls : List Loop) → Counted ls → Distinct ls → bad_loops ls ≡ false
unfolding bad_loops
loops_good [] c d = refl
loops_good (l ∷ ls) (cons h₁ h₂ c) (cons f d) =
    or_none _ _ (or_none _ _ (or_none _ _ (ne_eqb l.count 0 (λ q. omega arith)) (le-ltb _ _ h₂)) (free_has l.axis ls f)) (loops_good ls c d)

-- ---- digits

pub digits_one : (f n : ℕ) (r : List ℕ) → n < 10 → digits_from (suc f) n r ≡ (48 + n) ∷ r
unfolding digits_from
digits_one f n r h = rw (lt-ltb _ _ h)

pub digits_more : (f n : ℕ) (r : List ℕ) → 10 ≤ n → digits_from (suc f) n r ≡ digits_from f (n / 10) ((48 + n % 10) ∷ r)
unfolding digits_from
digits_more f n r h = rw (le-ltb _ _ h)

pub digits_before : (f n : ℕ) (r t : List ℕ) → digits_from f n r ++ t ≡ digits_from f n (r ++ t)
unfolding digits_from
digits_before zero n r t = refl
digits_before (suc f) n r t = by (ltb n 10) (digits_before f (n / 10) ((48 + n % 10) ∷ r) t)
  where
    by : (b : Bool) → digits_from f (n / 10) ((48 + n % 10) ∷ r) ++ t ≡ digits_from f (n / 10) ((48 + n % 10) ∷ (r ++ t))
        → cond b ((48 + n) ∷ r) (digits_from f (n / 10) ((48 + n % 10) ∷ r)) ++ t
        ≡ cond b ((48 + n) ∷ (r ++ t)) (digits_from f (n / 10) ((48 + n % 10) ∷ (r ++ t)))
    by true e = refl
    by false e = e

-- a number of two digits or more has a place for each
pub two_digits : (f n : ℕ) → 10 ≤ n → n < 10 ^ f → 2 ≤ f
two_digits zero n h l = absurd (omega arith)
two_digits (suc zero) n h l = absurd (omega arith)
two_digits (suc (suc f)) n h l = omega arith

pub fewer_digits : (f n : ℕ) → n < 10 ^ suc f → n / 10 < 10 ^ f
fewer_digits f n l = (div-lt_iff_lt-mul {k = 10} (omega arith)).1 (rw pow-suc at l)
