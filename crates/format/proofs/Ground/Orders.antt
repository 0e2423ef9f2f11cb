-- A chain of refusals gives the first one that holds, and 0 where none does. Assumes nothing.
use Prim.Native.Nat.{ℕ, ◌<◌}
use mathlib.Core.Path.{◌≡◌, refl}
use mathlib.Core.Logic.{◌↔◌}
use mathlib.Core.Bool.{Bool, true, false, not, ◌&&◌, false≢true}
use mathlib.Core.List.{List, [], ◌∷◌, ◌++◌}
use native.Mathlib.Omega.{arith}
use lib.Dec.{eqb, ltb}
use borrow.Author.Tests.{eqb-false, ltb-true, ltb-false}
use Rattle.format.proofs.Ground.Tests.{and_left, and_right}
use Rattle.format.proofs.Ground.Lists.{all_in}
use Rattle.format.proofs.Ground.Answers.{Numbered, refusal, answer, NotZero}
use Rattle.format.specs.Answer.{Answer, refused, given, refuse_if, and_then, number_of}
use Rattle.format.specs.Grammar.Lists.{All, over, more, In, here, behind}
use Rattle.format.specs.Refused.Order.{First, accepted, passed}
use Rattle.format.specs.Refused.Order.{refused as first}

-- `Decides P ns x`: x is refused by the first of ns of which P holds, and given where P holds of none
pub data Decides (P : ℕ → Type 0) {A : Type 0} : List ℕ → Answer A → Type 0 where
  stops : {n : ℕ} {ns : List ℕ} → P n → Decides P (n ∷ ns) (refused n)
  gives : {a : A} → Decides P [] (given a)
  goes : {n : ℕ} {ns : List ℕ} {x : Answer A} → (P n → ⊥) → Decides P ns x → Decides P (n ∷ ns) x

-- ---- chains

module _ {P : ℕ → Type 0} {A : Type 0} where
  pub decides_if : {ns : List ℕ} (b : Bool) (n : ℕ) (x : Answer A) → (b ≡ true → P n) → (b ≡ false → P n → ⊥) → (b ≡ false → Decides P ns x)
      → Decides P (n ∷ ns) (refuse_if b n x)
  unfolding refuse_if
  decides_if true n x f g h = stops (f refl)
  decides_if false n x f g h = goes (g refl) (h refl)

  -- a test of two numbers
  pub decides_less : {ns : List ℕ} (a b n : ℕ) (x : Answer A) → (a < b → P n) → (P n → a < b) → Decides P ns x → Decides P (n ∷ ns) (refuse_if (ltb a b) n x)
  decides_less a b n x f g h = decides_if (ltb a b) n x (λ q. f (ltb-true a b q)) (λ q p. let l = g p in let m = ltb-false a b q in omega arith) λ q. h

  -- an answer with one refusal
  pub decides_one : (n : ℕ) (x : Answer A) → Numbered (λ m. m ≡ n) x → (((a : A) → x ≡ given a → ⊥) → P n) → ((a : A) → x ≡ given a → P n → ⊥)
      → Decides P (n ∷ []) x
  decides_one n x (refusal {n = m} e) f g = rw e (stops (f λ a q. let z : ◌≡◌ {A = ℕ} 0 1 = cc in omega arith))
  decides_one n x (answer {a = a}) f g = goes (g a refl) gives

  pub decides_then : {B : Type 0} {ns ms : List ℕ} (x : Answer A) (k : A → Answer B) → Decides P ns x → ((a : A) → x ≡ given a → Decides P ms (k a))
      → Decides P (ns ++ ms) (and_then x k)
  unfolding and_then
  decides_then x k (stops h) f = stops h
  decides_then x k (gives {a = a}) f = f a refl
  decides_then x k (goes h d) f = goes h (decides_then x k d f)

-- ---- what a chain says

module _ {P : ℕ → Type 0} {A : Type 0} where
  -- of the call's number
  pub decides_first : {ns : List ℕ} {x : Answer A} → Decides P ns x → First P ns (number_of x)
  unfolding number_of
  decides_first (stops h) = first h
  decides_first gives = accepted
  decides_first (goes h d) = passed h (decides_first d)

  -- a number that is 0 is an answer's
  pub decides_given : {ns : List ℕ} {x : Answer A} → All NotZero ns → Decides P ns x → number_of x ≡ 0 → (a : A) × (x ≡ given a)
  unfolding number_of
  decides_given (more q qs) (stops {n = n} h) e = absurd (omega arith)
  decides_given qs (gives {a = a}) e = (a, refl)
  decides_given (more q qs) (goes h d) e = decides_given qs d e

-- ---- the number 0

-- whether each number passes a test
abbrev pub each : (ℕ → Bool) → List ℕ → Bool
each f [] = true
each f (n ∷ ns) = f n && each f ns

pub all_by : {Q : ℕ → Type 0} (f : ℕ → Bool) → ((n : ℕ) → f n ≡ true → Q n) → (ns : List ℕ) → each f ns ≡ true → All Q ns
all_by f g [] e = over
all_by f g (n ∷ ns) e = more (g n (and_left (f n) (each f ns) e)) (all_by f g ns (and_right (f n) (each f ns) e))

pub nonzero : (ns : List ℕ) → each (ltb 0) ns ≡ true → All NotZero ns
nonzero ns e = all_by (ltb 0) (ltb-true 0) ns e

-- a number that is not among them
pub not_in : (k : ℕ) (ns : List ℕ) → each (λ n. not (eqb k n)) ns ≡ true → In k ns → ⊥
not_in k ns e i = all_in i (all_by {Q = λ n. k ≡ n → ⊥} (λ n. not (eqb k n)) (λ n. other n (eqb k n) refl) ns e) refl
  where
    other : (n : ℕ) (b : Bool) → eqb k n ≡ b → not b ≡ true → k ≡ n → ⊥
    other n true q f = absurd (false≢true f)
    other n false q f = eqb-false k n q

module _ {P : ℕ → Type 0} where
  first_none : {ns : List ℕ} {n : ℕ} → First P ns n → All NotZero ns → n ≡ 0 → (k : ℕ) → In k ns → P k → ⊥
  first_none accepted qs e k i p = elim i [ ]
  first_none (first {n = n} h) (more q qs) e k i p = omega arith
  first_none (passed f r) (more q qs) e k here p = f p
  first_none (passed f r) (more q qs) e k (behind i) p = first_none r qs e k i p

  none_first : {ns : List ℕ} {n : ℕ} → First P ns n → ((k : ℕ) → P k → ⊥) → n ≡ 0
  none_first accepted f = refl
  none_first (first {n = n} h) f = absurd (f n h)
  none_first (passed g r) f = none_first r f

  -- a number that is not 0 is one of the order
  pub first_in : {ns : List ℕ} {n : ℕ} → First P ns n → (n ≡ 0 → ⊥) → In n ns
  first_in accepted f = absurd (f refl)
  first_in (first h) f = here
  first_in (passed g r) f = behind (first_in r f)

  -- Where every refusal has a number of the order, the number is 0 exactly when none of them holds.
  pub accepted_iff : {ns : List ℕ} {n : ℕ} → All NotZero ns → ((k : ℕ) → P k → In k ns) → First P ns n → (n ≡ 0) ↔ ((k : ℕ) → P k → ⊥)
  accepted_iff qs f r = (λ e k p. first_none r qs e k (f k p) p, none_first r)
