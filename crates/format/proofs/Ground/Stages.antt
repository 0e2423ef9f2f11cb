-- A chain of stages gives the first refusal among them, and 0 where none refuses. Assumes nothing.
use Prim.Native.Nat.{ℕ, ◌<◌}
use mathlib.Core.Path.{◌≡◌, refl, sym}
use mathlib.Core.Logic.{◌↔◌}
use mathlib.Core.Bool.{Bool, true, false}
use mathlib.Core.Option.{Option, none, some}
use mathlib.Core.List.{List, [], ◌∷◌, ◌++◌, map}
use native.Mathlib.Omega.{arith}
use Rattle.format.proofs.Ground.Answers.{Numbered, refusal, answer, refused≢given, refused_inj}
use Rattle.format.specs.Answer.{Answer, refused, given, refuse_if, and_then, or_refuse, number_of}
use Rattle.format.specs.Grammar.Lists.{In, here, behind}
use Rattle.format.specs.Refused.Order.{FirstAt, accepted, passed}
use Rattle.format.specs.Refused.Order.{refused as first}

-- `DecidesAt P as x`: x is refused by the first of the stages `as` that refuses, and given where none does
pub data DecidesAt {S : Type 0} (P : S → ℕ → Type 0) {A : Type 0} : List S → Answer A → Type 0 where
  stops : {a : S} {n : ℕ} {rest : List S} → P a n → DecidesAt P (a ∷ rest) (refused n)
  gives : {x : A} → DecidesAt P [] (given x)
  goes : {a : S} {rest : List S} {x : Answer A} → ((n : ℕ) → P a n → ⊥) → DecidesAt P rest x → DecidesAt P (a ∷ rest) x

-- ---- chains

module _ {S : Type 0} {P : S → ℕ → Type 0} {A : Type 0} where
  -- a test of a stage; what follows is of the same stage, or behind it
  pub tests : {a : S} {rest : List S} (b : Bool) (n : ℕ) (x : Answer A) → (b ≡ true → P a n) → (b ≡ false → DecidesAt P (a ∷ rest) x)
      → DecidesAt P (a ∷ rest) (refuse_if b n x)
  unfolding refuse_if
  tests true n x f g = stops (f refl)
  tests false n x f g = g refl

  -- what a stage needs
  pub needs : {a : S} {rest : List S} {B : Type 0} (o : Option B) (n : ℕ) (k : B → Answer A) → (o ≡ none → P a n)
      → ((b : B) → o ≡ some b → DecidesAt P (a ∷ rest) (k b))
      → DecidesAt P (a ∷ rest) (and_then (or_refuse o n) k)
  unfolding and_then or_refuse
  needs none n k f g = stops (f refl)
  needs (some b) n k f g = g b refl

  -- an answer of one stage
  pub stage : {a : S} (x : Answer A) → ((n : ℕ) → x ≡ refused n → P a n) → ((y : A) → x ≡ given y → (n : ℕ) → P a n → ⊥) → DecidesAt P (a ∷ []) x
  stage (refused n) f g = stops (f n refl)
  stage (given y) f g = goes (g y refl) gives

  -- and with one number
  pub stage_one : {a : S} (n : ℕ) (x : Answer A) → Numbered (λ m. m ≡ n) x → (((y : A) → x ≡ given y → ⊥) → P a n)
      → ((y : A) → x ≡ given y → (m : ℕ) → P a m → ⊥)
      → DecidesAt P (a ∷ []) x
  stage_one n x (refusal e) f g = rw e (stops (f λ y. refused≢given))
  stage_one n x (answer {a = y}) f g = goes (g y refl) gives

  -- one chain behind the other
  pub decides_then : {B : Type 0} {front back : List S} (x : Answer A) (k : A → Answer B) → DecidesAt P front x
      → ((y : A) → x ≡ given y → DecidesAt P back (k y))
      → DecidesAt P (front ++ back) (and_then x k)
  unfolding and_then
  decides_then x k (stops h) f = stops h
  decides_then x k (gives {x = y}) f = f y refl
  decides_then x k (goes h d) f = goes h (decides_then x k d f)

-- ---- what a chain says of the call's number

module _ {S : Type 0} {P : S → ℕ → Type 0} where
  pub decides_first : {A : Type 0} {stages : List S} {x : Answer A} → DecidesAt P stages x → FirstAt P stages (number_of x)
  unfolding number_of
  decides_first (stops h) = first h
  decides_first gives = accepted
  decides_first (goes h d) = passed h (decides_first d)

  -- what holds of each stage's numbers holds of the call's
  pub decides_numbered : {K : ℕ → Type 0} → ((a : S) (n : ℕ) → P a n → K n)
      → {A : Type 0} {stages : List S} {x : Answer A} → DecidesAt P stages x → Numbered K x
  decides_numbered f (stops {a = a} {n = n} h) = refusal (f a n h)
  decides_numbered f gives = answer
  decides_numbered f (goes h d) = decides_numbered f d

  -- a refusal comes from a stage
  pub decides_from : {A : Type 0} {stages : List S} {x : Answer A} {n : ℕ} → DecidesAt P stages x → x ≡ refused n → (a : S) × P a n
  decides_from {n = n} (stops {a = a} {n = m} h) e = (a, rw (refused_inj e) at h)
  decides_from gives e = absurd (refused≢given (sym e))
  decides_from (goes h d) e = decides_from d e

  -- where no number is 0, a call of the number 0 gives its answer
  pub decides_given : {A : Type 0} {stages : List S} {x : Answer A} → ((a : S) (n : ℕ) → P a n → 0 < n) → DecidesAt P stages x → number_of x ≡ 0
      → (y : A) × (x ≡ given y)
  unfolding number_of
  decides_given f (stops {a = a} {n = n} h) e = let l = f a n h in absurd (omega arith)
  decides_given f (gives {x = y}) e = (y, refl)
  decides_given f (goes h d) e = decides_given f d e

  -- a number that is not 0 comes from a stage
  pub first_from : {stages : List S} {n : ℕ} → FirstAt P stages n → (n ≡ 0 → ⊥) → (a : S) × P a n
  first_from accepted f = absurd (f refl)
  first_from (first {a = a} h) f = (a, h)
  first_from (passed g r) f = first_from r f

  -- where every stage is one of the order and no number is 0, the number is 0 exactly when no stage refuses
  pub accepted_at : {stages : List S} {n : ℕ} → ((a : S) (k : ℕ) → P a k → In a stages × (0 < k)) → FirstAt P stages n
      → (n ≡ 0) ↔ ((k : ℕ) → (a : S) × P a k → ⊥)
  accepted_at f r = (λ e k p. no_stage r e p.0 k (f p.0 k p.1).0 p.1, λ g. none_refuses r λ a k p. g k (a, p))
    where
      no_stage : {stages : List S} {n : ℕ} → FirstAt P stages n → n ≡ 0 → (a : S) (k : ℕ) → In a stages → P a k → ⊥
      no_stage accepted e a k i p = elim i [ ]
      no_stage (first {a = b} {n = m} h) e a k i p = let l = (f b m h).1 in omega arith
      no_stage (passed g r) e a k here p = g k p
      no_stage (passed g r) e a k (behind i) p = no_stage r e a k i p

      none_refuses : {stages : List S} {n : ℕ} → FirstAt P stages n → ((a : S) (k : ℕ) → P a k → ⊥) → n ≡ 0
      none_refuses accepted g = refl
      none_refuses (first {a = a} {n = n} h) g = absurd (g a n h)
      none_refuses (passed h r) g = none_refuses r g

  -- where each stage has one number, so has the call
  pub first_once : ((a : S) (n m : ℕ) → P a n → P a m → n ≡ m) → {stages : List S} {n m : ℕ} → FirstAt P stages n → FirstAt P stages m → n ≡ m
  first_once f accepted accepted = refl
  first_once f (first {a = a} {n = n} h) (first {n = m} k) = f a n m h k
  first_once f (first {n = n} h) (passed g r) = absurd (g n h)
  first_once f (passed g r) (first {n = n} h) = absurd (g n h)
  first_once f (passed g r) (passed h q) = first_once f r q

  -- one call behind another, whose number is this call's where it refuses
  pub first_then : {A : Type 0} {front back : List S} {x : Answer A} (number : Answer A → ℕ) → ((n : ℕ) → number (refused n) ≡ n) → DecidesAt P front x
      → ((y : A) → x ≡ given y → FirstAt P back (number (given y))) → FirstAt P (front ++ back) (number x)
  first_then number e (stops {n = n} h) f = rw (e n) (first h)
  first_then number e (gives {x = y}) f = f y refl
  first_then number e (goes h d) f = passed h (first_then number e d f)

-- ---- stages of one call as those of another

module _ {T : Type 0} {Q : T → ℕ → Type 0} where
  pub decides_map : {S : Type 0} {P : S → ℕ → Type 0} (f : S → T) → ((a : S) (n : ℕ) → P a n → Q (f a) n) → ((a : S) (n : ℕ) → Q (f a) n → P a n)
      → {A : Type 0} {stages : List S} {x : Answer A} → DecidesAt P stages x → DecidesAt Q (map f stages) x
  decides_map f p q (stops {a = a} {n = n} h) = stops (p a n h)
  decides_map f p q gives = gives
  decides_map f p q (goes {a = a} h d) = goes (λ n k. h n (q a n k)) (decides_map f p q d)

  pub first_map : {S : Type 0} {P : S → ℕ → Type 0} (f : S → T) → ((a : S) (n : ℕ) → P a n → Q (f a) n) → ((a : S) (n : ℕ) → Q (f a) n → P a n)
      → {stages : List S} {n : ℕ} → FirstAt P stages n → FirstAt Q (map f stages) n
  first_map f p q accepted = accepted
  first_map f p q (first {a = a} {n = n} h) = first (p a n h)
  first_map f p q (passed {a = a} h r) = passed (λ n k. h n (q a n k)) (first_map f p q r)
