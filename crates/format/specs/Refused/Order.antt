-- The first refusal in a call's order is its answer.
use Rattle.std.specs.Prelude.{ℕ, List, [], ◌∷◌}

-- `First P ns n`: n is the first of ns of which P holds, and 0 where P holds of none
pub data First (P : ℕ → Type 0) : List ℕ → ℕ → Type 0 where
  accepted : First P [] 0
  refused : {n : ℕ} {ns : List ℕ} → P n → First P (n ∷ ns) n
  passed : {n m : ℕ} {ns : List ℕ} → (P n → ⊥) → First P ns m → First P (n ∷ ns) m

-- The same where a call has stages, so that a number may come more than once. `P a n` says that the stage a refuses with the number n, and `FirstAt P stages n`
-- that n is what the first of the stages that refuses gives, and 0 where none refuses.
pub data FirstAt {A : Type 0} (P : A → ℕ → Type 0) : List A → ℕ → Type 0 where
  accepted : FirstAt P [] 0
  refused : {a : A} {n : ℕ} {rest : List A} → P a n → FirstAt P (a ∷ rest) n
  passed : {a : A} {m : ℕ} {rest : List A} → ((n : ℕ) → P a n → ⊥) → FirstAt P rest m → FirstAt P (a ∷ rest) m
