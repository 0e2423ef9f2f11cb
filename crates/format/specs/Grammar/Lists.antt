-- Document 01, The grammar: what its rules say of lists.
use Rattle.std.specs.Prelude.{ℕ, ◌<◌, List, [], ◌∷◌}

-- P holds of each
pub data All (P : ℕ → Type 0) : List ℕ → Type 0 where
  over : All P []
  more : {i : ℕ} {is : List ℕ} → P i → All P is → All P (i ∷ is)

-- j is one of them
pub data In {A : Type 0} (j : A) : List A → Type 0 where
  here : {is : List A} → In j (j ∷ is)
  behind : {i : A} {is : List A} → In j is → In j (i ∷ is)

pub data Rising : List ℕ → Type 0 where
  none : Rising []
  one : {i : ℕ} → Rising (i ∷ [])
  step : {i j : ℕ} {js : List ℕ} → i < j → Rising (j ∷ js) → Rising (i ∷ j ∷ js)

-- js are just the numbers of which P holds, in order
pub record Just (P : ℕ → Type 0) (js : List ℕ) : Type 0 where
  pub rising : Rising js
  pub each : All P js
  pub every : (j : ℕ) → P j → In j js
