-- Change request 3: whether two names are the same, and how many units are compared to tell.
use Rattle.std.specs.Prelude.{ℕ, suc, true, false, cond, List, [], ◌∷◌, eqb, length}
use Rattle.format.specs.Text.{units, lossy}
use Rattle.format.specs.declared.Comparison.{Comparison}

-- how many units two names begin with alike
unfoldable pub common_units : List ℕ → List ℕ → ℕ
common_units [] b = 0
common_units (u ∷ a) [] = 0
common_units (u ∷ a) (v ∷ b) = cond (eqb u v) (suc (common_units a b)) 0

-- two names told apart after so many units
abbrev pub differ : ℕ → Comparison
differ n = record { same = false; units = n }

-- two names found the same after so many
abbrev pub alike : ℕ → Comparison
alike n = record { same = true; units = n }

-- Two names with no lone surrogate. With unequal lengths no unit is compared; otherwise all are where all are alike, or else those alike and the one after.
unfoldable pub comparison : List ℕ → List ℕ → Comparison
unfolding common_units
comparison a b =
    cond (eqb (length a) (length b)) (cond (eqb (common_units a b) (length a)) (alike (length a)) (differ (suc (common_units a b)))) (differ 0)

-- two names as they stand in a file
abbrev pub compared : List ℕ → List ℕ → Comparison
compared a b = comparison (lossy a) (lossy b)

-- the n units at `at` and the m at `from` of the same bytes
abbrev pub compared_in : List ℕ → ℕ → ℕ → ℕ → ℕ → Comparison
compared_in s at n from m = compared (units n s at) (units m s from)

-- a name of ASCII bytes and the n units at `at`
abbrev pub compared_with : List ℕ → List ℕ → ℕ → ℕ → Comparison
compared_with name s at n = comparison name (lossy (units n s at))
