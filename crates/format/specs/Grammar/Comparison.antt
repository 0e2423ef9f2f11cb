-- Change request 3: what comparing two names tells, as rules.
use Rattle.std.specs.Prelude.{ℕ, suc, ◌+◌, ◌*◌, ◌≤◌, ◌<◌, ◌≡◌, Bool, true, false, List, ◌∷◌, ◌++◌, length, get_or}
use Rattle.format.specs.Text.{units}
use Rattle.format.specs.Grammar.Text.{High, Mended}

-- Whether two names with no lone surrogate are the same, and how many units it takes to tell: none where the lengths differ, all where nothing does,
-- and otherwise those before the first that differs, and that one.
pub data Tells : List ℕ → List ℕ → Bool → ℕ → Type 0 where
  unequal : {a b : List ℕ} → (length a ≡ length b → ⊥) → Tells a b false 0
  equal : {a : List ℕ} → Tells a a true (length a)
  differing : (front : List ℕ) (u v : ℕ) (a b : List ℕ) → (u ≡ v → ⊥) → length a ≡ length b
      → Tells (front ++ u ∷ a) (front ++ v ∷ b) false (suc (length front))

-- the same of any two names, both mended before
pub record NamesTell (a b : List ℕ) (same : Bool) (n : ℕ) : Type 0 where
  pub first : List ℕ
  pub second : List ℕ
  pub first_mended : Mended a first
  pub second_mended : Mended b second
  pub tells : Tells first second same n

-- The units of a name that are looked at where its first c are compared: those, and the one after where the last of them is a high surrogate.
pub data Looked (a : List ℕ) (c : ℕ) : ℕ → Type 0 where
  within : {k : ℕ} → k < c → Looked a c k
  ahead : {k : ℕ} → suc k ≡ c → High (get_or a k 0) → Looked a c (suc k)

-- those of the n units at `at` lie in the bytes s
abbrev pub Reaches : List ℕ → ℕ → ℕ → ℕ → Type 0
Reaches s at n c = (k : ℕ) → k < n → Looked (units n s at) c k → at + 2 * k + 2 ≤ length s

-- the first c of them do: all that is looked at where the other name has no surrogate
abbrev pub Spans : List ℕ → ℕ → ℕ → ℕ → Type 0
Spans s at n c = (k : ℕ) → k < n → k < c → at + 2 * k + 2 ≤ length s
