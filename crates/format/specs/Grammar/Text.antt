-- Document 01, The grammar: the units of a name, as rules. Names are compared with U+FFFD for each surrogate that has no partner.
use Rattle.std.specs.Prelude.{ℕ, ◌≤◌, ◌<◌, List, [], ◌∷◌}

-- a high and a low surrogate: in this order they are a pair
pub record High (u : ℕ) : Type 0 where
  pub least : 0xD800 ≤ u
  pub most : u < 0xDC00

pub record Low (u : ℕ) : Type 0 where
  pub least : 0xDC00 ≤ u
  pub most : u < 0xE000

-- no low surrogate stands first
pub data NoLow : List ℕ → Type 0 where
  at_end : NoLow []
  before : {u : ℕ} {us : List ℕ} → (Low u → ⊥) → NoLow (u ∷ us)

-- the units with U+FFFD for each surrogate that is of no pair
pub data Mended : List ℕ → List ℕ → Type 0 where
  over : Mended [] []
  plain : {u : ℕ} {us vs : List ℕ} → (High u → ⊥) → (Low u → ⊥) → Mended us vs → Mended (u ∷ us) (u ∷ vs)
  pair : {h l : ℕ} {us vs : List ℕ} → High h → Low l → Mended us vs → Mended (h ∷ l ∷ us) (h ∷ l ∷ vs)
  lone_high : {h : ℕ} {us vs : List ℕ} → High h → NoLow us → Mended us vs → Mended (h ∷ us) (0xFFFD ∷ vs)
  lone_low : {l : ℕ} {us vs : List ℕ} → Low l → Mended us vs → Mended (l ∷ us) (0xFFFD ∷ vs)
