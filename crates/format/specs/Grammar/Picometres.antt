-- Change request 5: picometres, as rules over whole numbers. The size that a tree states is taken as it is stored: a whole number is not made a double first.
use Rattle.std.specs.Prelude.{ℕ, suc, ◌+◌, ◌-◌, ◌*◌, ◌%◌, ◌≤◌, ◌<◌, ◌≡◌, false, List, pos, Float}
use Rattle.std.specs.Float.{inf}
use Rattle.format.specs.Bytes.{ascii}
use Rattle.format.specs.Values.{Value, double, level}
use Rattle.format.specs.Grammar.Values.{Field}
use Rattle.format.specs.Grammar.Numbers.{Number, Measures}
use Rattle.format.specs.declared.Entry.{Entry}

-- ---- the nearest whole number

-- how far n is from a / b, in parts of which b are 1: of the two differences one is 0
abbrev pub distance : ℕ → ℕ → ℕ → ℕ
distance a b n = a - n * b + (n * b - a)

-- n is the whole number nearest to a / b, and the even one of two that are as near
pub record Rounds (a b n : ℕ) : Type 0 where
  pub nearest : (k : ℕ) → distance a b n ≤ distance a b k
  pub even_of_two : (k : ℕ) → distance a b k ≡ distance a b n → (k ≡ n → ⊥) → n % 2 ≡ 0

-- ---- a size

-- the value is size / unit, above 0: a flag that is set is 1
pub data Positive : Value → ℕ → ℕ → Type 0 where
  whole_number_is : {v : Value} {n : ℕ} → Number v (pos n) → 0 < n → Positive v n 1
  of_double : {x : Float} {size unit : ℕ} → Measures x false size unit → 0 < size → Positive (double x) size unit

-- the value is plus infinity
pub data Endless : Value → Type 0 where
  plus_infinity : Endless (double (inf false))

-- the value is above 0
pub data AboveZero (v : Value) : Type 0 where
  finite : {size unit : ℕ} → Positive v size unit → AboveZero v
  infinite : Endless v → AboveZero v

-- so many micrometres are n picometres, when rounded
pub record InPicometres (v : Value) (n : ℕ) : Type 0 where
  pub size : ℕ
  pub unit : ℕ
  pub above_0 : Positive v size unit
  pub rounds : Rounds (size * 1_000_000) unit n

-- the tree of the entries es has the value v for dCalibration, in its level SLxCalibration
pub record SizeStated (s : List ℕ) (es : List Entry) (v : Value) : Type 0 where
  pub at_level : ℕ
  pub level_there : Field s es 0 (ascii "SLxCalibration") (level at_level)
  pub stated : Field s es (suc at_level) (ascii "dCalibration") v
