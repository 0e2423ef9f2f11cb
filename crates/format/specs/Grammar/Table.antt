-- Document 01, The grammar: whether a table is enough.
use Rattle.std.specs.Prelude.{ℕ, ◌≤◌, List}
use Rattle.format.specs.Bytes.{ascii}
use Rattle.format.specs.Chunks.{data_in}
use Rattle.format.specs.declared.Range.{Range}
use Rattle.format.specs.Map.{MapEntry}
use Rattle.format.specs.Grammar.Map.{Mapped, Named}
use Rattle.format.specs.Grammar.Trees.{PassedIn}

-- the trees that opening reads
pub data TreeRead : List ℕ → Type 0 where
  attributes : TreeRead (ascii "ImageAttributesLV!")
  experiment : TreeRead (ascii "ImageMetadataLV!")
  calibration : TreeRead (ascii "ImageCalibrationLV|0!")

-- A table of `room` whole entries is enough where of no tree that opening reads more records than that pass, those inside of levels too, before the tree ends
-- or a fault stops it.
abbrev pub Enough : List ℕ → ℕ → Type 0
Enough s room =
    (r : Range) (es : List MapEntry) (name : List ℕ) (q : Range) → Mapped s r es → TreeRead name → Named s (data_in s r) es name q
    → (n : ℕ) → PassedIn s q n → n ≤ room
