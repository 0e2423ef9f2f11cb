-- The picometres call, by stages, since 4 and 11 come twice: the tree call's refusals for the calibration's chunk, then no size above 0, then a size too large.
use Rattle.std.specs.Prelude.{ℕ, ◌^◌, ◌≤◌, List, [], ◌∷◌, ◌++◌, map}
use Rattle.format.specs.Bytes.{ascii}
use Rattle.format.specs.Values.{Value}
use Rattle.format.specs.Grammar.Trees.{Tree}
use Rattle.format.specs.Grammar.Picometres.{Endless, AboveZero, InPicometres, SizeStated}
use Rattle.format.specs.Refused.Tree.{NameData, TreeStage, TreeRefusal, tree_order}
use Rattle.format.specs.Refusals as why
use Rattle.format.specs.declared.Range.{Range}
use Rattle.format.specs.declared.Entry.{Entry}
use Rattle.format.specs.declared.Summary.{Summary}

-- a stage of the tree call, or one behind it
pub data PicometresStage : Type 0 where
  reading : TreeStage → PicometresStage
  size : PicometresStage
  range : PicometresStage

abbrev pub picometres_order : List PicometresStage
picometres_order = map reading tree_order ++ size ∷ range ∷ []

-- the calibration's chunk has a tree of the entries es
pub record CalibrationTree (s : List ℕ) (u : Summary) (es : List Entry) : Type 0 where
  pub place : Range
  pub chunk : NameData s u (ascii "ImageCalibrationLV|0!") place
  pub tree : Tree s place es

-- and that states the size v
pub record SizeAt (s : List ℕ) (u : Summary) (v : Value) : Type 0 where
  pub entries : List Entry
  pub tree : CalibrationTree s u entries
  pub stated : SizeStated s entries v

-- the pixel size of the summary's file is n picometres
pub record SizeIs (s : List ℕ) (u : Summary) (n : ℕ) : Type 0 where
  pub value : Value
  pub there : SizeAt s u value
  pub in_picometres : InPicometres value n

-- when each stage refuses; the table has `room` whole entries
pub data PicometresRefusal (s : List ℕ) (u : Summary) (room : ℕ) : PicometresStage → ℕ → Type 0 where
  tree_refused : {a : TreeStage} {n : ℕ} → TreeRefusal s u (ascii "ImageCalibrationLV|0!") room a n → PicometresRefusal s u room (reading a) n
  no_size : {es : List Entry} → CalibrationTree s u es → ((v : Value) → SizeStated s es v → AboveZero v → ⊥) → PicometresRefusal s u room size why.missing
  endless : {v : Value} → SizeAt s u v → Endless v → PicometresRefusal s u room range why.size_range
  too_large : {n : ℕ} → SizeIs s u n → 2 ^ 64 ≤ n → PicometresRefusal s u room range why.size_range
