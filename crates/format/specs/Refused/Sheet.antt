-- Change request 2: the refusals of a sheet that is written and of one that is read.
use Rattle.std.specs.Prelude.{ℕ, ◌+◌, ◌<◌, List, [], ◌∷◌, ◌++◌, map, length}
use Rattle.format.specs.Refusals as why
use Rattle.format.specs.Attributes.{plane_bytes}
use Rattle.format.specs.Summary.{shape_of}
use Rattle.format.specs.Grammar.Sheets.{SheetOf}
use Rattle.format.specs.Refused.Plane.{FrameStage, FrameRefusal, frame_order}
use Rattle.format.specs.declared.Summary.{Summary}

pub data SheetStage : Type 0 where
  frame : FrameStage → SheetStage
  size : SheetStage
  buffer : SheetStage

-- 26 stands between 24 and 25
abbrev pub sheet_order : List SheetStage
sheet_order = map frame frame_order ++ size ∷ buffer ∷ []

-- when each stage refuses a sheet that is written; lent is the bytes that are lent for it
pub data SheetRefusal (s : List ℕ) (u : Summary) (scene t c z : ℕ) (lent : List ℕ) : SheetStage → ℕ → Type 0 where
  frame_refused : {a : FrameStage} {n : ℕ} → FrameRefusal s u scene t c z a n → SheetRefusal s u scene t c z lent (frame a) n
  too_long : 4_294_967_295 < 186 + plane_bytes (shape_of u) → SheetRefusal s u scene t c z lent size why.sheet_long
  lent_short : length lent < 186 + plane_bytes (shape_of u) → SheetRefusal s u scene t c z lent buffer why.buffer

-- when each refusal holds of the sheet s that is read; buf is the buffer that is lent for the samples
pub data SheetReadRefusal (s buf : List ℕ) : ℕ → Type 0 where
  layout : ((w h b : ℕ) (samples : List ℕ) → SheetOf s w h b samples → ⊥) → SheetReadRefusal s buf why.sheet_layout
  samples_short : {w h b : ℕ} {samples : List ℕ} → SheetOf s w h b samples → length buf < length samples → SheetReadRefusal s buf why.buffer

-- 27 comes first
abbrev pub sheet_read_order : List ℕ
sheet_read_order = why.sheet_layout ∷ why.buffer ∷ []
