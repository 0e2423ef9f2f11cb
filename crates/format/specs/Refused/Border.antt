-- The border call: opening's refusals, then those of a plane of the summary that the file is joined to.
use Rattle.std.specs.Prelude.{ℕ, List, ◌++◌, map, length}
use Rattle.format.specs.Trees.{room_in}
use Rattle.format.specs.Grammar.File.{Joined}
use Rattle.format.specs.Refused.Order.{FirstAt}
use Rattle.format.specs.Refused.Plane.{PlaneStage, PlaneRefusal, plane_order}
use Rattle.format.specs.Refused.Open.{Stage, open_order, OpenRefusal}
use Rattle.format.specs.declared.Summary.{Summary}

-- a stage of opening, or one of a plane
pub data BorderStage : Type 0 where
  opening : Stage → BorderStage
  reading : PlaneStage → BorderStage

abbrev pub border_order : List BorderStage
border_order = map opening open_order ++ map reading plane_order

-- when each stage refuses; the table has `room` whole entries, and buf is the buffer that is lent for the samples
pub data BorderRefusal (s : List ℕ) (room scene t c z : ℕ) (buf : List ℕ) : BorderStage → ℕ → Type 0 where
  open_refused : {a : Stage} {n : ℕ} → OpenRefusal s room a n → BorderRefusal s room scene t c z buf (opening a) n
  plane_refused : {u : Summary} {a : PlaneStage} {n : ℕ} → Joined s u → PlaneRefusal s u scene t c z buf a n
      → BorderRefusal s room scene t c z buf (reading a) n

-- n is what the first stage that refuses gives, and 0 where none refuses; `table` is the table that is lent
abbrev pub BorderFirst : List ℕ → List ℕ → ℕ → ℕ → ℕ → ℕ → List ℕ → ℕ → Type 0
BorderFirst s table scene t c z buf n = FirstAt (BorderRefusal s (room_in (length table)) scene t c z buf) border_order n
