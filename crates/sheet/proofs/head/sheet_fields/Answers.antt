-- `sheet_fields`: thirteen fields.
use mathlib.Core.Path.{refl}
use Rattle.format.specs.Bytes.{each}
use Rattle.format.specs.Sheets.{sheet_fields}
use Rattle.sheet.proofs.head.sheet_fields.Goals as goal

pub returns : goal.returns
unfolding each sheet_fields
returns c = rw c.sample_format.ensures refl
