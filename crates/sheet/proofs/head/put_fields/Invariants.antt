use mathlib.Core.Path.{◌≡◌}
use lib.ListN.{take}
use lib.Seq.{sets}
use Rattle.format.specs.Bytes.{each}
use Rattle.format.specs.Sheets.{field_bytes}
use Rattle.sheet.specs.Fields.{field_of}
use Rattle.sheet.proofs.head.put_fields.Given as goal

abbrev pub invariant-loop-i : goal.invariant-loop-i
invariant-loop-i l = l.d ≡ sets l.fn.d l.at (each (λ f. field_bytes (field_of f)) (take l.i l.fields))
