-- The sizes and bits that a reading gives.
use Rattle.std.specs.Prelude.{Result, Ok, Err}
use Rattle.format.specs.declared.refusal.Refusal.{Refusal}
use Rattle.sheet.specs.declared.Sizes.{Sizes}

-- those of a sheet that is read, or zeros
abbrev pub sizes : Result Sizes Refusal → Sizes
sizes (Ok s) = s
sizes (Err e) = record { width = 0; height = 0; bits = 0 }
