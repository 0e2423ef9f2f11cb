-- `nd2_sheet_read`: the sizes that are read, or zeros.
use Rattle.std.proofs.Common.{◌≡◌, sym, refl, ◌∙◌, Ok, Err}
use Rattle.std.specs.Prelude.{Result}
use Rattle.std.specs.Result.{result_unwrap_or}
use Rattle.format.specs.declared.refusal.Refusal.{Refusal}
use Rattle.sheet.specs.Sizes.{sizes}
use Rattle.sheet.specs.declared.Sizes.{Sizes}
use Rattle.capi.proofs.nd2_sheet_read.Goals as goal

read_sizes : (r : Result Sizes Refusal) → result_unwrap_or r (record { width = 0; height = 0; bits = 0 }) ≡ sizes r
read_sizes (Ok s) = refl
read_sizes (Err e) = refl

pub returns-clause-taken : goal.returns-clause-taken
returns-clause-taken c z =
    rw (c.unwrap_or-sizes.ensures, read_sizes) (c.sheet_read-read.ensures.taken (sym c.number_of.ensures ∙ z))

pub returns-clause-layout : goal.returns-clause-layout
returns-clause-layout c = rw c.number_of.ensures c.sheet_read-read.ensures.layout
