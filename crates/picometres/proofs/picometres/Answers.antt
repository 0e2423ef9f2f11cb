-- `picometres`: what reading gives, and a table that is all zero.
use mathlib.Core.Path.{ap, ◌∙◌}
use Rattle.format.specs.Bytes.{zeros}
use Rattle.picometres.proofs.Promises.{promised}
use Rattle.picometres.proofs.picometres.Goals as goal

pub returns : goal.returns
returns c =
    let it = promised _ _ _ _ c.read_size-found.ensures (c.clear.ensures ∙ ap zeros c.read_size-found.auto.table) in
    record { number = it.0; size = it.1; table = it.2; cleared = it.3; first = it.4; accepted = it.5; zero = it.6; rounded = it.7; named = it.8 }
