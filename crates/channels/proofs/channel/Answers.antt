-- `channels::channel`: what the call's number and row promise, of one record.
use mathlib.Core.Path.{ap, ◌∙◌}
use borrow.Author.Rules.{rules}
use Rattle.format.specs.Bytes.{zeros}
use Rattle.channels.proofs.Promises.{one_record}
use Rattle.channels.proofs.channel.Goals as goal

pub returns : goal.returns
returns c =
    let a = c.args in
    let by = one_record a.file.now a.u a.table.now a.row a.i c.prepare-planes.result c.map-c.result c.prepare-planes.ensures c.map-c.ensures.cases in
    let it = by (λ w r p. search rules) (c.clear.ensures ∙ ap zeros c.prepare-planes.auto.table) in
    record { number = it.0; «record» = it.1; cleared = it.2; first = it.3; accepted = it.4; empty = it.5; records = it.6; named = it.7 }
