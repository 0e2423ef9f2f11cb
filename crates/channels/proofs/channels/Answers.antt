-- `channels::channels`: what the call's number, table and row promise.
use mathlib.Core.Path.{ap, ◌∙◌}
use borrow.Author.Rules.{rules}
use Rattle.format.specs.Bytes.{zeros}
use Rattle.channels.proofs.Promises.{whole_row}
use Rattle.channels.proofs.channels.Goals as goal

pub returns : goal.returns
returns c =
    let a = c.args in
    let cleared = c.fill.ensures.0 ∙ ap zeros c.prepare-planes.auto.table in
    let f = whole_row a.file.now a.u a.table.now a.row.now c.prepare-planes.ensures (search rules) cleared
    (rw (← c.no_planes.ensures, ← c.unwrap_or.ensures) c.fill.ensures.1) in
    record { number = f.0; table = f.1; row = f.2; cleared = f.3; first = f.4; accepted = f.5; emptied = f.6; records = f.7; named = f.8 }
