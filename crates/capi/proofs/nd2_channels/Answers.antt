-- `nd2_channels`: the channels call on the summary that the bytes say.
use Rattle.std.proofs.Common.{length, sym, ◌∙◌}
use Rattle.capi.proofs.OnSummary.{said, where_said, accepted_said}
use Rattle.capi.proofs.Rows.{row_first, row_accepted, row_refused, row_recorded}
use Rattle.capi.proofs.nd2_channels.Goals as goal

pub returns-clause-refused : goal.returns-clause-refused
returns-clause-refused c f =
    let a = c.args in
    let p = c.put_row.ensures in
    p.row ∙ row_refused a.file.now a.table.now c.in-Some.u (length a.row.now) (λ z. f (p.number ∙ z))

pub returns-clause-first : goal.returns-clause-first
returns-clause-first c =
    let a = c.args in
    where_said _ _ c.in-Some.ensures _ (rw c.put_row.ensures.number (row_first a.file.now a.table.now c.in-Some.u (length a.row.now)))

pub returns-clause-accepted : goal.returns-clause-accepted
returns-clause-accepted c =
    let a = c.args in
    accepted_said _ _ c.in-Some.ensures _ c.put_row.ensures.number (row_accepted a.file.now a.table.now c.in-Some.u (length a.row.now))

pub returns-clause-records : goal.returns-clause-records
returns-clause-records c z =
    let a = c.args in
    let p = c.put_row.ensures in
    said _ _ c.in-Some.ensures _ (row_recorded a.file.now a.table.now c.in-Some.u (length a.row.now) p.number p.row z)
