-- `put_row`: the row is cleared, and the records are stored in it.
use Rattle.std.proofs.Common.{◌/◌, ap, ◌∙◌}
use Rattle.format.specs.Bytes.{zeros}
use Rattle.capi.proofs.Rows.{row_call}
use Rattle.capi.proofs.put_row.Goals as goal

pub returns : goal.returns
returns c =
    let stored = rw (c.unwrap_or.ensures, c.no_planes.ensures) at c.put_records.ensures in
    let (number, row) = row_call _ _ _ _ _ _ _ _ _ (ap (λ n. n / 56) c.clear.auto.d) c.prepare-planes.ensures c.clear.ensures stored in
    record { number = c.number_of.ensures ∙ number; row = row; table = c.clear-2.ensures ∙ ap zeros c.prepare-planes.auto.table }
