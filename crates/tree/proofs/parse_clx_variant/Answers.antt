-- `tree::parse_clx_variant` reads one record at depth 0 into the table.
use Rattle.std.proofs.lemmas.Result.{err_from_is_err_and}
use Rattle.tree.proofs.Whole.{tree_read, tree_refused}
use Rattle.tree.proofs.parse_clx_variant.Goals as goal

pub returns-in_err-used : goal.returns-in_err-used
returns-in_err-used c =
    let p = err_from_is_err_and c.from_residual.result c.from_residual.ensures.1 in
    let it = tree_refused _ _ c.args.table.now c.parse_clx_records.new.table _ c.in_err-used.ensures in
    rw (p.1, p.2) (record { answer = it.0; front = it.1.0; fits = it.1.1 })

pub returns : goal.returns
returns c = let it = tree_read _ _ _ _ c.in_ok-used.ensures in record { answer = it.0; front = it.1.0; fits = it.1.1 }
