-- `tree_call::tree`: the entries that were read with zeros behind them, or a refusal's number and a table of zeros.
use mathlib.Core.Path.{ap, ◌∙◌}
use Rattle.format.specs.Bytes.{zeros}
use Rattle.tree_call.proofs.Promises.{refused_tree, read_tree}
use Rattle.tree_call.proofs.tree.Goals as goal

pub clear_behind-requires : goal.clear_behind-requires
clear_behind-requires c = c.in-Ok.ensures.holds.rows.room

pub returns-in-Ok : goal.returns-in-Ok
returns-in-Ok c =
    let r = c.in-Ok.ensures in
    let it = read_tree _ _ _ _ _ _ r.answer r.front c.tree_named.auto.table c.clear_behind.ensures in
    record { number = it.0; buffer = it.1; first = it.2; accepted = it.3; entries = it.4; cleared = it.5; named = it.6 }

pub returns-in-Err : goal.returns-in-Err
returns-in-Err c =
    let it = refused_tree _ _ _ _ c.in-Err.ensures.answer (c.clear.ensures ∙ ap zeros c.tree_named.auto.table) in
    record { number = it.0; buffer = it.1; first = it.2; accepted = it.3; entries = it.4; cleared = it.5; named = it.6 }
