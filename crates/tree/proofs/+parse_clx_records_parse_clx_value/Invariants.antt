use Prim.Native.Nat.{◌+◌, ◌-◌, ◌*◌}
use Rattle.tree.proofs.Runs.{Turned}
use Rattle.tree.proofs.+parse_clx_records_parse_clx_value.Given as goal

abbrev pub decreases-parse_clx_records : goal.decreases-parse_clx_records
decreases-parse_clx_records l = 2 * l.p.levels + 1

abbrev pub decreases-parse_clx_value : goal.decreases-parse_clx_value
decreases-parse_clx_value l = 2 * l.p.levels

abbrev pub invariant-parse_clx_records-loop-done : goal.invariant-parse_clx_records-loop-done
invariant-parse_clx_records-loop-done l =
    Turned l.d l.base l.p l.initial.table l.initial.at l.initial.used l.count l.table l.at l.used (l.count - l.done)
