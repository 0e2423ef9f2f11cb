use Rattle.std.proofs.Common.{◌≡◌, ◌+◌, ◌-◌, ◌^◌, ◌<◌}
use Rattle.format.specs.Bytes.{le_at}
use Rattle.cursor.proofs.le.Given as goal

abbrev pub invariant-loop-i : goal.invariant-loop-i
invariant-loop-i g l = (l.v ≡ le_at (g.row.N - l.i) l.s (l.at + l.i)) × (l.v < 256 ^ (g.row.N - l.i))
