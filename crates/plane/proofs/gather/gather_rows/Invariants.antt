use mathlib.Core.Path.{◌≡◌}
use Rattle.format.specs.Bytes.{over}
use Rattle.plane.specs.Pieces.{rows}
use Rattle.plane.proofs.gather.gather_rows.Given as goal

abbrev pub invariant-loop-y : goal.invariant-loop-y
invariant-loop-y g l = l.dst ≡ over (rows l.src l.at l.stride l.step g.row.SIZE l.width l.y) l.fn.dst
