use mathlib.Core.Path.{◌≡◌}
use Rattle.format.specs.Bytes.{over}
use Rattle.plane.specs.Pieces.{pieces}
use Rattle.plane.proofs.copy.copy_equal.Given as goal

abbrev pub invariant-loop-k : goal.invariant-loop-k
invariant-loop-k g l = l.dst ≡ over (pieces l.src l.at l.step g.row.SIZE l.k) l.fn.dst
