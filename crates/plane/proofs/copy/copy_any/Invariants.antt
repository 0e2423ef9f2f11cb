use mathlib.Core.Path.{◌≡◌}
use Rattle.format.specs.Bytes.{over}
use Rattle.plane.specs.Pieces.{pieces}
use Rattle.plane.proofs.copy.copy_any.Given as goal

abbrev pub invariant-loop-k : goal.invariant-loop-k
invariant-loop-k l = l.dst ≡ over (pieces l.src l.at l.step l.size l.k) l.fn.dst
