use mathlib.Core.Path.{◌≡◌}
use Prim.Native.Nat.{◌+◌, ◌*◌}
use Rattle.format.specs.Bytes.{over}
use Rattle.plane.specs.Pieces.{pieces}
use Rattle.plane.proofs.gather.copy_by_four.Given as goal

abbrev pub invariant-loop-i : goal.invariant-loop-i
invariant-loop-i g l = l.dst ≡ over (pieces l.src l.at l.step g.row.SIZE (4 * l.i)) l.fn.dst

abbrev pub invariant-loop-j : goal.invariant-loop-j
invariant-loop-j g l = l.dst ≡ over (pieces l.src l.at l.step g.row.SIZE (4 * l.fours + l.j)) l.fn.dst
