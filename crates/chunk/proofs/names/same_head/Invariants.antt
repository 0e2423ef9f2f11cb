use Prim.Native.Nat.{◌≤◌}
use Rattle.chunk.specs.Alike.{Alike}
use Rattle.chunk.proofs.names.same_head.Given as goal

abbrev pub invariant-loop-i : goal.invariant-loop-i
invariant-loop-i l = (l.i ≤ l.n) × Alike l.s l.at l.e l.i l.n

abbrev pub decreases-loop-i : goal.decreases-loop-i
decreases-loop-i l = l.i
