use Prim.Native.Nat.{◌≤◌}
use lib.ListN.{length}
use Rattle.chunk.specs.Alike.{Alike}
use Rattle.chunk.proofs.names.same_at.Given as goal

abbrev pub invariant-loop-i : goal.invariant-loop-i
invariant-loop-i l = (l.i ≤ length l.e) × Alike l.s l.at l.e l.i (length l.e)

abbrev pub decreases-loop-i : goal.decreases-loop-i
decreases-loop-i l = l.i
