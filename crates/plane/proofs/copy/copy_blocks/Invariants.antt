use Prim.Native.Nat.{◌+◌}
use Rattle.plane.specs.Parts.{Alike}
use Rattle.plane.proofs.Parts.{Still}
use Rattle.plane.proofs.copy.copy_blocks.Given as goal

abbrev pub invariant-loop-k : goal.invariant-loop-k
invariant-loop-k l = Alike l.src l.dst l.size l.k (l.x + 16) × Still l.src l.dst l.size 6 l.k l.x
