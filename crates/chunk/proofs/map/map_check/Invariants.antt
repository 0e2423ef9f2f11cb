use Prim.Native.Nat.{◌-◌}
use lib.ListN.{length}
use Rattle.chunk.proofs.Scan.{Passed}
use Rattle.chunk.proofs.map.map_check.Given as goal

abbrev pub invariant-loop-n : goal.invariant-loop-n
invariant-loop-n l = Passed l.map l.at l.entries

abbrev pub decreases-loop-n : goal.decreases-loop-n
decreases-loop-n l = length l.map - l.at
