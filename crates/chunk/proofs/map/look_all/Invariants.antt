use Prim.Native.Nat.{◌-◌}
use lib.ListN.{length}
use Rattle.chunk.proofs.Scan.{Passes, Turned}
use Rattle.chunk.proofs.map.look_all.Given as goal

abbrev pub invariant-loop-i : goal.invariant-loop-i
invariant-loop-i g l = Turned l.map l.names g.row.N l.at l.entries l.n l.i l.last

abbrev pub invariant-loop-n : goal.invariant-loop-n
invariant-loop-n g l = Passes l.map l.names g.row.N l.at l.entries l.last

abbrev pub decreases-loop-n : goal.decreases-loop-n
decreases-loop-n g l = length l.map - l.at
