use Prim.Native.Nat.{◌≤◌, ◌-◌}
use Rattle.lookup.specs.Table.{entry_in}
use Rattle.lookup.specs.Walks.{Knows}
use Rattle.lookup.proofs.Places.{Placed}
use Rattle.lookup.proofs.tree.Tree.count_places.Given as goal

abbrev pub invariant-loop-i : goal.invariant-loop-i
invariant-loop-i l =
    (l.level.parent ≤ l.i) × Knows l.self.file.now (entry_in l.self.table.now) l.self.used l.level
    × Placed l.self.file.now (entry_in l.self.table.now) l.self.used l.level.parent l.i l.n

abbrev pub decreases-loop-i : goal.decreases-loop-i
decreases-loop-i l = l.level.end - l.i
