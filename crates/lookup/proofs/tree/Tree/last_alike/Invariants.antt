use Prim.Native.Nat.{◌-◌, ◌≤◌}
use Rattle.lookup.specs.Table.{entry_in, found, Within}
use Rattle.lookup.specs.Names.{name_in}
use Rattle.lookup.proofs.Search.{Sought}
use Rattle.lookup.proofs.tree.Tree.last_alike.Given as goal

abbrev pub invariant-loop-i : goal.invariant-loop-i
invariant-loop-i l =
    (l.parent ≤ l.i) × Sought l.self.file.now (entry_in l.self.table.now) l.parent (name_in l.self.file.now l.name) l.to l.i (found l.last) × Within l.to l.last

abbrev pub decreases-loop-i : goal.decreases-loop-i
decreases-loop-i l = l.to - l.i
