use mathlib.Core.Path.{◌≡◌}
use Rattle.lookup.specs.Table.{entry_in}
use Rattle.lookup.specs.Walks.{rest_of, Standing, left_of}
use Rattle.lookup.proofs.tree.Tree.next_child.Given as goal

abbrev pub invariant-loop-walk : goal.invariant-loop-walk
invariant-loop-walk l =
    Standing l.self.file.now (entry_in l.self.table.now) l.self.used l.walk
    × (rest_of l.self.file.now (entry_in l.self.table.now) l.self.used l.initial.walk ≡ rest_of l.self.file.now (entry_in l.self.table.now) l.self.used l.walk)

abbrev pub decreases-loop-walk : goal.decreases-loop-walk
decreases-loop-walk l = left_of l.self.file.now (entry_in l.self.table.now) l.self.used l.walk
