use Prim.Native.Nat.{◌≤◌, ◌-◌}
use mathlib.Core.Path.{◌≡◌}
use Rattle.lookup.specs.Table.{entry_in}
use Rattle.lookup.specs.Walks.{place_levels}
use Rattle.lookup.proofs.tree.Tree.next_place.Given as goal

abbrev pub invariant-loop-i : goal.invariant-loop-i
invariant-loop-i l =
    (l.level.parent ≤ l.i) × (place_levels l.self.file.now (entry_in l.self.table.now) l.self.used l.level.parent l.from ≡ place_levels l.self.file.now (entry_in l.self.table.now) l.self.used l.level.parent l.i)

abbrev pub decreases-loop-i : goal.decreases-loop-i
decreases-loop-i l = l.level.end - l.i
