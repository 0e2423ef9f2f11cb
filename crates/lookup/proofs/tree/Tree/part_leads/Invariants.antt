use Prim.Native.Nat.{◌-◌, ◌≤◌}
use mathlib.Core.Path.{◌≡◌}
use lib.ListN.{length}
use Rattle.lookup.specs.Table.{entry_in}
use Rattle.lookup.specs.Walks.{Seen}
use Rattle.lookup.proofs.tree.Tree.part_leads.Given as goal

abbrev pub invariant-loop-i : goal.invariant-loop-i
invariant-loop-i l = (l.parent ≤ l.i) × (length l.marks ≡ 2048) × Seen l.self.file.now (entry_in l.self.table.now) l.parent l.parts l.part l.i l.marks

abbrev pub decreases-loop-i : goal.decreases-loop-i
decreases-loop-i l = l.end - l.i
