use Prim.Native.Nat.{◌≤◌, ◌-◌}
use mathlib.Core.Path.{◌≡◌}
use Rattle.lookup.specs.Table.{entry_in}
use Rattle.lookup.specs.Values.{kids}
use Rattle.lookup.proofs.list.next_unnamed.Given as goal

abbrev pub invariant-loop-i : goal.invariant-loop-i
invariant-loop-i l = (l.parent ≤ l.i) × (kids (entry_in l.table) l.parent l.from l.used ≡ kids (entry_in l.table) l.parent l.i l.used)

abbrev pub decreases-loop-i : goal.decreases-loop-i
decreases-loop-i l = l.used - l.i
