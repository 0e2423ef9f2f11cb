use Prim.Native.Nat.{ℕ, ◌≤◌, ◌-◌}
use mathlib.Core.List.{List}
use Rattle.lookup.specs.Table.{entry_in}
use Rattle.lookup.proofs.Lists.{Plain}
use Rattle.lookup.proofs.value.is_list.Given as goal

abbrev pub invariant-loop-i : goal.invariant-loop-i
invariant-loop-i l = (l.i ≤ l.used) × (l.parent ≤ l.i) × ((s : List ℕ) → Plain s l.parent (entry_in l.table) l.seen l.i)

abbrev pub decreases-loop-i : goal.decreases-loop-i
decreases-loop-i l = l.used - l.i
