use Prim.Native.Nat.{ℕ, ◌<◌}
use mathlib.Core.List.{List}
use Rattle.lookup.specs.Table.{entry_in}
use Rattle.lookup.proofs.Elements.{After}
use Rattle.lookup.proofs.list.next_element.Given as goal

abbrev pub invariant-loop-j : goal.invariant-loop-j
invariant-loop-j l = (l.k < l.used) × ((ys : List ℕ) → After (entry_in l.table) l.used l.parent l.i ys → After (entry_in l.table) l.used l.parent l.k ys)

abbrev pub decreases-loop-j : goal.decreases-loop-j
decreases-loop-j l = l.k
