use Prim.Native.Nat.{ℕ, ◌-◌}
use mathlib.Core.List.{List, []}
use lib.ListN.{length}
use Rattle.lookup.specs.Table.{entries_in, Within}
use Rattle.lookup.specs.Values.{elements_of}
use Rattle.lookup.proofs.Elements.{Counted}
use Rattle.lookup.proofs.list.count_elements.Given as goal

abbrev pub invariant-loop-at : goal.invariant-loop-at
invariant-loop-at l = Within l.used l.at × ((s : List ℕ) → Counted (elements_of s (entries_in l.table l.used) l.parent) l.n l.at)

abbrev pub decreases-loop-at : goal.decreases-loop-at
decreases-loop-at l = length (elements_of [] (entries_in l.table l.used) l.parent) - l.n
