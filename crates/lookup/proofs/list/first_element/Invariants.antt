use Prim.Native.Nat.{ℕ, ◌-◌, ◌≤◌}
use mathlib.Core.Path.{◌≡◌}
use mathlib.Core.List.{List}
use Rattle.format.specs.Trees.{most_depth}
use Rattle.lookup.specs.Table.{entries_in}
use Rattle.lookup.specs.Values.{head_of, elements_from}
use Rattle.lookup.proofs.list.first_element.Given as goal

abbrev pub invariant-loop : goal.invariant-loop
invariant-loop l =
    (l.p ≤ l.used) × ((s : List ℕ)
    → head_of (elements_from most_depth s (entries_in l.table l.used) l.parent) ≡ head_of (elements_from (64 - l.counter) s (entries_in l.table l.used) l.p))
