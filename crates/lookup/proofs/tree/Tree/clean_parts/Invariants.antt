use Prim.Native.Nat.{ℕ, ◌+◌, ◌-◌, ◌^◌, ◌≤◌, ◌<◌}
use mathlib.Core.Path.{◌≡◌}
use Rattle.lookup.specs.Table.{entry_in}
use Rattle.lookup.specs.Walks.{PartLeads, bit}
use Rattle.lookup.proofs.tree.Tree.clean_parts.Given as goal

abbrev pub invariant-loop-part : goal.invariant-loop-part
invariant-loop-part l =
    (l.part ≤ l.parts) × (l.clean < 2 ^ (l.parts - l.part))
    × ((k : ℕ) → bit l.clean k ≡ 1 → PartLeads l.self.file.now (entry_in l.self.table.now) l.parent l.end l.parts (l.part + k))
