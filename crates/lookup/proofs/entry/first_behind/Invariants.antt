use Prim.Native.Nat.{ℕ, ◌-◌, ◌≤◌, ◌<◌}
use Rattle.lookup.specs.Table.{entry_in}
use Rattle.lookup.proofs.entry.first_behind.Given as goal

abbrev pub invariant-loop-a : goal.invariant-loop-a
invariant-loop-a l =
    (l.low ≤ l.a) × (l.a ≤ l.b) × (l.b ≤ l.high)
    × ((k : ℕ) → l.low ≤ k → k < l.a → (entry_in l.table k).name ≤ l.to) × (l.b < l.high → l.to < (entry_in l.table l.b).name)

abbrev pub decreases-loop-a : goal.decreases-loop-a
decreases-loop-a l = l.b - l.a
