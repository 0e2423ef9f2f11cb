use Prim.Native.Nat.{ℕ, ◌-◌, ◌≤◌, ◌<◌}
use Rattle.lookup.specs.Table.{entry_in}
use Rattle.lookup.proofs.entry.first_from.Given as goal

abbrev pub invariant-loop-low : goal.invariant-loop-low
invariant-loop-low l = (l.parent ≤ l.low) × (l.low ≤ l.used) × ((k : ℕ) → l.parent ≤ k → k < l.low → (entry_in l.table k).name ≤ l.to)

abbrev pub decreases-loop-low : goal.decreases-loop-low
decreases-loop-low l = l.used - l.low
