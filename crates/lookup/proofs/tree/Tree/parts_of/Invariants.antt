use Prim.Native.Nat.{◌-◌, ◌≤◌}
use Rattle.lookup.proofs.tree.Tree.parts_of.Given as goal

abbrev pub invariant-loop-i : goal.invariant-loop-i
invariant-loop-i l = (l.n ≤ l.i) × (l.n ≤ l.self.used)

abbrev pub decreases-loop-i : goal.decreases-loop-i
decreases-loop-i l = l.end - l.i
