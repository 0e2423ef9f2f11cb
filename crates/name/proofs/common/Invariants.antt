use Prim.Native.Nat.{◌≤◌, ◌-◌}
use Rattle.format.proofs.Text.Units.{Stand}
use Rattle.name.proofs.common.Given as goal

abbrev pub invariant-loop-i : goal.invariant-loop-i
invariant-loop-i l = (l.i ≤ l.n) × Stand l.s l.at l.from l.i

abbrev pub decreases-loop-i : goal.decreases-loop-i
decreases-loop-i l = l.n - l.i
