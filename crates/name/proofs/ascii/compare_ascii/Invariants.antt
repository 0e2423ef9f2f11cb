use Prim.Native.Nat.{◌≤◌, ◌-◌}
use Rattle.format.specs.Text.{units, lossy}
use Rattle.format.proofs.Text.Compared.{Alike}
use Rattle.name.proofs.ascii.compare_ascii.Given as goal

abbrev pub invariant-loop-i : goal.invariant-loop-i
invariant-loop-i l = (l.i ≤ l.n) × Alike l.name (lossy (units l.n l.s l.at)) l.i

abbrev pub decreases-loop-i : goal.decreases-loop-i
decreases-loop-i l = l.n - l.i
