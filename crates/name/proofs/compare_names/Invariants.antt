use Prim.Native.Nat.{◌≤◌, ◌-◌}
use Rattle.format.specs.Text.{units, lossy}
use Rattle.format.proofs.Text.Compared.{Alike}
use Rattle.name.proofs.compare_names.Given as goal

abbrev pub invariant-loop-i : goal.invariant-loop-i
invariant-loop-i l = (l.i ≤ l.n) × Alike (lossy (units l.n l.s l.at)) (lossy (units l.m l.s l.from)) l.i

abbrev pub decreases-loop-i : goal.decreases-loop-i
decreases-loop-i l = l.n - l.i
