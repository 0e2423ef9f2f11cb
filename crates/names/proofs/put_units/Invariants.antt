-- `put_units` reads within the slice and ends: the units left fall. Assumes nothing.
use Prim.Native.Nat.{◌-◌}
use Rattle.names.proofs.put_units.Given as goal

abbrev pub invariant-loop-i : goal.invariant-loop-i
invariant-loop-i g l = Unit {0}

abbrev pub decreases-loop-i : goal.decreases-loop-i
decreases-loop-i g l = l.n - l.i
