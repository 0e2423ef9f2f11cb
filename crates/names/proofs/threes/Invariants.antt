-- `threes` hands on numbers below 8 and ends: the lists left fall. Assumes nothing.
use Prim.Native.Nat.{◌-◌}
use Rattle.names.proofs.threes.Given as goal

abbrev pub invariant-loop-m : goal.invariant-loop-m
invariant-loop-m g l = Unit {0}

abbrev pub decreases-loop-m : goal.decreases-loop-m
decreases-loop-m g l = 512 - l.m
