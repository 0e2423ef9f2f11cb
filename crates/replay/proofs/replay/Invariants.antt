-- `replay::replay` keeps a state whose file fits: `.0` is its `len`.
use Prim.Native.Nat.{◌≤◌}
use Rattle.replay.proofs.replay.Given as goal

abbrev pub invariant-loop : goal.invariant-loop
invariant-loop g l = l.s.0 ≤ 65536
