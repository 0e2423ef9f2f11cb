use Rattle.std.proofs.Common.{◌≡◌, drop}
use Rattle.format.specs.Summary.{bad_loops}
use Rattle.summary.proofs.bad_loops.Given as goal

abbrev pub invariant-loop-i : goal.invariant-loop-i
invariant-loop-i l = bad_loops (drop l.i l.loops) ≡ bad_loops l.loops
