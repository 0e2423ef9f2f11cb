use Rattle.plane.proofs.Apart.{ByTurns}
use Rattle.plane.proofs.copy.copy_apart.Given as goal

abbrev pub invariant-loop-k : goal.invariant-loop-k
invariant-loop-k l = ByTurns l.src l.fn.dst l.dst l.stride l.w l.count l.half l.k
