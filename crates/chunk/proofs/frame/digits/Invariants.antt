use Rattle.chunk.proofs.Decimal.{Digits}
use Rattle.chunk.proofs.frame.digits.Given as goal

abbrev pub invariant-loop-m : goal.invariant-loop-m
invariant-loop-m l = Digits l.n l.name l.i l.m

abbrev pub decreases-loop-m : goal.decreases-loop-m
decreases-loop-m l = l.m
