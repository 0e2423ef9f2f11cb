use Rattle.register.proofs.Decimals.{Read}
use Rattle.register.proofs.naming.number_of.Given as goal

abbrev pub invariant-loop-b : goal.invariant-loop-b
invariant-loop-b l = Read l.digits l.k l.b-index
