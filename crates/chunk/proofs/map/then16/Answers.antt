-- By whether a digit is 1.
use native.Mathlib.Omega.{arith}
use borrow.Author.Tests.{eq-eqb, ne_eqb}
use Rattle.chunk.specs.Scan.{first_then}
use Rattle.chunk.proofs.map.then16.Goals as goal

pub returns-then-m-eq0 : goal.returns-then-m-eq0
unfolding first_then
returns-then-m-eq0 c = (rw (eq-eqb _ 0 c.if-m-eq0.true), omega arith)

pub returns-else-m-eq0 : goal.returns-else-m-eq0
unfolding first_then
returns-else-m-eq0 c = (rw (ne_eqb _ 0 c.if-m-eq0.false) c.first16.ensures.0, omega (arith, c.first16.ensures.1))
