-- No '!' stands from `at` up to `i`; the one at `i` is the first.
use native.Mathlib.Omega.{arith}
use borrow.Author.Rules.{rules}
use Rattle.chunk.proofs.Marks.{skipped_more, marked, unmarked}
use Rattle.chunk.proofs.map.through_mark.Goals as goal

pub loop-i-init : goal.loop-i-init
loop-i-init c = c.skip_clear-i.ensures

pub returns-then-s-i-eq33 : goal.returns-then-s-i-eq33
returns-then-s-i-eq33 c = (marked c.loop-i.invariant.clear (search rules) (search rules) c.if-s-i-eq33.true, omega arith)

pub loop-i-smaller : goal.loop-i-smaller
loop-i-smaller c = omega (arith, c.skip_clear-i-in-loop-i.ensures.from)

pub loop-i-preserved : goal.loop-i-preserved
loop-i-preserved c = skipped_more c.loop-i.invariant c.if-s-i-eq33.false c.skip_clear-i-in-loop-i.ensures

pub returns : goal.returns
returns c = (unmarked c.loop-i.invariant.clear c.loop-i-test.false, tt)
