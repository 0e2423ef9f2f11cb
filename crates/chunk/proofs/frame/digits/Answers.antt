-- The last digit first: what is left to write is m, before position i.
use borrow.Author.Rules.{rules}
use Rattle.chunk.proofs.Decimal.{digits_start, digits_turn, digits_last}
use Rattle.chunk.proofs.frame.digits.Goals as goal

pub loop-m-init : goal.loop-m-init
loop-m-init c = digits_start c.args.n (search rules)

pub loop-m-preserved : goal.loop-m-preserved
loop-m-preserved c = digits_turn c.loop-m.invariant c.loop-m-test.true

pub returns : goal.returns
returns c = digits_last c.loop-m.invariant c.loop-m-test.false
