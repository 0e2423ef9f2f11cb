-- `span_step`: exact where the distance and the step are doubles.
use lib.Ieee.{of_bits}
use Rattle.number.proofs.Exactly.{exact_step}
use Rattle.number.proofs.span_step.Goals as goal

pub returns-then-count-gt1-clause-exact : goal.returns-then-count-gt1-clause-exact
unfolding of_bits
returns-then-count-gt1-clause-exact c = λ step x. simp (c.magnitude.ensures, c.of_whole.ensures) (exact_step c.args.count c.args.high c.args.low step x)
