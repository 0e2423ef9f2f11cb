-- `count_valid`: some elements are passed, and the next one is at hand.
use mathlib.Core.Path.{ap, ◌∙◌}
use mir.Val.{bool_byte}
use Rattle.experiment.proofs.Counts.{counting_done, counting_end, counting_more}
use Rattle.experiment.proofs.single.count_valid.Goals as goal

pub returns-in_default : goal.returns-in_default
returns-in_default c = counting_end _ _ _ _ _ _ _ c.loop.invariant.1 c.in_default.is

pub loop-preserved : goal.loop-preserved
loop-preserved c = (
  c.next_element-next.ensures.1,
  counting_more _ _ _ _ _ _ _ c.loop.invariant.1 _ _ _ c.in-Some.is c.loop-test.true (c.from-count.ensures ∙ ap bool_byte c.is_truthy.ensures)
      (c.next_element-next.ensures.0 _),
)

pub returns : goal.returns
returns c = counting_done _ _ _ _ _ _ _ c.loop.invariant.1 c.loop-test.false
