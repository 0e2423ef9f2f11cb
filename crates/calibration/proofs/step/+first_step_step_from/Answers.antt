-- A walk ends at the first level that states a step; a level's own step comes before those below it.
use mathlib.Core.Path.{sym, ◌∙◌}
use Rattle.format.specs.Bytes.{ascii}
use Rattle.calibration.proofs.Searching.{step_zero, step_own, step_below, first_end, first_here, first_later}
use Rattle.calibration.proofs.step.+first_step_step_from.Goals as goal

pub first_step-returns-in-Some-step_from : goal.first_step-returns-in-Some-step_from
first_step-returns-in-Some-step_from t c =
    first_here _ _ _ _ c.in-Some.ensures.2 _ c.in-Some-step_from.ensures ∙ sym c.loop-i.invariant.1

pub first_step-loop-i-preserved : goal.first_step-loop-i-preserved
first_step-loop-i-preserved t c = (
  c.in-Some.ensures.1,
  c.loop-i.invariant.1 ∙ first_later _ _ _ _ c.in-Some.ensures.2 c.in_default-step_from.ensures,
)

pub first_step-returns : goal.first_step-returns
first_step-returns t c = first_end _ _ c.in_default.ensures ∙ sym c.loop-i.invariant.1

pub step_from-returns-then-levels-eq0 : goal.step_from-returns-then-levels-eq0
step_from-returns-then-levels-eq0 t c = step_zero _ _ _ _ c.if-levels-eq0.true

pub step_from-returns-in-Some : goal.step_from-returns-in-Some
step_from-returns-in-Some t c = step_own _ _ _ _ c.if-levels-eq0.false _ c.in-Some.ensures

pub step_from-returns : goal.step_from-returns
unfolding ascii
step_from-returns t c =
    step_below _ _ _ _ c.if-levels-eq0.false _ _ _ c.in_default.ensures c.get-next.ensures.0 c.children-turn.ensures.rest c.first_step.ensures
