-- `after_run`: the plane product's refusal, the calibration's, or the summary.
use mathlib.Core.Path.{refl, sym, ◌∙◌}
use Rattle.format.specs.Answer.{and_then, refuse_if}
use Rattle.format.specs.Bytes.{ascii}
use Rattle.named_tree.proofs.Answers.{handed}
use Rattle.open.specs.Parts.{after_run}
use Rattle.open.proofs.after_run.Goals as goal

pub returns-then-bad_plane : goal.returns-then-bad_plane
unfolding after_run refuse_if
returns-then-bad_plane c = λ x h. rw (sym c.bad_plane.ensures ∙ c.if-bad_plane.true) refl

pub returns-in_err-c : goal.returns-in_err-c
unfolding after_run and_then refuse_if ascii
returns-in_err-c c =
    λ x h. rw (handed c.from_residual.ensures.1, sym c.bad_plane.ensures ∙ c.if-bad_plane.false, ← h.step, ← c.in_err-c.ensures) refl

pub returns : goal.returns
unfolding after_run and_then refuse_if ascii
returns c =
    λ x h. rw (sym c.bad_plane.ensures ∙ c.if-bad_plane.false, ← h.step, ← c.in_ok-c.ensures, c.accepted.ensures _ h.loops) refl
