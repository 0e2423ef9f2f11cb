-- `after_attributes`: the experiment's refusal, or what follows it.
use mathlib.Core.Path.{◌∙◌}
use Rattle.format.specs.Bytes.{ascii}
use Rattle.named_tree.proofs.Answers.{handed}
use Rattle.open.specs.Parts.{after_attributes}
use Rattle.open.proofs.Order.{then_then}
use Rattle.open.proofs.Running.{told_refused, told}
use Rattle.open.proofs.after_attributes.Goals as goal

pub returns-in_err-e : goal.returns-in_err-e
unfolding after_attributes ascii
returns-in_err-e c = rw (handed c.from_residual.ensures.1) (told_refused _ _ _ c.in_err-e.ensures ∙ then_then _ _ _)

pub returns : goal.returns
unfolding after_attributes ascii
returns c = told _ _ _ c.in_ok-e.ensures (rw c.read_experiment.auto.table at c.after_run.ensures) ∙ then_then _ _ _
