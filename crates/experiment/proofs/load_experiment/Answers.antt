-- `load_experiment`: the walk's refusal, or else what is judged after it.
use mathlib.Core.Path.{◌≡◌}
use mathlib.Core.List.{[]}
use borrow.Author.Rules.{rules}
use Rattle.std.specs.Prelude.{Err}
use Rattle.experiment.proofs.Walking.{experiment_err, experiment_ok}
use Rattle.experiment.proofs.load_experiment.Goals as goal

pub returns-in_err-kept : goal.returns-in_err-kept
returns-in_err-kept c =
    let e : c.from_residual.result ≡ Err c.in_err-kept.field-0.0 = search rules in
    rw e (experiment_err _ _ _ _ (rw c.in_err-kept.was at (c.load_experiment_rec.ensures [] c.none_kept.ensures)))

pub returns : goal.returns
returns c = experiment_ok _ _ _ _ (rw c.in_ok-kept.was at (c.load_experiment_rec.ensures [] c.none_kept.ensures))
