-- `recorded_in`: of the level, or 11 where there is none.
use mathlib.Core.Path.{◌≡◌, sym, ap, ◌∙◌}
use borrow.Author.Rules.{rules}
use Rattle.std.specs.Prelude.{Some}
use Rattle.format.specs.Bytes.{ascii}
use Rattle.lookup.specs.Table.{found}
use Rattle.named_tree.proofs.Answers.{handed, lacking}
use Rattle.open.proofs.Running.{no_run, run_refused, run}
use Rattle.open.proofs.recorded_in.Goals as goal

pub returns-in_err-i : goal.returns-in_err-i
unfolding ascii
returns-in_err-i c =
    let (none, missing) = lacking _ c.in_err-i.ensures.value in
    rw (handed c.from_residual.ensures.1, missing) (no_run _ _ (sym c.get_level.ensures.0 ∙ ap found none))

pub returns-in_err-loops : goal.returns-in_err-loops
unfolding ascii
returns-in_err-loops c =
    let h : c.get_level.result ≡ Some c.in_ok-i.i = search rules in
    rw (handed c.from_residual-in_err-loops.ensures.1) (run_refused _ _ _ (sym c.get_level.ensures.0 ∙ ap found h) _ c.in_err-loops.ensures)

pub returns : goal.returns
unfolding ascii
returns c =
    let h : c.get_level.result ≡ Some c.in_ok-i.i = search rules in
    run _ _ _ (sym c.get_level.ensures.0 ∙ ap found h) _ _ c.in_ok-loops.ensures c.find_z_step-z.ensures
