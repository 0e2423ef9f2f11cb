-- A walk goes on from level to level where the loops of each are kept, and stops at a refusal.
use mathlib.Core.Path.{◌≡◌, sym, ap, ◌∙◌}
use borrow.Author.Rules.{rules}
use Rattle.std.specs.Prelude.{Err}
use Rattle.format.specs.Bytes.{ascii}
use Rattle.format.specs.Loops.{child_levels}
use Rattle.lookup.specs.View.{bytes, entries}
use Rattle.experiment.specs.Single.{said_of}
use Rattle.experiment.proofs.Walking.{gives_zero, gives_nothing, gives_wrong, gives_loop, on_end, on_stopped, on_more}
use Rattle.experiment.proofs.+load_children_load_experiment_rec.Goals as goal

pub load_children-returns-in_err-kept : goal.load_children-returns-in_err-kept
load_children-returns-in_err-kept t c bs s =
    let e : c.from_residual.result ≡ Err c.in_err-kept.field-0.0 = search rules in
    rw e (on_stopped _ _ _ _ _ c.loop-i.invariant.1 _ _ c.in-Some.ensures.2 _ (rw c.in_err-kept.was at c.load_experiment_rec.ensures) bs s)

pub load_children-loop-i-preserved : goal.load_children-loop-i-preserved
load_children-loop-i-preserved t c = (
  c.in-Some.ensures.1,
  on_more _ _ _ _ _ c.loop-i.invariant.1 _ _ c.in-Some.ensures.2 _ (rw c.in_ok-kept.was at c.load_experiment_rec.ensures),
)

pub load_children-returns : goal.load_children-returns
load_children-returns t c bs s = on_end _ _ _ _ _ c.loop-i.invariant.1 c.in_default.ensures bs s

pub load_experiment_rec-returns-then-levels-eq0 : goal.load_experiment_rec-returns-then-levels-eq0
load_experiment_rec-returns-then-levels-eq0 t c bs s = gives_zero _ _ _ _ _ bs _ c.if-levels-eq0.true s

pub load_experiment_rec-returns-in_err-own : goal.load_experiment_rec-returns-in_err-own
load_experiment_rec-returns-in_err-own t c bs s =
    let e : c.from_residual.result ≡ Err c.in_err-own.field-0.0 = search rules in
    rw e (gives_wrong _ _ _ _ _ bs c.if-levels-eq0.false _ (sym (ap said_of c.in_err-own.was) ∙ c.single_experiment_loop.ensures))

pub load_experiment_rec-returns-in_default : goal.load_experiment_rec-returns-in_default
load_experiment_rec-returns-in_default t c bs s =
    gives_nothing _ _ _ _ _ bs c.if-levels-eq0.false _ (rw (c.in_ok-own.was, c.in_default.is) at c.single_experiment_loop.ensures) s

pub load_experiment_rec-returns : goal.load_experiment_rec-returns
unfolding ascii
load_experiment_rec-returns t c bs s =
    let a = c.args in
    gives_loop _ _ _ _ _ bs c.if-levels-eq0.false _ _ _ _ _
    (rw (c.in_ok-own.was, c.in-Some.is) at c.single_experiment_loop.ensures)
    c.nesting_below-deeper.ensures.0
    (ap (child_levels (bytes a.tree) (entries a.tree)) (sym c.get-next.ensures.0) ∙ c.children-turn.ensures.rest)
    (c.load_children.ensures _ (c.appended-more.ensures bs s))
