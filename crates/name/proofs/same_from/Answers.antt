-- `same_from` goes on unit by unit: those before i are alike, and one that differs, or none, is the answer. Assumes nothing.
use Prim.Native.Nat.{◌-◌}
use mathlib.Core.Path.{refl, sym, ap, ◌∙◌}
use native.Mathlib.Omega.{arith}
use borrow.Author.Count.{below_more}
use borrow.Author.Rules.{rules}
use borrow.Author.Tests.{eqb-true, eqb-false}
use Rattle.format.specs.declared.Comparison.{Comparison}
use Rattle.format.proofs.Text.Units.{length_name}
use Rattle.format.proofs.Text.Compared.{told_alike, told_differ, as_before}
use Rattle.name.proofs.same_from.Goals as goal

pub loop-i-init : goal.loop-i-init
loop-i-init c = (search rules, c.requires.3)

pub returns-then-not-same_unit : goal.returns-then-not-same_unit
returns-then-not-same_unit c =
    ap (λ (r : Comparison). r.same)
    (sym (told_differ _ _ (length_name _ _ _) (length_name _ _ _) _ refl c.loop-i-test.true c.loop-i.invariant.1
    (eqb-false _ _ (sym c.same_unit.ensures ∙ c.if-not-same_unit.true))))
    ∙ as_before _ _

pub loop-i-preserved : goal.loop-i-preserved
loop-i-preserved c = (
  search rules,
  below_more _ _ c.loop-i.invariant.1 (eqb-true _ _ (sym c.same_unit.ensures ∙ c.if-not-same_unit.false)),
)

pub returns : goal.returns
returns c =
    ap (λ (r : Comparison). r.same)
    (sym (told_alike _ _ (length_name _ _ _) (length_name _ _ _) refl λ k h. c.loop-i.invariant.1 k (omega arith)))
    ∙ as_before _ _
