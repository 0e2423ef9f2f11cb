-- `same_name` goes on from the last unit that stands alike: those before it are alike, each lone surrogate replaced. Assumes nothing.
use mathlib.Core.Path.{sym, ap, ◌∙◌}
use native.Mathlib.Omega.{arith}
use lib.Dec.{ltb}
use borrow.Author.Rules.{rules}
use borrow.Author.Tests.{eqb-false, ltb-true, not-true}
use Rattle.format.specs.declared.Comparison.{Comparison}
use Rattle.format.proofs.Ground.Tests.{and_left, and_right}
use Rattle.format.proofs.Text.Units.{length_name, plain_name_unit, name_unit_plain}
use Rattle.format.proofs.Text.Compared.{told_lengths, told_alike, told_differ, as_before, stand_alike}
use Rattle.name.proofs.same_name.Goals as goal

pub returns-then-m-n : goal.returns-then-m-n
returns-then-m-n c =
    ap (λ (r : Comparison). r.same) (sym (told_lengths _ _ (length_name _ _ _) (length_name _ _ _) λ e. c.if-m-n.true (sym e))) ∙ as_before _ _

pub returns-then-n-eq0 : goal.returns-then-n-eq0
returns-then-n-eq0 c =
    ap (λ (r : Comparison). r.same)
    (sym (told_alike _ _ (length_name _ _ _) (length_name _ _ _) (sym c.if-m-n.false) λ k h. absurd (omega (arith, c.if-n-eq0.true))))
    ∙ as_before _ _

pub returns-then-u-unit_at : goal.returns-then-u-unit_at
returns-then-u-unit_at c =
    let u = c.unit_at-u.result in
    let l = ltb-true _ _ (and_left (ltb u 0xD800) _ c.if-u-unit_at.true) in
    let d = eqb-false _ _ (not-true _ (and_right (ltb u 0xD800) _ c.if-u-unit_at.true)) in
    ap (λ (r : Comparison). r.same)
    (sym (told_differ _ _ (length_name _ _ _) (length_name _ _ _) 0 (sym c.if-m-n.false) (omega arith)
    (λ k h. absurd (omega arith)) λ e.
    d (name_unit_plain _ _ _ _ _ (omega arith) l (plain_name_unit _ _ _ _ _ (omega arith) l c.unit_at-u.ensures ∙ e)
    ∙ sym c.unit_at.ensures)))
    ∙ as_before _ _

pub same_from-requires : goal.same_from-requires
same_from-requires c =
    let f = c.common-c.ensures in
    (search rules, search rules, search rules, rw c.one_before.ensures (stand_alike _ _ _ _ _ f.0 f.1))

pub returns : goal.returns
returns c = rw c.if-m-n.false c.same_from.ensures
