-- `compare_names` tells what `compared` says of two names. The loop's invariant: the units before i are alike. Assumes nothing.
use Prim.Native.Nat.{◌-◌}
use mathlib.Core.Path.{sym, ◌∙◌}
use native.Mathlib.Omega.{arith}
use borrow.Author.Count.{below_more}
use borrow.Author.Rules.{rules}
use borrow.Author.Tests.{eqb-true, eqb-false}
use Rattle.format.proofs.Text.Units.{length_name}
use Rattle.format.proofs.Text.Compared.{told_lengths, told_alike, told_differ, told_next, reaches_less}
use Rattle.name.proofs.compare_names.Goals as goal

pub returns-then-n-m : goal.returns-then-n-m
returns-then-n-m c = sym (told_lengths _ _ (length_name _ _ _) (length_name _ _ _) c.if-n-m.true)

pub loop-i-init : goal.loop-i-init
loop-i-init c = (search rules, λ k h. absurd (omega arith))

pub same_unit-requires : goal.same_unit-requires
same_unit-requires c =
    let p = c.requires in
    let e = c.if-n-m.false in
    let h = c.loop-i-test.true in (
      h,
      rw (← e) h,
      reaches_less _ _ _ _ _ p.0 (told_next _ _ (length_name _ _ _) (length_name _ _ _) _ e h c.loop-i.invariant.1),
      reaches_less _ _ _ _ _ p.1 (told_next _ _ (length_name _ _ _) (length_name _ _ _) _ e h c.loop-i.invariant.1),
    )

pub returns-then-not-same_unit : goal.returns-then-not-same_unit
returns-then-not-same_unit c =
    sym (told_differ _ _ (length_name _ _ _) (length_name _ _ _) _ c.if-n-m.false c.loop-i-test.true c.loop-i.invariant.1
    (eqb-false _ _ (sym c.same_unit.ensures ∙ c.if-not-same_unit.true)))

pub loop-i-preserved : goal.loop-i-preserved
loop-i-preserved c = (
  search rules,
  below_more _ _ c.loop-i.invariant.1 (eqb-true _ _ (sym c.same_unit.ensures ∙ c.if-not-same_unit.false)),
)

pub returns : goal.returns
returns c = sym (told_alike _ _ (length_name _ _ _) (length_name _ _ _) c.if-n-m.false λ k h. c.loop-i.invariant.1 k (omega arith))
