-- `compare_ascii` tells what `comparison` says of a name and an ASCII one. The loop's invariant: the units before i are alike. Assumes nothing.
use Prim.Native.Nat.{◌-◌}
use mathlib.Core.Path.{refl, sym, ◌∙◌}
use native.Mathlib.Omega.{arith}
use borrow.Author.Count.{below_more}
use borrow.Author.Rules.{rules}
use Rattle.format.proofs.Text.Units.{length_name, plain_name_unit, name_unit_plain}
use Rattle.format.proofs.Text.Compared.{told_lengths, told_alike, told_differ, told_next}
use Rattle.name.proofs.ascii.compare_ascii.Goals as goal

pub returns-then-name-n : goal.returns-then-name-n
returns-then-name-n c = sym (told_lengths _ _ refl (length_name _ _ _) c.if-name-n.true)

pub loop-i-init : goal.loop-i-init
loop-i-init c = (search rules, λ k h. absurd (omega arith))

pub unit_at-requires : goal.unit_at-requires
unit_at-requires c =
    let h = c.loop-i-test.true in
    c.requires _ h (told_next _ _ c.if-name-n.false (length_name _ _ _) _ refl h c.loop-i.invariant.1)

pub returns-then-wide-unit_at : goal.returns-then-wide-unit_at
returns-then-wide-unit_at c =
    let b = c.wide.ensures in
    sym (told_differ _ _ c.if-name-n.false (length_name _ _ _) _ refl c.loop-i-test.true c.loop-i.invariant.1 λ d.
    c.if-wide-unit_at.true (name_unit_plain _ _ _ _ _ c.loop-i-test.true (omega (arith, b.1)) (b.0 ∙ d) ∙ sym c.unit_at.ensures))

pub loop-i-preserved : goal.loop-i-preserved
loop-i-preserved c =
    let b = c.wide.ensures in (
      search rules,
      below_more _ _ c.loop-i.invariant.1
          (sym b.0 ∙ plain_name_unit _ _ _ _ _ c.loop-i-test.true (omega (arith, b.1)) (c.if-wide-unit_at.false ∙ c.unit_at.ensures)),
    )

pub returns : goal.returns
returns c = sym (told_alike _ _ c.if-name-n.false (length_name _ _ _) refl λ k h. c.loop-i.invariant.1 k (omega arith))
