-- Up to entry i no child has a name; an entry outside of the level ends its children.
use native.Mathlib.Omega.{arith}
use mathlib.Core.Path.{sym, ap, ◌∙◌}
use Rattle.format.specs.declared.Entry.{Entry}
use Rattle.lookup.specs.Table.{entry_in}
use Rattle.lookup.proofs.Lists.{plain_start, plain_stop, plain_other, plain_more, plain_hop, not_list}
use Rattle.lookup.proofs.value.is_list.Goals as goal
use Rattle.lookup.proofs.value.is_list.Goals.{then-p-parent-2+else-e-ne0, else-p-parent-2}

pub loop-i-init : goal.loop-i-init
loop-i-init c = (c.requires.1, omega arith, λ s. plain_start s _ _ (entry_in _) c.requires.0.order c.requires.1)

pub returns-then-p-parent : goal.returns-then-p-parent
returns-then-p-parent c =
    let v = c.loop-i.invariant in
    let h = rw c.entry_at-e.ensures at c.if-p-parent.true in
    λ s. plain_stop s _ _ (entry_in _) _ _ (v.2 s) v.0 (λ k a b. c.requires.0.order.nested _ _ k v.1 a b h)

pub returns-then-e-ne0 : goal.returns-then-e-ne0
returns-then-e-ne0 c =
    let e = c.entry_at-e.ensures in
    λ s. sym (not_list s _ _ _ _ c.loop-i-test.true
    (ap (λ (x : Entry). x.parent) (sym e) ∙ c.if-p-parent-2.true) (λ z. c.if-e-ne0.true (ap (λ (x : Entry). x.units) e ∙ z)))

pub loop-i-preserved : goal.loop-i-preserved
loop-i-preserved c =
    let e = c.entry_at-e.ensures in
    let v = c.loop-i.invariant in
    let r = c.after-i.ensures in (
      r.below.high,
      omega (arith, r.below.low, v.1),
      λ s. plain_hop s _ _ _ _ _ _ v.1 r (elim c.if-p-parent-2.branch [
        | then-p-parent-2+else-e-ne0 w ↦
            rw w.seen-is (plain_more s _ _ _ _ (v.2 s) (ap (λ (x : Entry). x.parent) (sym e) ∙ w.if-p-parent-2.true)
            (ap (λ (x : Entry). x.units) (sym e) ∙ w.if-e-ne0.false))
        | else-p-parent-2 w ↦
            rw w.seen-is (plain_other s _ _ _ _ (v.2 s) (λ z. w.if-p-parent-2.false (ap (λ (x : Entry). x.parent) e ∙ z)))
      ]),
    )
