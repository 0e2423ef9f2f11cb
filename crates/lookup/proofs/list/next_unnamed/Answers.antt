-- The entries before i are passed; an entry outside of the level ends its children.
use native.Mathlib.Omega.{arith}
use mathlib.Core.Path.{sym, ap, ◌∙◌}
use Rattle.lookup.specs.Table.{entry_in}
use Rattle.lookup.specs.Values.{head_of}
use Rattle.lookup.proofs.Elements.{kid_yes, kid_other, kid_named, kids_end, kids_none, kids_hop}
use Rattle.lookup.proofs.list.next_unnamed.Goals as goal
use Rattle.lookup.proofs.list.next_unnamed.Goals.{else-p-parent-2-via-then-p-parent-2+else-e-eq0, else-p-parent-2-via-else-p-parent-2}

pub returns-then-p-parent : goal.returns-then-p-parent
returns-then-p-parent c =
    let v = c.loop-i.invariant in
    let h = rw c.entry_at-e.ensures at c.if-p-parent.true in
    (sym (ap head_of (v.1 ∙ kids_none _ _ _ _ (λ k a b. c.requires.0.order.nested _ _ k v.0 a b h))), tt)

pub returns-then-e-eq0 : goal.returns-then-e-eq0
returns-then-e-eq0 c =
    let e = c.entry_at-e in
    let l = c.loop-i-test.true in (
      sym (ap head_of (c.loop-i.invariant.1
          ∙ kid_yes (entry_in _) _ _ _ e.result e.ensures l c.if-p-parent-2.true c.if-e-eq0.true)),
      l,
    )

pub loop-i-preserved : goal.loop-i-preserved
loop-i-preserved c =
    let e = c.entry_at-e in
    let l = c.loop-i-test.true in
    let v = c.loop-i.invariant in
    let r = c.after-i.ensures in (
      omega (arith, r.below.low, v.0),
      v.1 ∙ elim c.else-p-parent-2.branch [
        | else-p-parent-2-via-then-p-parent-2+else-e-eq0 w ↦ kid_named (entry_in _) _ _ _ e.result e.ensures l w.if-e-eq0.false
        | else-p-parent-2-via-else-p-parent-2 w ↦ kid_other (entry_in _) _ _ _ e.result e.ensures l w.if-p-parent-2.false
      ]
          ∙ kids_hop (entry_in _) _ _ _ _ v.0 r,
    )

pub returns : goal.returns
returns c = (sym (ap head_of (c.loop-i.invariant.1 ∙ kids_end _ _ _ _ c.loop-i-test.false)), tt)
