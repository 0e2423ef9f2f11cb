-- The search has come to entry i, past whole children, and found the last of the name before it.
use mathlib.Core.Path.{sym, ◌∙◌}
use native.Mathlib.Omega.{arith}
use Rattle.lookup.proofs.Search.{sought_on, last_yes, last_no}
use Rattle.lookup.proofs.tree.Tree.last_alike.Goals as goal
use Rattle.lookup.proofs.tree.Tree.last_alike.Goals.{then-bears, else-bears}

pub loop-i-preserved : goal.loop-i-preserved
loop-i-preserved c =
    let v = c.loop-i.invariant in
    let l = c.loop-i-test.true in
    let r = c.after-i.ensures in
    let b = c.bears.ensures in (
      omega (arith, r.below.low, v.0),
      sought_on _ _ _ _ _ _ _ _ _ l v.0 r (elim c.if-bears.branch [
        | then-bears w ↦ rw w.last-is (sym (last_yes _ _ _ _ _ (sym b ∙ w.if-bears.true)))
        | else-bears w ↦ rw w.last-is (v.1.by (omega arith) ∙ sym (last_no _ _ _ _ _ (sym b ∙ w.if-bears.false)))
      ]),
      elim c.if-bears.branch [ then-bears w ↦ rw w.last-is l | else-bears w ↦ rw w.last-is v.2 ],
    )
