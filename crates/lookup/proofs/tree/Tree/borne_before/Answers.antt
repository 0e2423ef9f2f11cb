-- No child before entry i has the name.
use mathlib.Core.Path.{sym, ◌∙◌}
use native.Mathlib.Omega.{arith}
use Rattle.lookup.proofs.Search.{sought_start, sought_on, some_there, last_no, last_none}
use Rattle.lookup.proofs.tree.Tree.borne_before.Goals as goal

pub loop-i-init : goal.loop-i-init
loop-i-init c =
    let p = c.requires in
    (omega arith, sought_start _ _ _ _ _ _ _ p.0 (sym (last_none _ _ _ _ _ _ c.args.self.holds.rows.order (omega arith) (omega (arith, p.0, p.1)))))

pub returns-then-bears : goal.returns-then-bears
returns-then-bears c = some_there _ _ _ _ _ _ c.loop-i-test.true (sym c.bears.ensures ∙ c.if-bears.true)

pub loop-i-preserved : goal.loop-i-preserved
loop-i-preserved c =
    let v = c.loop-i.invariant in
    let l = c.loop-i-test.true in
    let r = c.after-i.ensures in (
      omega (arith, r.below.low, v.0),
      sought_on _ _ _ _ _ _ _ _ _ l v.0 r
          (v.1.by (omega arith) ∙ sym (last_no _ _ _ _ _ (sym c.bears.ensures ∙ c.if-bears.false))),
    )
