-- n places stand before entry i of the level's run.
use Prim.Native.Nat.{◌<◌}
use mathlib.Core.Path.{sym, ◌∙◌}
use native.Mathlib.Omega.{arith}
use Rattle.lookup.specs.Table.{entry_in}
use Rattle.lookup.proofs.Places.{placed_start, placed_here, placed_skip, placed_hop, placed_end}
use Rattle.lookup.proofs.tree.Tree.count_places.Goals as goal
use Rattle.lookup.proofs.tree.Tree.count_places.Goals.{then-leads_at, else-leads_at}

pub loop-i-init : goal.loop-i-init
loop-i-init c =
    let l = c.level-level.ensures in
    (omega arith, l.1, placed_start _ _ _ _ c.args.self.holds.rows.order (omega (arith, l.0)))

pub loop-i-preserved : goal.loop-i-preserved
loop-i-preserved c =
    let v = c.loop-i.invariant in
    let r = c.after-i.ensures in
    let l : c.loop-i.i < c.args.self.used = omega (arith, c.loop-i-test.true, v.1.run.below.high) in
    let b = c.leads_at.ensures in (
      omega (arith, v.0, r.below.low),
      v.1,
      placed_hop _ (entry_in _) _ _ _ _ _ v.0 r (elim c.if-leads_at.branch [
        | then-leads_at w ↦ rw w.n-is (placed_here _ (entry_in _) _ _ _ _ v.2 l (sym b ∙ w.if-leads_at.true))
        | else-leads_at w ↦ rw w.n-is (placed_skip _ (entry_in _) _ _ _ _ v.2 l (sym b ∙ w.if-leads_at.false))
      ]),
    )

pub returns : goal.returns
returns c =
    let v = c.loop-i.invariant in
    rw (← c.level-level.ensures.0) (placed_end _ (entry_in _) _ _ _ _ _ v.2 v.1.run c.loop-i-test.false)
