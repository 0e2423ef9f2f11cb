-- The places passed are no levels; what lies below an entry is no place.
use Prim.Native.Nat.{◌<◌}
use native.Mathlib.Omega.{arith}
use mathlib.Core.Path.{sym, ◌∙◌}
use Rattle.lookup.specs.Table.{entry_in}
use Rattle.lookup.proofs.Leading.{leads_child}
use Rattle.lookup.proofs.Turns.{levels_skip, levels_none, levels_found, levels_hop, levels_past}
use Rattle.lookup.proofs.tree.Tree.next_place.Goals as goal

pub place_level-requires : goal.place_level-requires
place_level-requires c =
    let p = c.requires in
    let v = c.loop-i.invariant in
    (p.0, v.0, c.loop-i-test.true, leads_child _ (entry_in _) _ _ (sym c.leads_at.ensures ∙ c.if-leads_at.true))

pub returns-in-Some : goal.returns-in-Some
returns-in-Some c =
    let p = c.requires in
    let v = c.loop-i.invariant in
    let r = c.after-next.ensures in
    let u = c.place_level.ensures in
    let t = c.loop-i-test.true in
    let l : c.loop-i.i < c.args.self.used = omega (arith, t, p.0.run.below.high) in (
      c.in-Some.ensures.1,
      (p.0, omega (arith, v.0, r.below.low)),
      v.1 ∙ levels_found _ (entry_in _) _ _ _ _ _ l
          (sym c.leads_at.ensures ∙ c.if-leads_at.true)
          c.in-Some.ensures.0 v.0 r,
    )

pub loop-i-preserved-in_default : goal.loop-i-preserved-in_default
loop-i-preserved-in_default c =
    let p = c.requires in
    let v = c.loop-i.invariant in
    let r = c.after-next.ensures in
    let t = c.loop-i-test.true in
    let l : c.loop-i.i < c.args.self.used = omega (arith, t, p.0.run.below.high) in (
      omega (arith, v.0, r.below.low),
      v.1 ∙ levels_none _ (entry_in _) _ _ _ l (sym c.leads_at.ensures ∙ c.if-leads_at.true)
          c.in_default.ensures.0
          ∙ levels_hop _ (entry_in _) _ _ _ _ v.0 r,
    )

pub loop-i-preserved : goal.loop-i-preserved
loop-i-preserved c =
    let p = c.requires in
    let v = c.loop-i.invariant in
    let r = c.after-next.ensures in
    let l : c.loop-i.i < c.args.self.used = omega
    (arith, c.loop-i-test.true, p.0.run.below.high) in (
      omega (arith, v.0, r.below.low),
      v.1 ∙ levels_skip _ (entry_in _) _ _ _ l (sym c.leads_at.ensures ∙ c.if-leads_at.false) ∙ levels_hop _ (entry_in _) _ _ _ _ v.0 r,
    )

pub returns : goal.returns
returns c = c.loop-i.invariant.1 ∙ levels_past _ (entry_in _) _ _ _ _ c.requires.0.run c.loop-i-test.false
