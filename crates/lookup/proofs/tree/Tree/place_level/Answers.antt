-- The value of a name is that of its last child, and unnamed children are a list unless there is only one.
use mathlib.Core.Path.{sym, ap, ◌∙◌}
use Rattle.format.specs.declared.Entry.{Entry}
use Rattle.format.specs.Values.{name_of}
use Rattle.lookup.specs.Table.{entry_in}
use Rattle.lookup.proofs.Leading.{last_alone}
use Rattle.lookup.proofs.Turns.{place_unnamed, place_named, place_absent}
use Rattle.lookup.proofs.tree.Tree.place_level.Goals as goal

pub returns-then-e-eq0 : goal.returns-then-e-eq0
returns-then-e-eq0 c =
    let e = c.entry_at-e in
    (place_unnamed _ (entry_in _) _ _ _ e.result e.ensures _ c.if-e-eq0.true (c.unnamed_level.ensures.0 _), c.unnamed_level.ensures.1)

pub returns-then-alone : goal.returns-then-alone
unfolding name_of
returns-then-alone c =
    let p = c.requires in
    let e = c.entry_at-e in
    let u = c.if-e-eq0.false in
    let m = p.0.clean _ (c.alone.ensures c.if-alone.true) in
    let z = last_alone _ (entry_in _) _ _ _ _ m p.1 p.2 p.3 (λ z. u (ap (λ (y : Entry). y.units) e.ensures ∙ z)) in
    (place_named _ (entry_in _) _ _ _ e.result e.ensures _ _ _ p.0.run u (sym (rw e.ensures z)) (c.level_at.ensures.0 _), c.level_at.ensures.1)

pub returns-in_err-last_of : goal.returns-in_err-last_of
unfolding name_of
returns-in_err-last_of c =
    let e = c.entry_at-e in
    rw c.from_residual.ensures (
      place_absent _ (entry_in _) _ _ _ e.result e.ensures _ c.requires.0.run c.if-e-eq0.false (rw e.ensures c.in_err-last_of.ensures.0),
      tt,
    )

pub returns : goal.returns
unfolding name_of
returns c =
    let e = c.entry_at-e in (
      place_named _ (entry_in _) _ _ _ e.result e.ensures _ _ _ c.requires.0.run
          c.if-e-eq0.false (rw e.ensures c.in_ok-last_of.ensures.0) (c.level_at-2.ensures.0 _),
      c.level_at-2.ensures.1,
    )
