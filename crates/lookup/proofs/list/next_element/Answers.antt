-- What comes after entry i comes after k, an entry in whose front i stands.
use mathlib.Core.Path.{sym, ap, ◌∙◌}
use native.Mathlib.Omega.{arith}
use Rattle.lookup.specs.Table.{entry_in}
use Rattle.lookup.specs.Values.{head_of}
use Rattle.lookup.proofs.Elements.{kids_hop, after_number, number_next, next_found, next_none, next_up, next_above, element_after}
use Rattle.lookup.proofs.list.next_element.Goals as goal

pub returns-in-Some : goal.returns-in-Some
returns-in-Some c =
    let e = c.parent_at-p.ensures in
    let v = c.loop-j.invariant in
    let o = c.requires.0.order in
    let l = rw (← e) at (o.older _ v.0) in
    let h = c.in-Some.ensures.0 ∙ ap head_of
    (sym (kids_hop (entry_in _) _ _ _ _ l c.after.ensures)) in (
      λ s m q. number_next s (entry_in _) _ _ m _
          (next_found (entry_in _) _ _ _ _ o
          (v.1 _ (after_number s (entry_in _) _ _ m _ q)) _ e _ h),
      c.in-Some.ensures.1,
    )

pub returns-then-p-parent : goal.returns-then-p-parent
returns-then-p-parent c =
    let e = c.parent_at-p.ensures in
    let v = c.loop-j.invariant in
    let o = c.requires.0.order in
    let l = rw (← e) at (o.older _ v.0) in
    let h = c.in_default.ensures.0 ∙ ap head_of
    (sym (kids_hop (entry_in _) _ _ _ _ l c.after.ensures)) in (
      λ s m q. number_next s (entry_in _) _ _ m _
          (next_none (entry_in _) _ _ _ _ o
          (v.1 _ (after_number s (entry_in _) _ _ m _ q)) _ e h c.if-p-parent.true),
      tt,
    )

pub overflow_sub-k : goal.overflow_sub-k
overflow_sub-k c =
    let p = c.requires in
    let v = c.loop-j.invariant in
    let e = c.parent_at-p.ensures in
    omega (arith, next_above (entry_in _) _ _ _ _ c.requires.0.order (v.1 _ (element_after (entry_in _) _ _ _ p.2)) _ e c.if-p-parent.false)

pub loop-j-smaller : goal.loop-j-smaller
loop-j-smaller c =
    let p = c.requires in
    let v = c.loop-j.invariant in
    let o = c.requires.0.order.older _ v.0 in
    let e = c.parent_at-p.ensures in
    omega (arith, next_above (entry_in _) _ _ _ _ c.requires.0.order (v.1 _ (element_after (entry_in _) _ _ _ p.2)) _ e c.if-p-parent.false)

pub loop-j-preserved : goal.loop-j-preserved
loop-j-preserved c =
    let p = c.requires in
    let v = c.loop-j.invariant in
    let o = c.requires.0.order.older _ v.0 in
    let e = c.parent_at-p.ensures in
    let q = c.parent_at-p.ensures in
    let o = c.requires.0.order in
    let l = rw (← q) at (o.older _ c.loop-j.invariant.0) in
    let h = c.in_default.ensures.0 ∙ ap head_of
    (sym (kids_hop (entry_in _) _ _ _ _ l c.after.ensures)) in
    let z = next_above (entry_in _) _ _ _ _ c.requires.0.order (v.1 _ (element_after (entry_in _) _ _ _ p.2)) _ e c.if-p-parent.false in
    (omega (arith, v.0), λ ys a. next_up (entry_in _) _ _ _ ys c.requires.0.order (v.1 ys a) _ e h c.if-p-parent.false)
