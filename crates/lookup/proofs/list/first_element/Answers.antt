-- The first element is that of the level p, where a list in front is spread with as many depths left as there are turns.
use native.Mathlib.Omega.{arith}
use mathlib.Core.Path.{◌≡◌, sym, ap, ◌∙◌}
use Prim.Native.Nat.{◌+◌, ◌-◌}
use Rattle.lookup.specs.Table.{entry_in}
use Rattle.lookup.specs.Values.{head_of}
use Rattle.lookup.proofs.Elements.{first_none, first_flat, first_plain, first_deep, kids_own}
use Rattle.lookup.proofs.list.first_element.Goals as goal

pub returns-in_err-i : goal.returns-in_err-i
returns-in_err-i c =
    let v = c.loop.invariant in
    let h = c.in_err-i.ensures.0 ∙ ap head_of (sym (kids_own (entry_in _) _ _ c.requires.0.order v.0)) in
    rw c.from_residual.ensures (λ s. first_none s (entry_in _) _ _ _ h ∙ sym (v.1 s), tt)

pub returns-then-not-list_at : goal.returns-then-not-list_at
returns-then-not-list_at c =
    let v = c.loop.invariant in
    let h = c.in_ok-i.ensures.0 ∙ ap head_of (sym (kids_own (entry_in _) _ _ c.requires.0.order v.0)) in (
      λ s. first_plain s (entry_in _) _ _ _ _ (sym (c.list_at.ensures s) ∙ c.if-not-list_at.true) h ∙ sym (v.1 s),
      c.in_ok-i.ensures.1,
    )

pub loop-preserved : goal.loop-preserved
loop-preserved c =
    let v = c.loop.invariant in
    let h = c.in_ok-i.ensures.0 ∙ ap head_of (sym (kids_own (entry_in _) _ _ c.requires.0.order v.0)) in
    let d : 64 - (c.loop.counter + 1) ≡ (64 - c.loop.counter) - 1 = omega arith in (
      let b = c.in_ok-i.ensures.1 in omega arith,
      λ s. v.1 s ∙ rw d (first_deep s (entry_in _) _ _ _ _ (omega arith) (sym (c.list_at.ensures s) ∙ c.if-not-list_at.false) h),
    )

pub returns : goal.returns
returns c =
    let v = c.loop.invariant in
    let h = c.next_unnamed-2.ensures.0 ∙ ap head_of (sym (kids_own (entry_in _) _ _ c.requires.0.order v.0)) in
    (λ s. first_flat s (entry_in _) _ _ _ _ (omega arith) h ∙ sym (v.1 s), c.next_unnamed-2.ensures.1)
