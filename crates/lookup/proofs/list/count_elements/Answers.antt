-- n elements are counted, and the next one is at hand.
use native.Mathlib.Omega.{arith}
use mathlib.Core.Path.{sym}
use mathlib.Core.List.{[]}
use Rattle.format.specs.Trees.{most_depth}
use Rattle.lookup.specs.Table.{entry_in}
use Rattle.lookup.proofs.Elements.{counted_end, counted_less, counted_more, elements_short}
use Rattle.lookup.proofs.Search.{is_at, at_within}
use Rattle.lookup.proofs.list.count_elements.Goals as goal

pub returns : goal.returns
returns c = λ s. counted_end _ _ _ (c.loop-at.invariant.1 s) c.in_default.is

pub next_element-at-requires : goal.next_element-at-requires
next_element-at-requires c =
    let v = c.loop-at.invariant in
    let h = c.in-Some.is in (
      c.requires.0,
      at_within _ _ _ h v.0,
      record { file = []; number = _; is = sym (is_at _ _ _ h (v.1 []).next) },
    )

pub overflow_add-n : goal.overflow_add-n
overflow_add-n c =
    let a = c.args in
    let l = counted_less _ _ _ _ (c.loop-at.invariant.1 []) c.in-Some.is in
    let k = elements_short most_depth [] (entry_in a.table.now) a.used a.parent in
    omega (arith, l, k, c.requires.0.room, c.well_formed.0.1)

pub loop-at-smaller : goal.loop-at-smaller
loop-at-smaller c = let a = counted_less _ _ _ _ (c.loop-at.invariant.1 []) c.in-Some.is in omega (arith, a)

pub loop-at-preserved : goal.loop-at-preserved
loop-at-preserved c = (
  c.next_element-at.ensures.1,
  λ s. counted_more _ _ _ _ _ (c.loop-at.invariant.1 s) c.in-Some.is (c.next_element-at.ensures.0 s _),
)
