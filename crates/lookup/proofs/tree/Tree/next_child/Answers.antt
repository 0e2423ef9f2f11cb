-- The elements passed are no levels; in a level the places are looked through.
use Rattle.lookup.specs.Table.{entry_in}
use Rattle.lookup.proofs.Turns.{standing_elements, element_some, element_none, element_less}
use Rattle.lookup.proofs.tree.Tree.next_child.Goals as goal

pub returns-in-Some : goal.returns-in-Some
returns-in-Some c =
    let g = standing_elements _ (entry_in _) _ _ _ _ _ c.in-Elements.is
    c.loop-walk.invariant.0 in
    let b = c.after_element-rest.ensures _ in (
      c.in-Some.ensures.1,
      b.walk.good,
      element_some _ (entry_in _) _ _ _ _ _ _ c.in-Elements.is
          c.loop-walk.invariant.1 (g.1 _) _ b _
          (c.in-Some.ensures.0 _),
    )

pub loop-walk-smaller : goal.loop-walk-smaller
loop-walk-smaller c =
    let g = standing_elements _ (entry_in _) _ _ _ _ _ c.in-Elements.is
    c.loop-walk.invariant.0 in
    element_less _ (entry_in _) _ _ _ _ _ _ c.in-Elements.is
    c.loop-walk.invariant.1 (g.1 _) _ (c.after_element-rest.ensures _)

pub loop-walk-preserved : goal.loop-walk-preserved
loop-walk-preserved c =
    let g = standing_elements _ (entry_in _) _ _ _ _ _ c.in-Elements.is
    c.loop-walk.invariant.0 in
    let b = c.after_element-rest.ensures _ in (
      b.walk.good,
      element_none _ (entry_in _) _ _ _ _ _ _ c.in-Elements.is
          c.loop-walk.invariant.1 (g.1 _) _ b
          (c.in_default.ensures.0 _),
    )
