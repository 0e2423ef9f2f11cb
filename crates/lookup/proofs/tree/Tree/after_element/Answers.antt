-- What comes after element number `before` are the elements from the next number on.
use native.Mathlib.Omega.{arith}
use mathlib.Core.List.{[]}
use Rattle.format.specs.Trees.{most_depth}
use Rattle.lookup.specs.Table.{entry_in, entries_in}
use Rattle.lookup.specs.Values.{elements_of}
use Rattle.lookup.proofs.Elements.{get_less, elements_short}
use Rattle.lookup.proofs.Turns.{behind_end}
use Rattle.lookup.proofs.tree.Tree.after_element.Goals as goal

pub next_element-requires : goal.next_element-requires
next_element-requires c = (c.requires.0, record { file = []; number = _; is = c.requires.1 [] })

pub overflow_add-result : goal.overflow_add-result
overflow_add-result c =
    let a = c.args in
    let l = get_less (elements_of [] (entries_in a.self.table.now a.self.used) a.parent) _ _ (c.requires.1 []) in
    let k = elements_short most_depth [] (entry_in a.self.table.now) a.self.used a.parent in
    omega (arith, l, k, c.args.self.holds.rows.room, c.well_formed.0.1)

pub returns-in-None : goal.returns-in-None
returns-in-None c =
    λ s. behind_end s (entry_in _) _ _ _
    (c.in-None.ensures.0 s _ (c.requires.1 s))
