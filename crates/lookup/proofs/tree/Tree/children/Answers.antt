-- A level's entries are its places, a list's elements begin with the first, and any other value has none.
use Rattle.std.proofs.Common.{rules}
use Rattle.lookup.proofs.Turns.{walk_absent, walk_level, walk_empty, walk_list, walk_other}
use Rattle.lookup.specs.Table.{entry_in}
use Rattle.lookup.proofs.tree.Tree.children.Goals as goal

pub returns-in_default : goal.returns-in_default
returns-in_default c = walk_absent _ (entry_in _) _ _ c.in_default.is

pub returns-in-Level : goal.returns-in-Level
returns-in-Level c =
    walk_level _ (entry_in _) _ _ _ _ _ c.in-Some.is c.in-Level.is
    c.args.self.holds.rows.order c.level-level.ensures.0 c.level-level.ensures.1

pub returns-in-None : goal.returns-in-None
returns-in-None c =
    walk_empty _ (entry_in _) _ _ _ _ c.in-Some.is
    c.in-List.is (c.in-None.ensures.0 _)

pub returns-in-Some-first_element : goal.returns-in-Some-first_element
returns-in-Some-first_element c =
    walk_list _ (entry_in _) _ _ _ _ _ c.in-Some.is
    c.in-List.is c.in-Some-first_element.ensures.1 c.in-Some-first_element.ensures.0

pub returns-in_default-v : goal.returns-in_default-v
returns-in_default-v c = walk_other _ (entry_in _) _ _ _ c.in-Some.is (search rules)
