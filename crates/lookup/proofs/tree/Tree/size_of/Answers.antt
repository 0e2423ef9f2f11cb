-- A level has as many entries as places, a list its elements, and any other value none.
use Rattle.std.proofs.Common.{rules}
use Rattle.lookup.proofs.Turns.{size_absent, size_level, size_list, size_other}
use Rattle.lookup.proofs.tree.Tree.size_of.Goals as goal

pub returns-in_default : goal.returns-in_default
returns-in_default c = size_absent _ _ _ c.in_default.is

pub returns-in-Level : goal.returns-in-Level
returns-in-Level c = size_level _ _ _ _ _ _ c.in-Some.is c.in-Level.is c.count_places.ensures

pub returns-in-List : goal.returns-in-List
returns-in-List c = size_list _ _ _ _ _ _ c.in-Some.is c.in-List.is (c.count_elements.ensures _)

pub returns-in_default-v : goal.returns-in_default-v
returns-in_default-v c = size_other _ _ _ _ c.in-Some.is (search rules)
