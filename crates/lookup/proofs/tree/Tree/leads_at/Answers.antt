-- By the level's end, the first without a name, a part without repeats, or the names before.
use Rattle.lookup.specs.Table.{entry_in}
use Rattle.lookup.proofs.Places.{place_other}
use Rattle.lookup.proofs.tree.Tree.leads_at.Goals as goal

pub returns-then-e-level : goal.returns-then-e-level
returns-then-e-level c = place_other _ (entry_in _) _ _ c.entry_at-e.result c.entry_at-e.ensures c.if-e-level.true
