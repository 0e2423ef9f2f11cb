-- The parent is the last of an entry's six numbers.
use Rattle.lookup.specs.Table.{entry_in}
use Rattle.lookup.proofs.entry.parent_at.Goals as goal

pub returns : goal.returns
unfolding entry_in
returns c = c.number_at.ensures
