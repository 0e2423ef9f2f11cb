-- How many units the name has is the third of an entry's six numbers.
use Rattle.lookup.specs.Table.{entry_in}
use Rattle.lookup.proofs.entry.units_at.Goals as goal

pub returns : goal.returns
unfolding entry_in
returns c = c.number_at.ensures
