-- The key is that of the entry's name.
use Rattle.format.specs.Values.{name_of}
use Rattle.lookup.proofs.tree.Tree.key_at.Goals as goal

pub returns : goal.returns
unfolding name_of
returns c = rw (← c.entry_at-e.ensures) c.key_name.ensures
