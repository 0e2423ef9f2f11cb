-- The number is that of the entry's name.
use Rattle.format.specs.Values.{name_of}
use Rattle.lookup.proofs.tree.Tree.hash_at.Goals as goal

pub returns : goal.returns
unfolding name_of
returns c = (rw (← c.entry_at-e.ensures) c.hash_name.ensures.0, c.hash_name.ensures.1)
