-- Each number is the one in its eight bytes.
use Rattle.lookup.specs.Table.{entry_in}
use Rattle.lookup.proofs.entry.entry_at.Goals as goal

pub returns : goal.returns
unfolding entry_in
returns c = cc
