-- The digits of two halves, joined.
use Rattle.chunk.proofs.Marks.{marked_join}
use Rattle.chunk.proofs.map.marks16.Goals as goal

pub returns : goal.returns
returns c = marked_join c.marks8.ensures c.marks8-2.ensures
