-- The digits of two halves, joined.
use Rattle.chunk.proofs.Marks.{marked_join}
use Rattle.chunk.proofs.map.marks8.Goals as goal

pub returns : goal.returns
returns c = marked_join c.marks4.ensures c.marks4-2.ensures
