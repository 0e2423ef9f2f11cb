-- The digits of two halves, joined.
use Rattle.chunk.proofs.Marks.{marked_join}
use Rattle.chunk.proofs.map.marks4.Goals as goal

pub returns : goal.returns
returns c = marked_join c.marks2.ensures c.marks2-2.ensures
