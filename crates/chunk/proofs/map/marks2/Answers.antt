-- The digits of two halves, joined.
use Rattle.chunk.proofs.Marks.{marked_join}
use Rattle.chunk.proofs.map.marks2.Goals as goal

pub returns : goal.returns
returns c = marked_join c.mark.ensures c.mark-2.ensures
