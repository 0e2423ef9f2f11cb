-- One digit: 1, or no '!'.
use Rattle.chunk.proofs.Marks.{marked_one, marked_none}
use Rattle.chunk.proofs.map.mark.Goals as goal

pub returns-then-s-at-eq33 : goal.returns-then-s-at-eq33
returns-then-s-at-eq33 c = marked_one _ _

pub returns-else-s-at-eq33 : goal.returns-else-s-at-eq33
returns-else-s-at-eq33 c = marked_none _ _ c.if-s-at-eq33.false
