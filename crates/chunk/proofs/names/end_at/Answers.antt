-- The four numbers are the mark's, of 32 bytes.
use borrow.Author.Rules.{rules}
use Rattle.format.specs.Bytes.{ascii, le_at}
use Rattle.format.specs.Map.{end_mark}
use Rattle.chunk.proofs.Comparing.{told_mark}
use Rattle.chunk.proofs.names.end_at.Goals as goal

pub returns : goal.returns
unfolding end_mark ascii le_at
returns c = told_mark _ _ (λ j. (c.type_inv.s j).fits) (search rules) c.le-a.ensures.0 c.le-b.ensures.0 c.le-c.ensures.0 c.le-d.ensures.0
