-- Of another length, or compared.
use mathlib.Core.Path.{sym}
use Rattle.format.specs.Bytes.{ascii}
use Rattle.format.specs.Map.{end_mark}
use Rattle.format.proofs.Ground.Bytes.{part_other}
use borrow.Author.Rules.{rules}
use Rattle.chunk.proofs.names.is_end.Goals as goal

pub returns-then-n-ne32 : goal.returns-then-n-ne32
unfolding end_mark ascii
returns-then-n-ne32 c = sym (part_other _ end_mark _ _ (search rules) c.if-n-ne32.true)

pub returns : goal.returns
returns c = rw c.if-n-ne32.false c.end_at.ensures
