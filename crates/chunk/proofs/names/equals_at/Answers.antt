-- Of another length, or compared.
use mathlib.Core.Path.{sym}
use Rattle.format.proofs.Ground.Bytes.{part_other}
use borrow.Author.Rules.{rules}
use Rattle.chunk.proofs.names.equals_at.Goals as goal

pub returns-then-n-e : goal.returns-then-n-e
returns-then-n-e c = sym (part_other _ _ _ _ (search rules) c.if-n-e.true)

pub returns : goal.returns
returns c = rw c.if-n-e.false c.same_at.ensures
