-- Foreign, or compared.
use mathlib.Core.Path.{sym}
use borrow.Author.Rules.{rules}
use Rattle.chunk.proofs.names.is_at.Goals as goal

pub returns-then-not-may_be_at : goal.returns-then-not-may_be_at
returns-then-not-may_be_at c = sym ((c.may_be_at.ensures c.if-not-may_be_at.true).other _ (search rules))

pub returns : goal.returns
returns c = c.equals_at.ensures
