-- Too short, or compared over the length of e.
use mathlib.Core.Path.{sym, ◌∙◌}
use Rattle.format.proofs.Ground.Bytes.{begins_short, begins_part}
use borrow.Author.Rules.{rules}
use Rattle.chunk.proofs.names.begins_at.Goals as goal

pub returns-then-n-e : goal.returns-then-n-e
returns-then-n-e c = sym (begins_short _ _ _ _ (search rules) c.if-n-e.true)

pub returns : goal.returns
returns c = c.same_at.ensures ∙ sym (begins_part _ _ _ _ c.if-n-e.false)
