-- No room, or another number in the last eight bytes.
use mathlib.Core.Path.{sym, ◌∙◌}
use mathlib.Core.Bool.{true≢false}
use native.Mathlib.Omega.{arith}
use borrow.Author.Tests.{eqb-false}
use Rattle.chunk.proofs.Comparing.{foreign_short, foreign_number}
use Rattle.chunk.proofs.names.may_be_at.Goals as goal

pub returns-then-s-at : goal.returns-then-s-at
returns-then-s-at c = λ _. foreign_short (omega arith)

pub returns-then-e-lt8 : goal.returns-then-e-lt8
returns-then-e-lt8 c = λ q. absurd (true≢false q)

pub returns : goal.returns
returns c = λ q. foreign_number 8 _ (omega arith) λ z. eqb-false _ _ q (c.le.ensures.0 ∙ z ∙ sym c.le-2.ensures.0)
