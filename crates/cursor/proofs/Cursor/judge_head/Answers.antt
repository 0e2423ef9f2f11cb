-- `Cursor::judge_head` judges a record's head in the format's order.
use mathlib.Core.Path.{sym, ◌∙◌}
use native.Mathlib.Omega.{arith}
use borrow.Author.Rules.{rules}
use Rattle.cursor.proofs.Answers.{head_packed, head_early, head_cut, head_unknown, head_named}
use Rattle.cursor.proofs.Cursor.judge_head.Goals as goal

pub returns-in-76 : goal.returns-in-76
returns-in-76 c = λ d inside kind units. head_packed d (omega (arith, c.requires)) kind units c.in-76.is

pub returns-in-0 : goal.returns-in-0
returns-in-0 c = λ d inside kind units. head_early d (omega (arith, c.requires)) kind units c.in-0.is

pub returns-then-end-at : goal.returns-then-end-at
returns-then-end-at c = λ d inside kind units.
    let p = c.requires in
    head_cut d (omega (arith, p)) kind units (λ e. omega arith) (search rules) (rw p.0 at c.if-end-at.true)

pub returns-then-not-is_known : goal.returns-then-not-is_known
returns-then-not-is_known c = λ d inside kind units.
    let p = c.requires in
    head_unknown d (omega (arith, p)) kind units (λ e. omega arith) (search rules) (rw p.0 at c.if-end-at.false)
    (sym c.is_known.ensures ∙ c.if-not-is_known.true)

pub returns : goal.returns
returns c = λ d inside kind units.
    let p = c.requires in
    rw p.0
    (head_named d (omega (arith, p)) kind units (λ e. omega arith) (search rules) (rw p.0 at c.if-end-at.false) inside
    (sym c.is_known.ensures ∙ c.if-not-is_known.false) c.kept.ensures)
