-- `Cursor::read_level` judges a level's header in the format's order.
use mathlib.Core.Path.{sym}
use Rattle.std.proofs.lemmas.Result.{err_from_is_err_and}
use Rattle.cursor.proofs.Answers.{level_uncounted, level_many, level_unsized, level_short, level_past, level_inner}
use Rattle.cursor.proofs.Cursor.read_level.Goals as goal

pub returns-in_err-count : goal.returns-in_err-count
returns-in_err-count c =
    let p = err_from_is_err_and c.from_residual.result c.from_residual.ensures.1 in
    let r = c.requires in
    rw (p.1, p.2) (level_uncounted _ _ r.0 r.1 _ (sym c.in_err-count.ensures.0))

pub returns-then-count-gt-MAX_CLX_ITEMS : goal.returns-then-count-gt-MAX_CLX_ITEMS
returns-then-count-gt-MAX_CLX_ITEMS c =
    let r = c.requires in
    level_many _ _ r.0 r.1 (sym c.in_ok-count.ensures.0) c.if-count-gt-MAX_CLX_ITEMS.true

pub returns-in_err-length : goal.returns-in_err-length
returns-in_err-length c =
    let p = err_from_is_err_and c.from_residual-in_err-length.result c.from_residual-in_err-length.ensures.1 in
    let r = c.requires in
    rw (p.1, p.2)
    (level_unsized _ _ r.0 r.1 (sym c.in_ok-count.ensures.0) c.if-count-gt-MAX_CLX_ITEMS.false _ (sym c.in_err-length.ensures.0))

pub returns-then-size-header : goal.returns-then-size-header
returns-then-size-header c =
    let r = c.requires in
    level_short _ _ r.0 r.1 (sym c.in_ok-count.ensures.0) c.if-count-gt-MAX_CLX_ITEMS.false (sym c.in_ok-length.ensures.0) c.if-size-header.true

pub returns-then-end-at : goal.returns-then-end-at
returns-then-end-at c =
    let r = c.requires in
    level_past _ _ r.0 r.1 (sym c.in_ok-count.ensures.0) c.if-count-gt-MAX_CLX_ITEMS.false (sym c.in_ok-length.ensures.0) c.if-size-header.false
    c.if-end-at.true

pub returns : goal.returns
returns c =
    let r = c.requires in
    level_inner _ _ r.0 r.1 (sym c.in_ok-count.ensures.0) c.if-count-gt-MAX_CLX_ITEMS.false (sym c.in_ok-length.ensures.0) c.if-size-header.false
    c.if-end-at.false
