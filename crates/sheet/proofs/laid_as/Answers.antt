-- `laid_as`: sizes that passed fit, and then the head decides.
use mathlib.Core.Path.{refl, sym, ◌∙◌}
use native.Mathlib.Omega.{arith}
use borrow.Author.Rules.{rules}
use Rattle.sheet.specs.Fits.{Fits}
use Rattle.sheet.proofs.Reading.{fits_by, head_compared, head_decides}
use Rattle.sheet.proofs.laid_as.Goals as goal
use Rattle.sheet.proofs.laid_as.Goals.{Else-sheet_over}

-- the sizes passed
fitted : (c : Else-sheet_over) → let a = c.args in Fits a.width a.height a.bits
fitted c =
    let a = c.args in
    fits_by a.width a.height a.bits (sym c.bad_bits.ensures ∙ c.if-bad_bits.false) c.if-width-eq0.false c.if-height-eq0.false
    (sym c.sheet_over.ensures ∙ c.if-sheet_over.false)

pub overflow_mul-width : goal.overflow_mul-width
overflow_mul-width c = let f = fitted c in grind arith

pub put_head-requires : goal.put_head-requires
put_head-requires c = (search rules, fitted (goal.at.put_head-requires c).Else-sheet_over)

pub returns : goal.returns
returns c =
    let a = c.args in
    head_compared a.sheet.now a.width a.height a.bits _ _ _ c.same_at.ensures c.put_head.ensures refl
    ∙ head_decides a.sheet.now a.width a.height a.bits (fitted (goal.at.returns c).Else-sheet_over) c.requires c.if-sheet-width.false
