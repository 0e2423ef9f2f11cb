-- `sheet_read`: one law for each way out.
use mathlib.Core.Path.{sym, ◌∙◌}
use Rattle.sheet.proofs.Reading.{short_read, away_read, full_read, taken_read, strip_copied}
use Rattle.sheet.proofs.sheet_read.Goals as goal

pub returns-then-sheet-lt-HEAD_BYTES : goal.returns-then-sheet-lt-HEAD_BYTES
returns-then-sheet-lt-HEAD_BYTES c =
    let a = c.args in
    short_read a.sheet.now a.samples.now c.if-sheet-lt-HEAD_BYTES.true

pub returns-then-not-laid_as : goal.returns-then-not-laid_as
returns-then-not-laid_as c =
    let a = c.args in
    away_read a.sheet.now a.samples.now c.le-width.ensures.0 c.le-height.ensures.0 c.le-bits.ensures.0 (sym c.if-not-laid_as.true ∙ c.laid_as.ensures)

pub returns-then-samples-size : goal.returns-then-samples-size
returns-then-samples-size c =
    let a = c.args in
    full_read a.sheet.now a.samples.now c.le-width.ensures.0 c.le-height.ensures.0 c.le-bits.ensures.0 (sym c.if-not-laid_as.false ∙ c.laid_as.ensures)
    c.if-samples-size.true

pub returns : goal.returns
returns c =
    let a = c.args in
    taken_read a.sheet.now a.samples.now c.le-width.ensures.0 c.le-height.ensures.0 c.le-bits.ensures.0 (sym c.if-not-laid_as.false ∙ c.laid_as.ensures)
    c.if-samples-size.false (strip_copied a.sheet.now a.samples.now c.copy_run.new.dst c.copy_run.ensures)
