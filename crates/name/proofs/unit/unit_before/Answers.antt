-- `unit_before` reads the unit before, and the 0 that stands before the first. Assumes nothing.
use mathlib.Core.Path.{sym, ◌∙◌}
use native.Mathlib.Omega.{arith}
use Rattle.format.proofs.Text.Units.{units_before}
use Rattle.name.proofs.unit.unit_before.Goals as goal

pub returns-else-i-eq0 : goal.returns-else-i-eq0
returns-else-i-eq0 c = c.unit_at.ensures ∙ sym (units_before _ _ _ _ (omega arith) c.if-i-eq0.false)
