-- `unit_after` reads the next unit of the list of units, 0 past its end. Assumes nothing.
use native.Mathlib.Omega.{arith}
use mathlib.Core.Path.{sym, ◌∙◌}
use Rattle.format.proofs.Text.Units.{units_at, units_past}
use Rattle.name.proofs.unit.unit_after.Goals as goal

pub unit_at-requires : goal.unit_at-requires
unit_at-requires c = omega (arith, c.requires.1 c.if-i-n.true)

pub returns-then-i-n : goal.returns-then-i-n
returns-then-i-n c = c.unit_at.ensures ∙ sym (units_at _ _ _ _ c.if-i-n.true)

pub returns-else-i-n : goal.returns-else-i-n
returns-else-i-n c = sym (units_past _ _ _ _ c.if-i-n.false)
