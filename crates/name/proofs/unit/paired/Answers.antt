-- `paired` looks at the one neighbour that can be the surrogate's partner. Assumes nothing.
use mathlib.Core.Path.{sym}
use native.Mathlib.Omega.{arith}
use Rattle.format.proofs.Text.Mended.{high_true, low_true}
use Rattle.format.proofs.Text.Units.{name_high, name_low}
use Rattle.format.proofs.Text.Compared.{reaches_unit, reaches_after}
use Rattle.name.proofs.unit.paired.Goals as goal

pub unit_after-requires : goal.unit_after-requires
unit_after-requires c =
    let p = c.requires in
    (p.0, reaches_after _ _ _ _ p.0 p.1 (rw (← p.2) (record { least = p.3; most = c.if-u-lt56320.true })))

pub unit_before-requires : goal.unit_before-requires
unit_before-requires c =
    let p = c.requires in
    (omega (arith, reaches_unit _ _ _ _ p.0 p.1), p.0)

pub returns-then-u-lt56320 : goal.returns-then-u-lt56320
returns-then-u-lt56320 c =
    let p = c.requires in
    rw (c.low_surrogate.ensures, c.unit_after.ensures, p.2)
    (sym (name_high _ _ _ _ p.0 (rw (← p.2) (high_true _ (record { least = p.3; most = c.if-u-lt56320.true })))))

pub returns-else-u-lt56320 : goal.returns-else-u-lt56320
returns-else-u-lt56320 c =
    let p = c.requires in
    rw (c.high_surrogate.ensures, c.unit_before.ensures, p.2)
    (sym (name_low _ _ _ _ p.0 (rw (← p.2) (low_true _ (record { least = c.if-u-lt56320.false; most = p.4 })))))
