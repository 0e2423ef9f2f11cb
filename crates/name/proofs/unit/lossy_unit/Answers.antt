-- `lossy_unit` gives the unit of the name with each lone surrogate replaced. Assumes nothing.
use mathlib.Core.Path.{sym, ◌∙◌}
use Rattle.format.proofs.Text.Units.{surrogate_in, name_outside}
use Rattle.format.proofs.Text.Compared.{reaches_unit}
use Rattle.name.proofs.unit.lossy_unit.Goals as goal

pub unit_at-u-requires : goal.unit_at-u-requires
unit_at-u-requires c = reaches_unit _ _ _ _ c.requires.0 c.requires.1

pub returns-then-u : goal.returns-then-u
returns-then-u c =
    let u = c.unit_at-u.ensures in
    u ∙ sym (name_outside _ _ _ _ c.requires.0 (rw u at c.if-u.true))

pub paired-requires : goal.paired-requires
paired-requires c =
    let p = c.requires in
    let q = surrogate_in _ c.if-u.false in
    (p.0, p.1, c.unit_at-u.ensures, q.0, q.1)

pub returns-then-paired : goal.returns-then-paired
returns-then-paired c = rw c.if-paired.true at c.paired.ensures

pub returns-else-paired : goal.returns-else-paired
returns-else-paired c = rw c.if-paired.false at c.paired.ensures
