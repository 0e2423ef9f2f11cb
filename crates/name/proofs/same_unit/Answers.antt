-- `same_unit` compares a unit below the surrogates as it stands, and others as they are replaced. Assumes nothing.
use mathlib.Core.Path.{refl}
use Rattle.format.proofs.Text.Units.{plain_name_unit, plain_eqb}
use Rattle.format.proofs.Text.Compared.{reaches_unit}
use Rattle.name.proofs.same_unit.Goals as goal

pub unit_at-u-requires : goal.unit_at-u-requires
unit_at-u-requires c = reaches_unit _ _ _ _ c.requires.0 c.requires.2

pub unit_at-requires : goal.unit_at-requires
unit_at-requires c = reaches_unit _ _ _ _ c.requires.1 c.requires.3

pub returns-then-u-lt55296 : goal.returns-then-u-lt55296
returns-then-u-lt55296 c =
    let p = c.requires in
    let u = c.unit_at-u.ensures in
    rw (c.unit_at.ensures, ← plain_name_unit _ _ _ _ _ p.0 c.if-u-lt55296.true u) (plain_eqb _ _ _ _ _ p.1 c.if-u-lt55296.true)

pub lossy_unit-requires : goal.lossy_unit-requires
lossy_unit-requires c = (c.requires.0, c.requires.2)

pub lossy_unit-requires-2 : goal.lossy_unit-requires-2
lossy_unit-requires-2 c = (c.requires.1, c.requires.3)

pub returns : goal.returns
returns c = rw (c.lossy_unit.ensures, c.lossy_unit-2.ensures) refl
