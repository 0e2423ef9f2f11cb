-- The first unit and the last.
use mathlib.Core.Path.{refl}
use Rattle.format.proofs.Text.Units.{length_name}
use Rattle.lookup.specs.Hash.{key_of}
use Rattle.lookup.proofs.hash.key_name.Goals as goal

pub returns : goal.returns
unfolding key_of
returns c = rw (c.lossy_unit-first.ensures, c.lossy_unit-last.ensures, length_name) refl
