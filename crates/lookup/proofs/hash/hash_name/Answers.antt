-- The number of the units before i, and that of the rest from there, make the name's.
use mathlib.Core.Path.{◌∙◌}
use native.Mathlib.Omega.{arith}
use Rattle.format.proofs.Text.Units.{length_name}
use Rattle.lookup.proofs.Hashes.{hash_start, hash_more, hash_end}
use Rattle.lookup.proofs.hash.hash_name.Goals as goal

pub loop-i-init : goal.loop-i-init
loop-i-init c = (omega arith, omega arith, hash_start _)

pub loop-i-preserved : goal.loop-i-preserved
loop-i-preserved c =
    let v = c.loop-i.invariant in
    (omega arith, omega arith, rw c.lossy_unit.ensures (hash_more _ _ _ _ (length_name _ _ _) c.loop-i-test.true ∙ v.2))

pub returns : goal.returns
returns c =
    let v = c.loop-i.invariant in
    (hash_end _ _ _ _ (length_name _ _ _) v.0 c.loop-i-test.false ∙ v.2, v.1)
