-- The names before `low` stand by the place.
use native.Mathlib.Omega.{arith}
use Rattle.lookup.specs.Table.{entry_in}
use Rattle.lookup.proofs.Rows.{by_before}
use Rattle.lookup.proofs.entry.first_from.Goals as goal

pub loop-low-preserved : goal.loop-low-preserved
loop-low-preserved c =
    let v = c.loop-low.invariant in
    let t = c.loop-low-test.true in
    let h = rw c.name_at.ensures at c.if-to-name_at.false in
    (omega (arith, v.0), omega (arith, v.1, t), λ k a b. by_before (entry_in _) _ c.requires.0.order _ _ _ (omega (arith, v.1, t)) h k a b)
