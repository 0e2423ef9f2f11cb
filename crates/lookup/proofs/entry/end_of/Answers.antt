-- What lies below a level has its name in the value; the whole tree is all there is.
use Prim.Native.Nat.{◌+◌, ◌-◌}
use mathlib.Core.Path.{◌≡◌}
use native.Mathlib.Omega.{arith}
use Rattle.lookup.specs.Table.{entry_in}
use Rattle.lookup.proofs.Rows.{run_split}
use Rattle.lookup.proofs.entry.end_of.Goals as goal

pub returns : goal.returns
returns c =
    let i = c.args.parent in
    let z : i - 1 + 1 ≡ i = omega (arith, c.if-parent-eq0.false) in
    let q = rw (← z, c.value_end-to.ensures) at c.first_from.ensures in
    rw z at (run_split (entry_in _) _ (i - 1) c.requires.0.order _ (omega (arith, c.if-parent-eq0.false)) q)
