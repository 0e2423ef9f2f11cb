-- The entry itself is the last of its name so far.
use native.Mathlib.Omega.{arith}
use Rattle.format.specs.Values.{name_of}
use Rattle.lookup.specs.Table.{entry_in}
use Rattle.lookup.proofs.Leading.{last_own}
use Rattle.lookup.proofs.Rows.{run_inside}
use Rattle.lookup.proofs.tree.Tree.last_of.Goals as goal

pub last_alike-requires : goal.last_alike-requires
unfolding name_of
last_alike-requires c =
    let p = c.requires in
    let r = c.after.ensures in (
      omega (arith, p.1, r.below.low),
      run_inside (entry_in _) _ _ _ _ _ p.0 p.1 p.2 r,
      p.0.below.high,
      rw c.entry_at-e.ensures (c.args.self.holds.lie c.args.i (omega (arith, p.2, p.0.below.high))).name,
      last_own _ (entry_in _) _ _ _ _ p.1 r p.3 c.entry_at-e.result c.entry_at-e.ensures,
      omega (arith, r.below.low),
    )
