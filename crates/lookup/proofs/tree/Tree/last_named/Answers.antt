-- No child stands before the level's first entry.
use mathlib.Core.Path.{sym}
use native.Mathlib.Omega.{arith}
use Rattle.lookup.proofs.Search.{last_none}
use Rattle.lookup.proofs.tree.Tree.last_named.Goals as goal

pub last_alike-requires : goal.last_alike-requires
last_alike-requires c =
    let p = c.requires in
    (omega arith, p.0, p.1, p.2, sym (last_none _ _ _ _ _ _ c.args.self.holds.rows.order (omega arith) (omega (arith, p.0, p.1))), tt)
