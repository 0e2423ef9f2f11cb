-- `channels::planes::planes_from`: the next child level, if a component is left for it, and as many of its components as are wanted.
use mathlib.Core.Path.{ap}
use mathlib.Core.List.{map}
use native.Mathlib.Omega.{arith}
use Rattle.format.specs.Channels.{plane_record}
use Rattle.format.proofs.Stated.Covered.{plane_covers}
use Rattle.lookup.specs.View.{bytes, entries}
use Rattle.channels.proofs.Rows.{none_wanted, none_left, one_before}
use Rattle.channels.proofs.planes.planes_from.Goals as goal

pub returns-then-most-eq0 : goal.returns-then-most-eq0
returns-then-most-eq0 c = none_wanted _ _ _ c.no_planes.ensures c.if-most-eq0.true

pub returns-in_default : goal.returns-in_default
returns-in_default c =
    let a = c.args in
    none_left _ _ a.most c.no_planes-in_default.ensures (ap (map (plane_record (bytes a.tree) (entries a.tree))) c.in_default.ensures)

pub overflow_sub-result : goal.overflow_sub-result
overflow_sub-result c =
    let a = c.args in
    omega (arith, plane_covers (bytes a.tree) (entries a.tree) c.in-Some.i)

pub returns : goal.returns
returns c =
    let next = c.in-Some.ensures in
    let n = rw c.covers_of.ensures at c.min-n.ensures in
    one_before _ _ _ c.args.most _ _ c.args.turn _ _ c.args.tree.holds c.if-most-eq0.false next.1 next.2 n c.channel_of.ensures
