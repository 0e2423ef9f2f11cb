-- `gather_rows`: y rows stand at the front of `dst`.
use mathlib.Core.Path.{refl}
use Prim.Native.Nat.{◌*◌}
use native.Mathlib.Omega.{arith}
use Rattle.format.specs.Bytes.{over}
use Rattle.plane.specs.Pieces.{rows}
use Rattle.plane.proofs.Rows.{turn, row_more}
use Rattle.plane.proofs.gather.gather_rows.Goals as goal

pub loop-y-init : goal.loop-y-init
unfolding over rows
loop-y-init g c = refl

pub loop-y-preserved : goal.loop-y-preserved
loop-y-preserved g c =
    let l = c.loop-y in
    let a = c.args in
    let src_in = turn l.y a.height a.stride c.loop-y-test.true in
    let dst_in = turn l.y a.height (a.width * g.row.SIZE) c.loop-y-test.true in
    row_more a.src.now a.at a.stride a.step g.row.SIZE a.width c.requires.0 c.requires.1 a.dst.now l.dst c.copy_spread.new.dst l.y (omega (arith, src_in))
    (omega (arith, dst_in)) l.invariant c.copy_spread.ensures
