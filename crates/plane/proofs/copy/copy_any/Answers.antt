-- `copy_any`: k pieces stand at the front of `dst`.
use mathlib.Core.Path.{refl}
use Prim.Native.Nat.{◌+◌, ◌*◌}
use native.Mathlib.Omega.{arith}
use Rattle.format.specs.Bytes.{part, over}
use Rattle.plane.specs.Pieces.{pieces}
use Rattle.plane.proofs.Rows.{turn, put_stored, next_more}
use Rattle.plane.proofs.copy.copy_any.Goals as goal

pub loop-k-init : goal.loop-k-init
unfolding over pieces
loop-k-init c = refl

pub loop-k-preserved : goal.loop-k-preserved
unfolding part
loop-k-preserved c =
    let l = c.loop-k in
    let a = c.args in
    let q = c.copy_bytes in
    let src_in = turn l.k a.count a.step c.loop-k-test.true in
    let dst_in = turn l.k a.count a.size c.loop-k-test.true in
    let from = a.at + l.k * a.step in
    let stored = put_stored a.src.now l.dst q.new.dst from (l.k * a.size) a.size (omega (arith, src_in)) (omega (arith, dst_in)) q.ensures in
    next_more a.src.now a.at a.step a.size c.requires.0 a.dst.now l.dst _ l.k a.count l.invariant c.loop-k-test.true c.requires.1 c.requires.2 stored
