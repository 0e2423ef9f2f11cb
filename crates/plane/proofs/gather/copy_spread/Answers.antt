-- `copy_spread`: one after another, k samples stand at the front of `dst`.
use mathlib.Core.Path.{refl}
use Rattle.format.specs.Bytes.{over}
use Rattle.plane.specs.Pieces.{pieces}
use Rattle.plane.proofs.Rows.{next_more}
use Rattle.plane.proofs.gather.copy_spread.Goals as goal

pub loop-k-init : goal.loop-k-init
unfolding over pieces
loop-k-init g c = refl

pub loop-k-preserved : goal.loop-k-preserved
loop-k-preserved g c =
    let l = c.loop-k in
    let a = c.args in
    next_more a.src.now a.at a.step g.row.SIZE c.requires.0 a.dst.now l.dst c.copy_sample.new.dst l.k a.count l.invariant c.loop-k-test.true c.requires.1
    c.requires.2 c.copy_sample.ensures
