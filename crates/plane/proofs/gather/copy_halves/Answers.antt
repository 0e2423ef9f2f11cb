-- `copy_halves`: k bytes stand at the front of `dst`.
use mathlib.Core.Path.{refl, ◌∙◌}
use native.Mathlib.Omega.{arith}
use Rattle.format.specs.Bytes.{over}
use Rattle.plane.specs.Pieces.{pieces}
use Rattle.plane.proofs.Rows.{byte_more, half_of}
use Rattle.plane.proofs.gather.copy_halves.Goals as goal

pub loop-k-init : goal.loop-k-init
unfolding over pieces
loop-k-init c = refl

pub loop-k-preserved : goal.loop-k-preserved
loop-k-preserved c =
    let a = c.args in
    let l = c.loop-k in
    let v = c.half.ensures ∙ half_of a.src.now a.at l.k c.requires.0 in
    byte_more a.src.now a.dst.now l.dst a.at 2 l.k c.half.result (omega arith) l.invariant (omega arith) (omega arith) v
