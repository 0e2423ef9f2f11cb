-- `copy_blocks`: k parts have the block, and the others are as they were.
use mathlib.Core.Path.{◌≡◌}
use Prim.Native.Nat.{◌*◌, ◌≤◌}
use native.Mathlib.Omega.{arith}
use lib.ListN.{length}
use Rattle.format.specs.Bytes.{part}
use Rattle.plane.specs.Parts.{Alike}
use Rattle.plane.proofs.Parts.{block_more, block_still}
use Rattle.plane.proofs.copy.copy_blocks.Goals as goal

pub loop-k-init : goal.loop-k-init
unfolding Alike
loop-k-init c =
    (λ j h. absurd (omega arith), λ j h hj. c.requires.3 j hj)

pub loop-k-preserved : goal.loop-k-preserved
unfolding part
loop-k-preserved c =
    let l = c.loop-k in
    let a = c.args in
    let s = a.src.now in
    let q = c.copy_block in
    let equal : length s ≡ length l.dst = omega arith in
    let whole : 6 * a.size ≤ length l.dst = omega arith in (
      block_more s l.dst q.new.dst a.size 6 a.x 16 l.k c.requires.0 equal whole c.loop-k-test.true q.ensures l.invariant.0 l.invariant.1,
      block_still s l.dst q.new.dst a.size 6 a.x 16 l.k c.requires.0 equal whole c.loop-k-test.true q.ensures l.invariant.1,
    )
