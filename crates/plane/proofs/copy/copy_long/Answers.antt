-- `copy_long`: the first x bytes are copied; then the block at the end.
use mathlib.Core.Path.{◌≡◌, refl, sym}
use Prim.Native.Nat.{◌+◌, ◌-◌}
use native.Mathlib.Omega.{arith}
use lib.ListN.{length, take}
use Rattle.std.proofs.lemmas.List.{length-take-le}
use Rattle.plane.proofs.Parts.{rest_all, front_first, front_more, front_less}
use Rattle.plane.proofs.copy.copy_long.Goals as goal
use Rattle.plane.proofs.copy.copy_long.Goals.{else-loop-x-test, then-loop-x-test+else-last-x-ge64}

pub slice_bounds-copy_block-end : goal.slice_bounds-copy_block-end
slice_bounds-copy_block-end c = sym (length-take-le 64 c.args.src.now (omega arith))

pub copy_block-requires : goal.copy_block-requires
copy_block-requires c =
    (length-take-le 64 c.args.src.now (omega arith), length-take-le 64 c.args.dst.now (omega arith))

pub loop-x-init : goal.loop-x-init
loop-x-init c = rw c.copy_block.ensures (front_first c.args.src.now _ c.args.lead 64 c.requires.2 (omega arith))

pub loop-x-preserved : goal.loop-x-preserved
loop-x-preserved c =
    let l = c.loop-x in
    let w = c.copy_block-in-loop-x in
    front_more c.args.src.now l.dst w.new.dst l.x (l.x + 64) (omega arith) (omega arith) (omega arith) l.invariant w.ensures

pub returns : goal.returns
returns c =
    let s = c.args.src.now in
    let done = length c.args.dst.now - 64 in
    let l = c.loop-x in
    let d = c.loop-x-test.dst in
    let first : take done d ≡ take done s = elim c.loop-x-test.branch [
      | else-loop-x-test w ↦ rw w.dst-is (front_less s l.dst done l.x (omega arith) l.invariant)
      | then-loop-x-test+else-last-x-ge64 w ↦
          let q = w.copy_block-in-loop-x in
          let more = front_more s l.dst q.new.dst l.x (l.x + 64) (omega arith) (omega arith) (omega arith) l.invariant q.ensures in
          rw w.dst-is (front_less s _ done (l.x + 64) (omega arith) more)
    ] in
    rest_all s d c.copy_block-2.new.dst done (length d) first (omega arith) (omega arith) refl c.copy_block-2.ensures
