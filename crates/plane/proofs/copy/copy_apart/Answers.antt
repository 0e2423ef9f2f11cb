-- `copy_apart`: k rows of the first half are copied, and k of the second.
use mathlib.Core.Path.{ap, ◌∙◌}
use Prim.Native.Nat.{◌+◌, ◌*◌, ◌≤◌, ◌<◌, ◌/◌}
use native.Mathlib.Omega.{arith}
use lib.ListN.{length}
use Rattle.plane.specs.Parts.{with_row}
use Rattle.plane.proofs.Rows.{turn}
use Rattle.plane.proofs.Apart.{turn_more, turns_all}
use Rattle.plane.proofs.copy.copy_apart.Goals as goal

pub copy_row-requires-in-loop-k : goal.copy_row-requires-in-loop-k
copy_row-requires-in-loop-k c =
    let a = c.args in
    let far = a.count / 2 + c.loop-k.k in
    let next : far < a.count = omega arith in
    let long = c.copy_row.auto.dst in
    (c.requires.0, c.requires.1, omega (arith, turn far a.count a.stride next), omega (arith, turn far a.count a.w next, long))

pub loop-k-preserved : goal.loop-k-preserved
loop-k-preserved c =
    let a = c.args in
    let l = c.loop-k in
    let far = a.count / 2 + l.k in
    let next : far < a.count = omega arith in
    let in-d : a.count * a.w ≤ length l.dst = omega arith in
    let both = c.copy_row-in-loop-k.ensures ∙ ap (with_row a.src.now a.stride a.w far) c.copy_row.ensures in
    rw both (turn_more l.invariant c.requires.1 c.requires.2 in-d next)

pub returns : goal.returns
returns c =
    let l = c.loop-k in
    let a = c.args in
    turns_all a.src.now a.dst.now l.dst a.stride a.w a.count (a.count / 2) l.k l.invariant c.requires.1 c.requires.2 (omega arith) (omega arith)
