-- `copy_by_four`: k samples stand at the front of `dst`, four more after a turn and then one more.
use mathlib.Core.Path.{◌≡◌, refl}
use Prim.Native.Nat.{ℕ, ◌+◌, ◌*◌, ◌/◌, ◌%◌, ◌≤◌, ◌<◌}
use native.Mathlib.Nat.{mul-le-mul_right}
use native.Mathlib.Omega.{arith}
use Rattle.format.specs.Bytes.{over}
use Rattle.plane.specs.Pieces.{pieces}
use Rattle.plane.proofs.Rows.{turn, pieces_more, next_more}
use Rattle.plane.proofs.gather.copy_by_four.Goals as goal
use Rattle.plane.proofs.gather.copy_by_four.Goals.{In-loop-i}

pub loop-i-init : goal.loop-i-init
unfolding over pieces
loop-i-init g c = refl

-- four samples lie within src and within dst: x is the step or the size
four_in : (i count x : ℕ) → i < count / 4 → (4 * i + 4) * x ≤ count * x
four_in i count x h = mul-le-mul_right x (omega arith)

pub copy_four-requires : goal.copy_four-requires
copy_four-requires g c =
    let a = c.args in
    let i = c.loop-i.i in
    (omega (arith, four_in i a.count a.step c.loop-i-test.true), omega (arith, four_in i a.count g.row.SIZE c.loop-i-test.true))

pub loop-i-preserved : goal.loop-i-preserved
loop-i-preserved g c =
    let l = c.loop-i in
    let a = c.args in
    let next : 4 * (l.i + 1) ≡ 4 * l.i + 4 = omega arith in
    let in-s = four_in l.i a.count a.step c.loop-i-test.true in
    let in-d = four_in l.i a.count g.row.SIZE c.loop-i-test.true in
    rw next
    (pieces_more a.src.now a.at a.step g.row.SIZE c.requires.0 a.dst.now l.dst c.copy_four.new.dst (4 * l.i) 4 l.invariant (omega (arith, in-s))
    (omega (arith, in-d)) c.copy_four.ensures)

-- the one after those is one of count
one_in : (j count x : ℕ) → j < count % 4 → (4 * (count / 4) + j) * x + x ≤ count * x
one_in j count x h = turn (4 * (count / 4) + j) count x (omega arith)

pub copy_sample-requires : goal.copy_sample-requires
copy_sample-requires g c =
    let a = c.args in
    let j = c.loop-j.j in
    (omega (arith, one_in j a.count a.step c.loop-j-test.true), omega (arith, one_in j a.count g.row.SIZE c.loop-j-test.true))

pub loop-j-preserved : goal.loop-j-preserved
loop-j-preserved g c =
    let l = c.loop-j in
    let a = c.args in
    let k = 4 * (a.count / 4) + l.j in
    let next : 4 * (a.count / 4) + (l.j + 1) ≡ k + 1 = omega arith in
    rw next
    (next_more a.src.now a.at a.step g.row.SIZE c.requires.0 a.dst.now l.dst c.copy_sample.new.dst k a.count l.invariant (omega arith) c.requires.1
    c.requires.2 c.copy_sample.ensures)
