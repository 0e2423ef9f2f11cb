-- The number in the bytes from `i` on, and that a word has room for one byte more.
use Rattle.std.proofs.Common.{◌≡◌, ◌+◌, ◌-◌, ◌*◌, ◌^◌, ◌<◌}
use native.Mathlib.Omega.{arith}
use Rattle.format.specs.Bytes.{le_at}
use Rattle.cursor.proofs.Horner.{more, fits}
use Rattle.cursor.proofs.le.Goals as goal

pub loop-i-init : goal.loop-i-init
unfolding le_at
loop-i-init g c = let z : g.row.N - g.row.N ≡ 0 = omega arith in rw z (omega arith)

pub overflow_mul-v : goal.overflow_mul-v
overflow_mul-v g c =
    let l = c.loop-i in
    let h : 256 * l.v + 0 < 2 ^ 64 = fits g.row.N l.i c.args.at c.args.s.now (omega arith) (omega arith) l.invariant.1 (omega arith) (omega arith) in
    omega arith

pub overflow_add-v : goal.overflow_add-v
overflow_add-v g c =
    let l = c.loop-i in
    let byte : c.from.result < 256 = omega (arith, c.type_inv.s (c.args.at + (l.i - 1))) in
    let h : 256 * l.v + c.from.result < 2 ^ 64 = fits g.row.N l.i c.args.at c.args.s.now (omega arith) (omega arith) l.invariant.1 byte (omega arith) in
    omega arith

pub loop-i-preserved : goal.loop-i-preserved
loop-i-preserved g c =
    let l = c.loop-i in
    let byte : c.from.result < 256 = omega (arith, c.type_inv.s (c.args.at + (l.i - 1))) in
    more g.row.N l.i c.args.at c.args.s.now (omega arith) (omega arith) l.invariant.1 byte c.from.ensures l.invariant.0
