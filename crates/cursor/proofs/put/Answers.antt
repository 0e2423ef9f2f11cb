-- What is still to be stored makes the whole.
use native.Mathlib.Omega.{arith}
use Rattle.std.proofs.Common.{◌≡◌, ◌+◌, ◌-◌, suc}
use Rattle.format.specs.Bytes.{le_bytes}
use Rattle.cursor.proofs.put.Goals as goal

pub loop-i-preserved : goal.loop-i-preserved
unfolding le_bytes
loop-i-preserved g c =
    let l = c.loop-i in
    let n : g.row.N - l.i ≡ suc (g.row.N - (l.i + 1)) = omega arith in
    let j : c.args.at + (l.i + 1) ≡ suc (c.args.at + l.i) = omega arith in
    rw j (rw n at l.invariant)
