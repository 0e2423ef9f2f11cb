-- The part from `start` on that is `len` bytes long.
use Prim.Native.Nat.{◌+◌, ◌-◌}
use mathlib.Core.Path.{◌≡◌}
use native.Mathlib.Omega.{arith}
use Rattle.format.specs.Bytes.{part}
use Rattle.chunk.proofs.data_of.Goals as goal

pub returns : goal.returns
unfolding part
returns c =
    let a = c.args in
    let z : a.start + a.len - a.start ≡ a.len = omega arith in
    rw z
