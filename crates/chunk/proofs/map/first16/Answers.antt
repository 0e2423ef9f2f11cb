-- The 1 behind the 16 digits ends the count.
use Prim.Native.Nat.{◌+◌}
use native.Mathlib.Omega.{arith}
use lib.Count.{trailing_le}
use Rattle.chunk.proofs.Marks.{lowest}
use Rattle.chunk.proofs.map.first16.Goals as goal

pub overflow_cast-result : goal.overflow_cast-result
overflow_cast-result c = record { fits = omega (arith, trailing_le 32 (c.args.m + 65536)) }

pub returns : goal.returns
returns c = let e = lowest c.args.m c.requires in (e, omega (arith, e, trailing_le 16 c.args.m))
