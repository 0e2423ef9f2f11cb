-- Thirteen bytes before the digits.
use mathlib.Core.Path.{refl}
use native.Mathlib.Omega.{arith}
use lib.ListN.{length-set}
use Rattle.chunk.proofs.Decimal.{named}
use Rattle.chunk.proofs.frame.frame_name.Goals as goal

pub returns : goal.returns
returns c =
    let w = c.digits-d.ensures in
    record { tail = named _ _ w _ refl; high = omega (arith, w.spelled.high); size = simp length-set w.spelled.size }
