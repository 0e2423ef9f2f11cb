-- Change request 5: micrometres in whole picometres. A double is m × 2^e, and all of it goes over whole numbers.
use Rattle.std.specs.Prelude.{ℕ, ◌*◌, pos, Float}
use Rattle.std.proofs.Math.Option.{Option, none}
use Rattle.std.specs.Float.{nan, inf, fin}
use Rattle.std.specs.Float.Ieee.{up, down}
use Rattle.std.specs.Float.Ieee.Nearest.{closest}
use Rattle.format.specs.Numbers.{in_u64}

-- The whole number nearest to m × 2^e × 1,000,000, the even one of two as near, where u64 holds it. Of a double above 0: the sign is not looked at. An infinity
-- has none.
unfoldable pub picometres : Float → Option ℕ
unfolding in_u64
picometres nan = none
picometres (inf s) = none
picometres (fin s m e) = in_u64 (pos (closest (m * up e * 1_000_000) (down e)))
