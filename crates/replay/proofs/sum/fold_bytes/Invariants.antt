-- `sum::fold_bytes`: the bytes from `b` on are still to go into `all`, which is below 2^32.
use Prim.Native.Nat.{◌<◌, ◌^◌}
use mathlib.Core.Path.{◌≡◌}
use lib.ListN.{drop}
use Rattle.replay.specs.Checksum.{checksum}
use Rattle.replay.proofs.sum.fold_bytes.Given as goal

abbrev pub invariant-loop-b : goal.invariant-loop-b
invariant-loop-b l = (l.all < 2 ^ 32) × (checksum l.sum l.s ≡ checksum l.all (drop l.b-index l.s))
