-- `sum::fold_numbers`: the numbers from `n` on are still to go into `all`, which is below 2^32.
use Prim.Native.Nat.{◌<◌, ◌^◌}
use mathlib.Core.Path.{◌≡◌}
use lib.ListN.{drop}
use Rattle.replay.specs.Checksum.{checksum, halves}
use Rattle.replay.proofs.sum.fold_numbers.Given as goal

abbrev pub invariant-loop-n : goal.invariant-loop-n
invariant-loop-n l = (l.all < 2 ^ 32) × (checksum 0 (halves l.s) ≡ checksum l.all (halves (drop l.n-index l.s)))
