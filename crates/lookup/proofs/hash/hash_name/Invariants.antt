use Prim.Native.Nat.{◌^◌, ◌≤◌, ◌<◌}
use mathlib.Core.Path.{◌≡◌}
use lib.ListN.{drop}
use Rattle.format.specs.Text.{units, lossy}
use Rattle.lookup.specs.Hash.{hash_from, hash_of}
use Rattle.lookup.proofs.hash.hash_name.Given as goal

abbrev pub invariant-loop-i : goal.invariant-loop-i
invariant-loop-i l = (l.i ≤ l.n) × (l.h < 2 ^ 32) × (hash_from l.h (drop l.i (lossy (units l.n l.s l.at))) ≡ hash_of (lossy (units l.n l.s l.at)))
