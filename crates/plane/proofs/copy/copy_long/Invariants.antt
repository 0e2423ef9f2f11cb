use mathlib.Core.Path.{◌≡◌}
use lib.ListN.{take}
use Rattle.plane.proofs.copy.copy_long.Given as goal

abbrev pub invariant-loop-x : goal.invariant-loop-x
invariant-loop-x l = take l.x l.dst ≡ take l.x l.src
