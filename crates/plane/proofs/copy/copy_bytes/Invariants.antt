use mathlib.Core.Path.{◌≡◌}
use lib.ListN.{take}
use Rattle.plane.proofs.copy.copy_bytes.Given as goal

abbrev pub invariant-loop-i : goal.invariant-loop-i
invariant-loop-i l = take l.i l.dst ≡ take l.i l.src
