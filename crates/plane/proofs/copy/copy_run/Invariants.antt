use Prim.Native.Nat.{◌*◌}
use Rattle.plane.specs.Parts.{Alike}
use Rattle.plane.proofs.copy.copy_run.Given as goal

abbrev pub invariant-loop-i : goal.invariant-loop-i
invariant-loop-i l = Alike l.src l.dst l.size 6 (l.i * 16)
