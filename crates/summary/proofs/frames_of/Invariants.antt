use Rattle.std.proofs.Common.{◌≡◌, drop, ◌*◌}
use Rattle.format.specs.Frames.{frames}
use Rattle.summary.proofs.frames_of.Given as goal

abbrev pub invariant-loop-l : goal.invariant-loop-l
invariant-loop-l l = l.n * frames (drop l.l-index l.loops) ≡ frames l.loops
