use Rattle.std.proofs.Common.{◌≡◌, ℕ, drop}
use Rattle.format.specs.Frames.{index_at}
use Rattle.summary.proofs.pace_of.Given as goal

abbrev pub invariant-loop-i : goal.invariant-loop-i
invariant-loop-i l = (n : ℕ) → index_at l.a n (drop l.i l.loops) ≡ index_at l.a n l.loops
