use Rattle.std.proofs.Common.{◌≡◌, drop}
use Rattle.format.specs.Frames.{count_of}
use Rattle.summary.proofs.count_of.Given as goal

abbrev pub invariant-loop-l : goal.invariant-loop-l
invariant-loop-l l = count_of l.a (drop l.l-index l.l-items) ≡ count_of l.a l.l-items
