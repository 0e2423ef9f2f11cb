use Rattle.std.proofs.Common.{◌-◌, length}
use Rattle.register.proofs.Entering.{Passed}
use Rattle.register.proofs.put_entries.Given as goal

abbrev pub invariant-loop-n : goal.invariant-loop-n
invariant-loop-n l = Passed l.map l.count l.fn.buffer l.at l.entries l.buffer

abbrev pub decreases-loop-n : goal.decreases-loop-n
decreases-loop-n l = length l.map - l.at
