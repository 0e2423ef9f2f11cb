use Rattle.std.proofs.Common.{◌≡◌, ◌<◌, ◌^◌, drop}
use Rattle.format.specs.Loops.{most_count}
use Rattle.format.specs.Frames.{seq_from, seq_index}
use Rattle.summary.proofs.seq_index.Given as goal

abbrev pub invariant-loop-l : goal.invariant-loop-l
invariant-loop-l l =
    (l.n < most_count ^ l.l-index) × (seq_from l.n (drop l.l-index l.l-items) l.scene l.t l.z ≡ seq_index l.l-items l.scene l.t l.z)
