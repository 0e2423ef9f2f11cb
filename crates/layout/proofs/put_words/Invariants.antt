use mathlib.Core.Path.{◌≡◌}
use lib.ListN.{take}
use lib.Seq.{sets}
use Rattle.format.specs.Bytes.{le_bytes, each}
use Rattle.layout.proofs.put_words.Given as goal

abbrev pub invariant-loop-i : goal.invariant-loop-i
invariant-loop-i l = l.b ≡ sets l.initial.b l.at (each (le_bytes 8) (take l.i l.w))
