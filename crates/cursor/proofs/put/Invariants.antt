use Rattle.std.proofs.Common.{◌≡◌, ◌+◌, ◌-◌}
use Rattle.std.proofs.lemmas.List.Edits.{sets}
use Rattle.format.specs.Bytes.{le_bytes}
use Rattle.cursor.proofs.put.Given as goal

abbrev pub invariant-loop-i : goal.invariant-loop-i
invariant-loop-i g l = sets l.d (l.at + l.i) (le_bytes (g.row.N - l.i) l.rest) ≡ sets l.fn.d l.at (le_bytes g.row.N l.v)
