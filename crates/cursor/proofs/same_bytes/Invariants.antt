use Rattle.std.proofs.Common.{◌≡◌, true, false}
use Rattle.cursor.specs.Words.{SameBytes}
use Rattle.cursor.proofs.same_bytes.Given as goal

abbrev pub invariant-loop-i : goal.invariant-loop-i
invariant-loop-i g l = (l.same ≡ true → SameBytes l.a l.at l.b l.from l.i) × (l.same ≡ false → SameBytes l.a l.at l.b l.from l.i → ⊥)
