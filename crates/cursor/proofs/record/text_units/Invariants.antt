use Rattle.format.specs.Grammar.Trees.{Units}
use Rattle.cursor.proofs.record.text_units.Given as goal

abbrev pub invariant-loop-i : goal.invariant-loop-i
invariant-loop-i l = Units l.d l.at l.i
