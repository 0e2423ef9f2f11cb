use Rattle.lookup.specs.Table.{Within}
use Rattle.lookup.specs.View.{bytes, entries}
use Rattle.lookup.specs.Values.{elements_of}
use Rattle.experiment.proofs.Counts.{Counting}
use Rattle.experiment.proofs.single.count_valid.Given as goal

abbrev pub invariant-loop : goal.invariant-loop
invariant-loop l =
    Within l.tree.used l.next
    × Counting (bytes l.tree) (entries l.tree) (elements_of (bytes l.tree) (entries l.tree) l.parent) l.n l.counter l.count l.next
