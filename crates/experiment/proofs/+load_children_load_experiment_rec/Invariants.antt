use Prim.Native.Nat.{◌+◌, ◌*◌}
use lib.ListN.{length}
use Rattle.format.specs.Loops.{walk}
use Rattle.lookup.specs.View.{bytes, row, entries}
use Rattle.lookup.specs.Walks.{Standing, rest_of}
use Rattle.experiment.proofs.Walking.{On}
use Rattle.experiment.proofs.+load_children_load_experiment_rec.Given as goal

abbrev pub decreases-load_children : goal.decreases-load_children
decreases-load_children l = 2 * l.levels + 1

abbrev pub decreases-load_experiment_rec : goal.decreases-load_experiment_rec
decreases-load_experiment_rec l = 2 * l.levels

abbrev pub invariant-load_children-loop-i : goal.invariant-load_children-loop-i
invariant-load_children-loop-i l =
    Standing (bytes l.tree) (row l.tree) l.tree.used l.turn
    × On (λ i. walk l.levels (bytes l.tree) (entries l.tree) i l.nesting)
    (rest_of (bytes l.tree) (row l.tree) l.tree.used l.initial.turn) l.initial.kept
    (rest_of (bytes l.tree) (row l.tree) l.tree.used l.turn) l.kept

abbrev pub decreases-load_children-loop-i : goal.decreases-load_children-loop-i
decreases-load_children-loop-i l = length (rest_of (bytes l.tree) (row l.tree) l.tree.used l.turn)
