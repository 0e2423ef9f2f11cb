use Prim.Native.Nat.{◌+◌, ◌*◌}
use mathlib.Core.Path.{◌≡◌}
use lib.ListN.{length}
use Rattle.format.specs.Calibration.{first_of, z_step}
use Rattle.lookup.specs.View.{bytes, row, entries}
use Rattle.lookup.specs.Walks.{Standing, rest_of}
use Rattle.calibration.proofs.step.+first_step_step_from.Given as goal

abbrev pub decreases-first_step : goal.decreases-first_step
decreases-first_step l = 2 * l.levels + 1

abbrev pub decreases-step_from : goal.decreases-step_from
decreases-step_from l = 2 * l.levels

abbrev pub invariant-first_step-loop-i : goal.invariant-first_step-loop-i
invariant-first_step-loop-i l =
    let f = z_step l.levels (bytes l.tree) (entries l.tree) in
    Standing (bytes l.tree) (row l.tree) l.tree.used l.turn
    × (first_of f (rest_of (bytes l.tree) (row l.tree) l.tree.used l.initial.turn)
    ≡ first_of f (rest_of (bytes l.tree) (row l.tree) l.tree.used l.turn))

abbrev pub decreases-first_step-loop-i : goal.decreases-first_step-loop-i
decreases-first_step-loop-i l = length (rest_of (bytes l.tree) (row l.tree) l.tree.used l.turn)
