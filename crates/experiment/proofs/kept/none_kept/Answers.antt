-- `none_kept`: no loop was appended.
use mathlib.Core.Path.{refl}
use Rattle.format.specs.Loops.{judge}
use Rattle.experiment.specs.Kept.{none}
use Rattle.experiment.proofs.kept.none_kept.Goals as goal

pub returns : goal.returns
unfolding judge
returns c = record { last = none; judged = rw c.no_loops.ensures refl }
