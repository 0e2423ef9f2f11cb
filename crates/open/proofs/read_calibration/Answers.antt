-- `read_calibration`: what is made of the tree's refusal, or what its entries say.
use mathlib.Core.Path.{refl}
use Rattle.format.specs.Calibration.{calibration_by}
use Rattle.format.specs.Bytes.{ascii}
use Rattle.open.proofs.read_calibration.Goals as goal

pub returns-in-Err : goal.returns-in-Err
unfolding ascii
returns-in-Err c = rw c.in-Err.ensures.answer (c.uncalibrated.ensures _ _)

pub returns-in-Ok : goal.returns-in-Ok
unfolding calibration_by ascii
returns-in-Ok c = rw (c.in-Ok.ensures.answer, c.load_calibration.ensures) refl
