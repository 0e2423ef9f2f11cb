-- `size_in`: of the level SLxCalibration.
use Rattle.format.specs.Bytes.{ascii}
use Rattle.format.specs.Values.{bind}
use Rattle.calibration.proofs.size_in.Goals as goal

pub returns : goal.returns
unfolding bind ascii
returns c = rw (← c.get_level.ensures.0, c.in_ok-i.was) c.get_as.ensures
