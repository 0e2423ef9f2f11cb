-- Each kind that reads as a double, and any other.
use Rattle.std.proofs.Common.{rules}
use Rattle.lookup.proofs.Readings.{float_flag, float_whole, float_below, float_double, float_other}
use Rattle.lookup.proofs.value.F64Reading.read.Goals as goal

pub returns-in-Flag : goal.returns-in-Flag
returns-in-Flag c = λ s es. float_flag s es _ _ _ _ c.in-Flag.is c.from.ensures c.of_whole.ensures

pub returns-in-Whole : goal.returns-in-Whole
returns-in-Whole c = λ s es. float_whole s es _ _ _ c.in-Whole.is c.of_whole-in-Whole.ensures

pub returns-in-Below : goal.returns-in-Below
returns-in-Below c = λ s es. float_below s es _ _ _ c.in-Below.is c.of_below.ensures

pub returns-in-Double : goal.returns-in-Double
returns-in-Double c = λ s es. float_double s es _ _ c.in-Double.is

pub returns-in_default : goal.returns-in_default
returns-in_default c = λ s es. float_other s es _ (search rules)
