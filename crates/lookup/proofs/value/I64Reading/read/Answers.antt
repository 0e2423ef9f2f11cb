-- Each kind that reads as a signed number, and any other.
use Rattle.std.proofs.Common.{rules, w64, arith}
use Rattle.std.proofs.lemmas.Int.{to_z-of_z}
use Rattle.lookup.proofs.Readings.{signed_flag, signed_whole, signed_below, signed_double, signed_other}
use Rattle.lookup.proofs.value.I64Reading.read.Goals as goal

pub returns-in-Flag : goal.returns-in-Flag
returns-in-Flag c = λ s es. rw (to_z-of_z w64 c.from.result (omega arith)) (signed_flag s es _ _ _ c.in-Flag.is c.from.ensures)

pub returns-in-Whole : goal.returns-in-Whole
returns-in-Whole c = λ s es. signed_whole s es _ _ _ c.in-Whole.is c.signed_whole.ensures

pub returns-in-Below : goal.returns-in-Below
returns-in-Below c = λ s es. signed_below s es _ _ _ c.in-Below.is c.signed_below.ensures

pub returns-in-Double : goal.returns-in-Double
returns-in-Double c = λ s es. signed_double s es _ _ _ c.in-Double.is c.signed.ensures

pub returns-in_default : goal.returns-in_default
returns-in_default c = λ s es. signed_other s es _ (search rules)
