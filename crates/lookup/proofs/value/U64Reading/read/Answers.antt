-- Each kind that reads as an unsigned number, and any other.
use Rattle.std.proofs.Common.{rules}
use Rattle.lookup.proofs.Readings.{unsigned_flag, unsigned_whole, unsigned_double, unsigned_other}
use native.Mathlib.Omega.{arith}
use Rattle.lookup.proofs.value.U64Reading.read.Goals as goal

pub returns-in-Flag : goal.returns-in-Flag
returns-in-Flag c = λ s es. unsigned_flag s es _ _ _ c.in-Flag.is c.from.ensures

pub returns-in-Whole : goal.returns-in-Whole
returns-in-Whole c = λ s es. unsigned_whole s es _ _ (omega arith) c.in-Whole.is

pub returns-in-Double : goal.returns-in-Double
returns-in-Double c = λ s es. unsigned_double s es _ _ _ c.in-Double.is c.unsigned.ensures

pub returns-in_default : goal.returns-in_default
returns-in_default c = λ s es. unsigned_other s es _ (search rules)
