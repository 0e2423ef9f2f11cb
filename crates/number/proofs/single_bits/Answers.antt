-- `single_bits` gives the pattern of every value: for the NaN, one that is written out.
use mathlib.Core.Path.{refl, sym, subst}
use lib.Dec.{T}
use lib.Ieee.{binary32, fits, of_bits, to_bits}
use lib.Ieee.Bits.{of_bits-to_bits}
use Rattle.number.proofs.Reading.{nan_is}
use Rattle.number.proofs.single_bits.Goals as goal
use Rattle.number.proofs.single_bits.Goals.{Start}

held : (c : Start) → T (fits binary32 c.args.x)
held c = subst T (sym c.well_formed.0.1) tt

pub returns-then-is_nan : goal.returns-then-is_nan
unfolding of_bits to_bits
returns-then-is_nan c = let h = nan_is c.args.x (sym c.if-is_nan.ensures.value) in (rw h refl, sym h)

pub returns-else-is_nan : goal.returns-else-is_nan
returns-else-is_nan c = (refl, of_bits-to_bits binary32 c.args.x (held (goal.at.returns-else-is_nan c).Start))
