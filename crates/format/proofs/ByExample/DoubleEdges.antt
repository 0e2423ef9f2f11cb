-- Doubles at the ends of the ranges and with a fraction, read as whole numbers: computed from their bits. Assumes nothing.
use Prim.Native.Nat.{◌-◌, ◌^◌}
use mathlib.Core.Path.{◌≡◌, refl}
use mathlib.Core.Option.{none, some}
use lib.IntN.{pos, neg_ℤ}
use lib.Ieee.{binary64, of_bits}
use Rattle.format.specs.Values.{double, bind, map_option}
use Rattle.format.specs.Numbers.{unsigned, signed}

pub minus_zero : (unsigned (double (of_bits binary64 0x8000000000000000)) ≡ some 0) × (signed (double (of_bits binary64 0x8000000000000000)) ≡ some (pos 0))
unfolding of_bits unsigned signed bind map_option
minus_zero = (refl, refl)

pub last_u64 : unsigned (double (of_bits binary64 0x43EFFFFFFFFFFFFF)) ≡ some (2 ^ 64 - 2048)
unfolding of_bits unsigned bind map_option
last_u64 = refl

pub past_u64 : unsigned (double (of_bits binary64 0x43F0000000000000)) ≡ none
unfolding of_bits unsigned bind map_option
past_u64 = refl

pub last_i64 : signed (double (of_bits binary64 0x43DFFFFFFFFFFFFF)) ≡ some (pos (2 ^ 63 - 1024))
unfolding of_bits signed bind map_option
last_i64 = refl

pub past_i64 : signed (double (of_bits binary64 0x43E0000000000000)) ≡ none
unfolding of_bits signed bind map_option
past_i64 = refl

pub least_i64 : signed (double (of_bits binary64 0xC3E0000000000000)) ≡ some (neg_ℤ (pos (2 ^ 63)))
unfolding of_bits signed bind map_option
least_i64 = refl

pub below_i64 : signed (double (of_bits binary64 0xC3E0000000000001)) ≡ none
unfolding of_bits signed bind map_option
below_i64 = refl

pub fractions : (signed (double (of_bits binary64 0x4007333333333333)) ≡ none) × (signed (double (of_bits binary64 0x3FF8000000000000)) ≡ none)
unfolding of_bits signed bind map_option
fractions = (refl, refl)

pub smallest : (unsigned (double (of_bits binary64 1)) ≡ none) × (signed (double (of_bits binary64 1)) ≡ none)
unfolding of_bits unsigned signed bind map_option
smallest = (refl, refl)
