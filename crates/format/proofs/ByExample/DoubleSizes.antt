-- Doubles halfway, at the ends and past them, in picometres: computed from their bits. Assumes nothing.
use mathlib.Core.Path.{◌≡◌, refl}
use mathlib.Core.Option.{none, some}
use lib.Ieee.{binary64, of_bits}
use Rattle.format.specs.Picometres.{picometres}

pub plain : (picometres (of_bits binary64 0x3FF0000000000000) ≡ some 1_000_000) × (picometres (of_bits binary64 0x3FB999999999999A) ≡ some 100_000)
unfolding of_bits picometres
plain = (refl, refl)

pub halfway : (picometres (of_bits binary64 0x3F80000000000000) ≡ some 7812) × (picometres (of_bits binary64 0x3F98000000000000) ≡ some 23438)
unfolding of_bits picometres
halfway = (refl, refl)

pub half_one : (picometres (of_bits binary64 0x3EA0C6F7A0B5ED8D) ≡ some 0) × (picometres (of_bits binary64 0x3EA0C6F7A0B5ED8E) ≡ some 1)
unfolding of_bits picometres
half_one = (refl, refl)

pub product_rounds : picometres (of_bits binary64 0x41DD481499755D4C) ≡ some 1_965_052_517_833_819
unfolding of_bits picometres
product_rounds = refl

pub smallest : picometres (of_bits binary64 1) ≡ some 0
unfolding of_bits picometres
smallest = refl

pub last_u64 : picometres (of_bits binary64 0x42B0C6F7A0B5ED8D) ≡ some 18_446_744_073_709_550_781
unfolding of_bits picometres
last_u64 = refl

pub past_u64 : picometres (of_bits binary64 0x42B0C6F7A0B5ED8E) ≡ none
unfolding of_bits picometres
past_u64 = refl

pub largest : (picometres (of_bits binary64 0x7FEFFFFFFFFFFFFF) ≡ none) × (picometres (of_bits binary64 0x7FF0000000000000) ≡ none)
unfolding of_bits picometres
largest = (refl, refl)
