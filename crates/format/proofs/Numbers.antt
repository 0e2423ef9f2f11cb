-- Readings of numbers.
-- a double by its value; the bits of the z step's limits
pub mod Doubles
-- whole numbers by the rules, and the doubles that count as absent
pub mod Wholes
-- a fraction to the nearest whole number, the even one of two
pub mod Closest
-- a size in picometres, by its value and by the rules
pub mod Picometres
