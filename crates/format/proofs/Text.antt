-- Names: UTF-16 units, and two names compared.
-- units, and the units with each lone surrogate replaced
pub mod Units
-- these are those that the grammar's rule mends
pub mod Mended
-- two names compared: the rules, and that units further on change nothing
pub mod Compared
