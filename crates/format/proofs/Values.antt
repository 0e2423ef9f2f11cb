-- Document 01, Trees: what the entries mean.
-- what is computed and what the rules give, for the entries of one tree: the statement
pub mod Meaning
-- the value of an entry that is no level
pub mod Leaves
-- a value that is a level, and one that is none
pub mod LevelOrLeaf
-- the slots of a level are the names that its entries bear
pub mod Slots
-- what one entry more makes of the slots
pub mod OneMoreEntry
-- the values that are computed are those that the rules give
pub mod ByRules
