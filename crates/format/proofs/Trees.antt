-- Document 01, Trees: records and their entries.
-- what holds of both readings holds of the one that a test picks
pub mod PickedReading
-- the grammar's trees are those that are read
pub mod ByRules
-- a level's depth is below 64, a record's above its parent's
pub mod Depths
-- entries come after their parents, a level's children stand together
pub mod Forest
-- a tree of n bytes has at most n / 2 entries
pub mod MostEntries
-- the bytes of a tree's entries, and the entries that stand in a table
pub mod Tables
