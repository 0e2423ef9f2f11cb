-- Document 01, Loops: the walk through the experiment's levels.
-- what the grammar says of one level is what is read of it
pub mod OneLevel
-- the levels below are deeper, so that a walk of 64 is never cut
pub mod LevelsBelow
-- what holds of each loop that the walk appends
pub mod Appended
-- the grammar's loops are those that the walk finds
pub mod Walks
-- appended loops judged with one more, and the room that three axes leave
pub mod Judged
-- the first refusal of an experiment's loops
pub mod Faults
