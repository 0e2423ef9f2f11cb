-- Document 01, Loops: the frame numbers.
-- different places are of different frames
pub mod Places
-- the frame numbers in range are those below the count, each of one triple
pub mod Triples
-- the frame number and the counts are those of the rules
pub mod Counts
-- a frame's name is the grammar's, and no other frame has it
pub mod Names
