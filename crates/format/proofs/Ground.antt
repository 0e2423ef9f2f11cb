-- What all other folders stand on.
-- tests that failed or passed, part by part
pub mod Tests
-- numbers in bytes, written and read back; parts
pub mod Bytes
-- a lent buffer with bytes at its start
pub mod Buffers
-- the lists of which the grammar's rules speak
pub mod Lists
-- what it takes for an answer to be given
pub mod Answers
-- what it is for a definition that computes and a rule to say the same
pub mod Agreement
-- a chain of refusals gives the first that holds
pub mod Orders
-- a chain of stages gives the first refusal among them
pub mod Stages
