-- A file and the summary that it is joined to.
-- the test 20 of a summary is the grammar's
pub mod SummaryTest
-- a summary that a file is joined to passes it
pub mod SoundSummary
-- the computed summary is the one of which the grammar's equations hold
pub mod SummaryEquations
-- what opening finds at each stage is one thing alone
pub mod FoundOnce
-- what is opened is what the grammar joins to the bytes
pub mod Joined
