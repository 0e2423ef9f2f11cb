-- Document 01 as definitions, in its order. Where a heading has more than one idea, each has a file. docs/FORMAT.md has the whole in words.
-- Ground: bytes and the numbers in them, and answers that may be refusals
pub mod Bytes
pub mod Answer
-- Why a file is turned away: the numbers
pub mod Refusals
-- and what an answer of the code stands for
pub mod Given
-- Map and chunks
pub mod Chunks
pub mod Map
-- Trees: text, records and their entries, what the entries mean
pub mod Text
pub mod Trees
pub mod Table
pub mod Values
-- Attributes: the readings of numbers, the attributes
pub mod Numbers
pub mod Attributes
-- Loops: the walk, the frame numbers
pub mod Loops
pub mod Frames
-- Calibration and channels
pub mod Calibration
pub mod Channels
-- change request 2: a plane as a TIFF file
pub mod Sheets
-- change request 3: two names compared, with the count of units
pub mod Comparison
-- change request 5: a size in whole picometres
pub mod Picometres
-- The calls: the summary that they share, and each call's answer from its arguments alone
pub mod Summary
pub mod Calls
-- The grammar: rules, with none of the definitions that compute a reading
pub mod Grammar
-- Why a file is turned away: the refusals, as propositions
pub mod Refused
-- files from their parts, and Both edges: the starred cases
pub mod Build
pub mod Edges
-- the customer's first and third demand, as statements: the sentences that contracts say too, and the demands
pub mod Sentences
pub mod Demands
-- the change requests, as statements
pub mod Requests
