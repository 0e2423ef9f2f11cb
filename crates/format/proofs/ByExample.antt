-- What is computed on examples: files built from their parts, a sheet byte by byte, names, doubles by their bits. Files are checked by path, each behind those
-- that it uses. This folder is the first by name, and its files but Tiny and Witness use no law: a wrong definition is refused here first.
-- files whose map leads from a name astray: what each call gives
pub mod AstrayFile
-- files with one pixel size: what the picometres call gives, at the ends of the range and past them
pub mod CalibratedFile
-- a colour camera's file: the records of the channels call
pub mod Camera
-- pairs of names compared
pub mod CloseNames
-- doubles at the ends of the ranges and with a fraction, read as whole numbers
pub mod DoubleEdges
-- doubles halfway, at the ends and past them, in picometres
pub mod DoubleSizes
-- a sheet of 3 × 2 samples, and what is not quite it
pub mod OneSheet
-- Document 01, Both edges: the starred lines
pub mod StarredLines
-- a file of 728 bytes is joined to a summary, and has a plane
pub mod Tiny
-- a file of two times at two points: joined to a summary, and what every call gives
pub mod Witness
