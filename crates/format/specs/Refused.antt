-- Document 01, Why a file is turned away, for each call: every refusal as a proposition, the call's order of them, and what an accepted call leaves behind.
-- With none of the definitions that compute an answer but three formulas, a triple's frame number, an axis's count and the count of frames (Frames), which the
-- third demand holds to the grammar's rules.
pub mod Order
pub mod Summary
pub mod Chunk
pub mod Plane
pub mod Sheet
pub mod Tree
pub mod Channels
pub mod Picometres
pub mod Register
pub mod Loops
pub mod Open
pub mod Border
