-- Document 01, The calls: the answer of each from its arguments alone, which is the number, the summary, and all lent bytes and records as they are afterwards.
pub mod Open
pub mod Plane
pub mod Sheet
pub mod Tree
pub mod Channels
pub mod Picometres
pub mod Register
pub mod Border
