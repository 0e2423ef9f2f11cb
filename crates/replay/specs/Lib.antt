-- the checksum of an answer
pub mod Checksum
