pub mod Records
pub mod Levels
pub mod Rows
pub mod Readying
pub mod Promises
pub mod Lay
