pub mod Cleared
pub mod Promises
