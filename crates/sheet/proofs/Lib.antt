pub mod Heads
pub mod Promises
pub mod Reading
