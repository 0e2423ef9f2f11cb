pub mod Running
pub mod Order
pub mod Promises
