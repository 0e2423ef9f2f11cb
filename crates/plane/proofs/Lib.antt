pub mod Rows
pub mod Parts
pub mod Apart
pub mod Finding
pub mod Samples
pub mod Promises
