pub mod Readings
pub mod Patterns
pub mod Exact
