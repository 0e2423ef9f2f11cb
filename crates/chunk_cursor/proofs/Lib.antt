pub mod InARow
pub mod Openings
