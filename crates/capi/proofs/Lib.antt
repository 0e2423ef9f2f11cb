pub mod OnSummary
pub mod Rows
