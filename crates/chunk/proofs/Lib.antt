pub mod Comparing
pub mod Marks
pub mod Scan
pub mod Decimal
