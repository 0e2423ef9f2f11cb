-- what the crate's answers say
pub mod Parsed
