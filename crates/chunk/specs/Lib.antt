pub mod Answers
pub mod Alike
pub mod Scan
pub mod Spelling
