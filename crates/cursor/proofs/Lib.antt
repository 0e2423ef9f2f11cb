pub mod Horner
pub mod Reading
pub mod Answers
