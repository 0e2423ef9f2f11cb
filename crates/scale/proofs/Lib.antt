-- Laws on plain values, which the functions' proofs cite.
pub mod Halves
pub mod Pattern
