-- the types of loops; what one level says; what stands for the loops that were appended; what a walk has come to
pub mod Kind
pub mod Single
pub mod Kept
pub mod Walked
