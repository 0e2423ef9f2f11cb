pub mod SameAxis
pub mod SameKind
pub mod Handed
pub mod Keeping
pub mod Counts
pub mod Walking
