pub mod Fits
pub mod Fields
pub mod Sizes
