pub mod OnBytes
pub mod RowBytes
pub mod Said
