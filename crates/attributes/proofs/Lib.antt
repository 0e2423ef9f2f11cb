pub mod Products
pub mod Chain
