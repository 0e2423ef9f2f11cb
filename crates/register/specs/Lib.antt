pub mod Naming
pub mod Taking
pub mod Turning
