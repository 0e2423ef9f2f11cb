pub mod Decimals
pub mod Prefixed
pub mod Records
pub mod Wheels
pub mod Entering
pub mod Refusing
