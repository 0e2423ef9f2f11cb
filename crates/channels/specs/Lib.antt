-- the records that a walk has before it; what the call's answers say
pub mod Ahead
pub mod Ready
