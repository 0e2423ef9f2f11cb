-- the entries that stand in a table, and a tree's; what the answers of the crate's functions say
pub mod Table
pub mod View
pub mod Names
pub mod Hash
pub mod Values
pub mod Walks
