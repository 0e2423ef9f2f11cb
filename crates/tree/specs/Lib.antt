-- the table's entries, and what the answers of the crate's functions say of the format's readings
pub mod Table
pub mod Steps
