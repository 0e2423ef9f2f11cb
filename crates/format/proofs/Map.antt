-- Document 01, Map and chunks.
-- the grammar's chunk is the one that is read, and each way that it is refused
pub mod Chunks
-- the grammar's map is the one that is read; the last entry of a name
pub mod Entries
-- the chunk and the tree that the map has under a name
pub mod NamedTrees
-- the same by a summary: what is looked up under a name or a frame's name, and that there is one
pub mod LookedUp
