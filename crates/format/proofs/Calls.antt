-- Each call's number is that of its first refusal, and what it leaves.
-- opening's number is that of its first stage that refuses
pub mod Open
-- a refused opening has a number that is not 0
pub mod OpenNotZero
-- the plane call's number, and what an accepted call has written
pub mod Plane
-- the bytes of a sheet are those of which the rules hold
pub mod SheetBytes
-- the numbers of the calls that write and read a sheet; what was written is read back
pub mod Sheet
-- the tree call's number, and what its table holds
pub mod Tree
-- the channels call's number, and what a refused call leaves
pub mod Channels
-- the row of records that the channels call leaves
pub mod ChannelRecords
-- the picometres call's number, and that its size is the rules'
pub mod Picometres
-- the register call's number, and what an accepted call has written
pub mod Register
-- the border call's number: opening's, or that of the plane
pub mod Border
