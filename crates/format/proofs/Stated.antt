-- What the trees of a file state: attributes, calibration, channels.
-- the numbers that a tree states are the readings of its fields
pub mod Fields
-- the grammar's attributes are those that are read
pub mod Attributes
-- the grammar's z step is the one that is found
pub mod ZStep
-- what the grammar says of the calibration is what opening makes of it
pub mod Calibration
-- the records of components, plane after plane
pub mod Covered
-- the planes of a tree, their records and what they cover
pub mod PlaneRecords
