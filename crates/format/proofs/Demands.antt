-- The demands and the change requests hold of the definitions.
-- the first and the third demand
pub mod FirstAndThird
-- the change requests
pub mod Requests
-- request 4: what a double that counts as absent means, field by field
pub mod Unstated
-- request 5: the size of an opening, in picometres
pub mod OpenedSize
-- request 6: 29 is said where the map leads from a name astray, and nowhere else
pub mod Misnamed
