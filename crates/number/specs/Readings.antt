-- What an answer of this crate says, in document 01's terms.
use Rattle.std.specs.Prelude.{ℕ, ℤ, Float}
use Rattle.std.specs.Prelude as std
use Rattle.std.proofs.Math.Option.{Option}
use Rattle.format.specs.Given.{maybe}

-- an unsigned reading
abbrev pub natural : std.Option ℕ → Option ℕ
natural n = maybe n

-- a signed reading
abbrev pub integer : std.Option ℤ → Option ℤ
integer n = maybe n

-- a double that may be absent
abbrev pub real : std.Option Float → Option Float
real x = maybe x
