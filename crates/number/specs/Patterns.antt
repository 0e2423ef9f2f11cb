-- What a pattern without its sign has to be, for either sign.
use Rattle.std.specs.Prelude.{◌≡◌, Bool, cond, ℕ, ◌+◌, ◌<◌}
use Rattle.std.specs.Float.{binary32, binary64}
use Rattle.std.specs.Float.Ieee.{round, of_fields, of_bits}
use Rattle.format.specs.Numbers.{narrow}

-- r is the f64 nearest to n
pub record Nearest (n r : ℕ) : Type 0 where
  pub small : r < 0x8000_0000_0000_0000
  pub is : (s : Bool) → of_bits binary64 (cond s 0x8000_0000_0000_0000 0 + r) ≡ round binary64 s n 1

-- r is the f32 nearest to the f64 whose exponent's field is x and whose digits are t
pub record Narrowed (x t r : ℕ) : Type 0 where
  pub small : r < 0x8000_0000
  pub is : (s : Bool) → of_bits binary32 (cond s 0x8000_0000 0 + r) ≡ narrow (of_fields binary64 s x t)
