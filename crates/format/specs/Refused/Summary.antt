-- What a summary has to hold so that it can be used (document 01, Why a file is turned away, number 20), and what one holds that is returned with a refusal.
use Rattle.std.specs.Prelude.{ℕ, ◌+◌, ◌≤◌, ◌≡◌, List, length, replicate}
use Rattle.format.specs.Bytes.{most64}
use Rattle.format.specs.Numbers.{zero_float}
use Rattle.format.specs.Attributes.{plane_bytes}
use Rattle.format.specs.Summary.{shape_of, loops_of}
use Rattle.format.specs.Grammar.Attributes.{Bits, Shape}
use Rattle.format.specs.Grammar.Loops.{Counted, Distinct}
use Rattle.format.specs.declared.Axis.TheVariants.{T}
use Rattle.format.specs.declared.Summary.{Summary}

-- not 20
pub record Sound (s : List ℕ) (u : Summary) : Type 0 where
  pub bits : Bits u.bits
  pub shape : Shape (shape_of u)
  pub plane_most : plane_bytes (shape_of u) ≤ most64
  pub loops_most : u.depth ≤ 3
  pub loops_counted : Counted (loops_of u)
  pub loops_distinct : Distinct (loops_of u)
  pub map_within : u.map.start + u.map.len ≤ length s

-- no calibration is stated, and no z step
pub record Uncalibrated (u : Summary) : Type 0 where
  pub calibration : u.calibration ≡ 0
  pub x : u.x ≡ zero_float
  pub y : u.y ≡ zero_float
  pub class : u.class ≡ 0
  pub z : u.z ≡ zero_float

-- a summary of zeros, as a refused opening returns: the three places for loops are not used, with the axis T and the count 0
pub record Blank (u : Summary) : Type 0 where
  pub loops : u.loops ≡ replicate 3 (record { axis = T; count = 0 })
  pub depth : u.depth ≡ 0
  pub width : u.width ≡ 0
  pub stride : u.stride ≡ 0
  pub height : u.height ≡ 0
  pub components : u.components ≡ 0
  pub bits : u.bits ≡ 0
  pub map_start : u.map.start ≡ 0
  pub map_len : u.map.len ≡ 0
  pub uncalibrated : Uncalibrated u
