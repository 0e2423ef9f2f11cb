-- Where the z step is exact. Sizes are counted in units of the smallest double, 2 ^ -1074.
use Rattle.std.specs.Prelude.{Option, Some, None, ◌≡◌, Bool, true, false, ℕ, ◌+◌, ◌-◌, ◌*◌, ◌^◌, ◌≤◌, ◌<◌, Float}
use Rattle.std.specs.Float.Ieee.Exact.{HasValue}

-- x is n units, with the sign s: true is the minus
abbrev pub Units : Float → Bool → ℕ → Type 0
Units x s n = HasValue x s n (2 ^ 1074)

-- how far ±a and ±b are apart
abbrev pub apart : Bool → ℕ → Bool → ℕ → ℕ
apart true a true b = a - b + (b - a)
apart true a false b = a + b
apart false a true b = a + b
apart false a false b = a - b + (b - a)

-- A double has n units: 53 digits with zeros after them, below 2 ^ 1024.
pub record Double (n : ℕ) : Type 0 where
  pub digits : ℕ
  pub zeros : ℕ
  pub is : n ≡ digits * 2 ^ zeros
  pub few : digits < 2 ^ 53
  pub small : n < 2 ^ (1074 + 1024)

-- The distance from low to high is a double's, and it is count - 1 times `step`, a double's too.
pub record Exact (count : ℕ) (high low : Float) (step : ℕ) : Type 0 where
  pub many : 1 < count
  pub few : count ≤ 2 ^ 53
  pub high_sign : Bool
  pub high_size : ℕ
  pub high_is : Units high high_sign high_size
  pub low_sign : Bool
  pub low_size : ℕ
  pub low_is : Units low low_sign low_size
  pub distance : Double (apart high_sign high_size low_sign low_size)
  pub double : Double step
  pub divided : step * (count - 1) ≡ apart high_sign high_size low_sign low_size

-- the answer is a step of n units
abbrev pub Steps : Option Float → ℕ → Type 0
Steps (Some x) n = Units x false n
Steps None n = ⊥
