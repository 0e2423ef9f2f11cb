-- Wheels, which show the index of an axis.
use Rattle.std.specs.Prelude.{ℕ, ◌+◌, ◌*◌, ◌<◌, ◌≡◌, List}
use Rattle.format.specs.declared.Axis.{Axis}
use Rattle.format.specs.declared.Loop.{Loop}
use Rattle.summary.specs.Pacing.{Paced}
use Rattle.summary.specs.declared.Pace.{Pace}
use Rattle.register.specs.declared.wheel.Wheel.{Wheel}

-- the pace of a wheel
abbrev pub pace : Wheel → Pace
pace w = record { stay = w.stay; count = w.count }

-- w is a wheel of an axis with these loops, and stands at frame n
pub record Shows (w : Wheel) (a : Axis) (ls : List Loop) (n : ℕ) : Type 0 where
  pub paced : Paced (pace w) a ls
  pub short : w.stood < w.stay
  pub low : w.index < w.count
  pub rounds : ℕ
  pub number : n ≡ (rounds * w.count + w.index) * w.stay + w.stood
