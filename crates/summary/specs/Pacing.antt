-- How an axis goes through the frames.
use Rattle.std.specs.Prelude.{ℕ, ◌/◌, ◌%◌, ◌<◌, ◌≡◌, List}
use Rattle.format.specs.Frames.{index_at}
use Rattle.format.specs.declared.Axis.{Axis}
use Rattle.format.specs.declared.Loop.{Loop}
use Rattle.summary.specs.declared.Pace.{Pace}

-- p is the pace of an axis with these loops
pub record Paced (p : Pace) (a : Axis) (ls : List Loop) : Type 0 where
  pub stays : 0 < p.stay
  pub some : 0 < p.count
  pub index : (n : ℕ) → index_at a n ls ≡ n / p.stay % p.count
