-- What the answers of this crate say of the plane records.
use Rattle.std.specs.Prelude.{ℕ, ◌≡◌, List, Result}
use Rattle.std.specs.Result.{result_unwrap_or}
use Rattle.format.specs.Answer.{Answer, number_of}
use Rattle.format.specs.Given.{said}
use Rattle.format.specs.Channels.{PlaneRecord, fitted}
use Rattle.format.specs.Calls.Channels.{row_by}
use Rattle.format.specs.declared.refusal.Refusal.{Refusal}
use Rattle.channels.specs.Ahead.{ahead, Stands, no_planes}
use Rattle.channels.specs.declared.planes.Planes.{Planes}

-- Of the planes `a`, with `most` components: the number, and a walk whose records are those of a row of n; a refusal has empty records alone. The walk goes
-- by the table t.
pub record Ready (s t : List ℕ) (n most : ℕ) (a : Answer (List PlaneRecord)) (p : Result Planes Refusal) : Type 0 where
  pub number : said p ≡ number_of a
  pub stands : Stands s t (result_unwrap_or p no_planes)
  pub row : row_by n most a ≡ fitted n (ahead s t (result_unwrap_or p no_planes))
