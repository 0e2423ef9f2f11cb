-- What a walk has come to, in document 01's terms.
use Rattle.std.specs.Prelude.{ℕ, ◌≡◌, List}
use Rattle.std.specs.Prelude as std
use Rattle.format.specs.Answer.{Answer, refused, given}
use Rattle.format.specs.Given.{number}
use Rattle.format.specs.Loops.{Built}
use Rattle.format.specs.declared.refusal.Refusal.{Refusal}
use Rattle.experiment.specs.Kept.{Stands}
use Rattle.experiment.specs.declared.kept.Kept.{Kept}

-- the loops that were appended, or the refusal
pub data Gives : std.Result Kept Refusal → Answer (List Built) → Type 0 where
  went : {k : Kept} {bs : List Built} → Stands k bs → Gives (std.Ok k) (given bs)
  stopped : {e : Refusal} {n : ℕ} → number e ≡ n → Gives (std.Err e) (refused n)
