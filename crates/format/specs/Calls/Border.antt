-- Document 01, The calls: border. For a viewer in another language, an opening and a plane call in one; whichever of the two refuses first gives the number.
use Rattle.std.specs.Prelude.{ℕ, List, length}
use Rattle.format.specs.Bytes.{zeros}
use Rattle.format.specs.Answer.{Answer, given, refused}
use Rattle.format.specs.Trees.{room_in}
use Rattle.format.specs.Calls.Open.{opened}
use Rattle.format.specs.Calls.Plane.{Outcome, plane_call}
use Rattle.format.specs.declared.Summary.{Summary}

-- the plane call on the summary that an opening answers, or the opening's refusal
unfoldable pub plane_after : List ℕ → ℕ → ℕ → ℕ → ℕ → List ℕ → Answer Summary → Outcome
plane_after s scene t c z buf (refused n) = record { number = n; buffer = buf }
plane_after s scene t c z buf (given u) = plane_call s u scene t c z buf

-- the call's number, and what table and samples hold afterwards
pub record Bordered : Type 0 where
  pub number : ℕ
  pub table : List ℕ
  pub samples : List ℕ

unfoldable pub border_call : List ℕ → List ℕ → ℕ → ℕ → ℕ → ℕ → List ℕ → Bordered
unfolding plane_after zeros
border_call file table scene t c z samples =
    let out = plane_after file scene t c z samples (opened file (room_in (length table))) in
    record { number = out.number; table = zeros (length table); samples = out.buffer }
