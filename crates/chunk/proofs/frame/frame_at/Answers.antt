-- The name that is looked up is the array from `from` on.
use mathlib.Core.Path.{ap, ◌∙◌}
use Rattle.chunk.specs.Answers.{find_in}
use Rattle.chunk.proofs.Decimal.{name_part}
use Rattle.chunk.proofs.frame.frame_at.Goals as goal

pub returns : goal.returns
returns c =
    let f = c.frame_name-f in
    c.look_up.ensures ∙ ap (find_in _) (name_part _ f.result f.ensures)
