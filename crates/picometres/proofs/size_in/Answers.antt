-- `size_in`: no size above 0, a size that no u64 holds, or the size.
use Rattle.format.specs.Answer.{and_then, or_refuse}
use Rattle.format.specs.Calls.Picometres.{picometres_in}
use Rattle.named_tree.proofs.Answers.{handed, lacking, asked}
use Rattle.picometres.proofs.size_in.Goals as goal

pub returns-in_err-um : goal.returns-in_err-um
unfolding picometres_in and_then or_refuse
returns-in_err-um c =
    let (none, missing) = lacking _ c.in_err-um.ensures.value in
    rw (handed c.from_residual.ensures.1, ← c.parse_calibration_um.ensures, none, missing)

pub returns : goal.returns
unfolding picometres_in and_then or_refuse
returns c = rw (← c.parse_calibration_um.ensures, c.in_ok-um.ensures.ok_part, ← c.picometres.ensures, c.ok_or-2.ensures.value) (asked _ _)
