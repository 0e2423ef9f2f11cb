-- `channels::prepare`: one law for each way out.
use mathlib.Core.Path.{◌≡◌, sym, ◌∙◌}
use mathlib.Core.Bool.{false}
use Rattle.format.specs.Bytes.{ascii}
use Rattle.format.specs.Summary.{bad_summary}
use Rattle.format.proofs.Files.SummaryTest.{sound_read}
use Rattle.named_tree.proofs.Answers.{handed}
use Rattle.channels.proofs.Readying.{ready_refused, ready_same, bad_summary_is, no_map, short_row, read_on}
use Rattle.channels.proofs.prepare.Goals as goal
use Rattle.channels.proofs.prepare.Goals.{Else-bad_summary, After-data_of-map}

pub returns-then-bad_summary : goal.returns-then-bad_summary
returns-then-bad_summary c = ready_refused _ _ _ _ _ (bad_summary_is _ _ _ _ (sym c.bad_summary.ensures ∙ c.if-bad_summary.true))

-- the summary passed, and the map is taken from the file
module _ (c : Else-bad_summary) where
  passed : let a = c.args in bad_summary a.file.now a.u ≡ false
  passed = sym c.bad_summary.ensures ∙ c.if-bad_summary.false

pub data_of-map-requires : goal.data_of-map-requires
data_of-map-requires c = (sound_read _ _ (passed c)).map_within

pub returns-in_err-at : goal.returns-in_err-at
unfolding ascii
returns-in_err-at c =
    let e = rw c.data_of-map.ensures at c.in_err-at.ensures in
    rw (handed c.from_residual.ensures.1) (ready_refused _ _ _ _ _ (no_map _ _ _ _ (passed (goal.at.returns-in_err-at c).Else-bad_summary) e))

pub returns-then-row-u : goal.returns-then-row-u
unfolding ascii
returns-then-row-u c =
    let e = rw c.data_of-map.ensures at c.in_ok-at.ensures in
    ready_refused _ _ _ _ _ (short_row _ _ _ _ (passed (goal.at.returns-then-row-u c).Else-bad_summary) _ e c.if-row-u.true)

pub returns : goal.returns
unfolding ascii
returns c =
    let e = rw c.data_of-map.ensures at c.in_ok-at.ensures in
    ready_same (read_on _ _ _ _ (passed (goal.at.returns c).Else-bad_summary) _ e c.if-row-u.false) (c.read_planes.ensures _)
