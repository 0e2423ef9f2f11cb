-- The calls over summaries in lent bytes. Bytes that are not of the layout are 20, like a summary that cannot be used.
use Rattle.std.specs.Prelude.{ℕ, ◌/◌, cond, List, length, replicate, eqb}
use Rattle.std.proofs.Math.Option.{Option, none, some}
use Rattle.format.specs.Bytes.{zeros, over, each}
use Rattle.format.specs.Refusals as why
use Rattle.format.specs.Calls.Open.{open_call}
use Rattle.format.specs.Calls.Plane.{Outcome, plane_call}
use Rattle.format.specs.Calls.Sheet.{sheet_call}
use Rattle.format.specs.Calls.Tree.{tree_call}
use Rattle.format.specs.Channels.{empty_channel}
use Rattle.format.specs.Calls.Channels.{channels_call}
use Rattle.format.specs.Calls.Register.{register_call}
use Rattle.format.specs.Calls.Picometres.{SizeOutcome, picometres_call}
use Rattle.format.specs.declared.Summary.{Summary}
use Rattle.layout.specs.Layout.{summary_from, channel_row_bytes}

-- what a call answers on the summary that the bytes say, and `bad` where they say none
unfoldable pub on_summary : {A : Type 0} → A → (Summary → A) → Option Summary → A
on_summary bad call none = bad
on_summary bad call (some u) = call u

-- 20, and what the lent buffer holds then
abbrev unsaid : List ℕ → Outcome
unsaid buffer = record { number = why.summary; buffer = buffer }

unfoldable pub plane_on : List ℕ → List ℕ → ℕ → ℕ → ℕ → ℕ → List ℕ → Outcome
unfolding on_summary summary_from plane_call
plane_on file summary scene t c z samples = on_summary (unsaid samples) (λ u. plane_call file u scene t c z samples) (summary_from summary)

unfoldable pub sheet_on : List ℕ → List ℕ → ℕ → ℕ → ℕ → ℕ → List ℕ → Outcome
unfolding on_summary summary_from sheet_call
sheet_on file summary scene t c z lent = on_summary (unsaid lent) (λ u. sheet_call file u scene t c z lent) (summary_from summary)

unfoldable pub tree_on : List ℕ → List ℕ → List ℕ → List ℕ → Outcome
unfolding on_summary summary_from tree_call
tree_on file summary name table = on_summary (unsaid (zeros (length table))) (λ u. tree_call file u name table) (summary_from summary)

-- the channels call on a lent row of n bytes: as many records as fit, zeros behind them. What the row held before is not looked at.
unfoldable pub channel_row : List ℕ → Summary → List ℕ → ℕ → Outcome
unfolding each over zeros
channel_row file u table n =
    let call = channels_call file u table (replicate (n / 56) empty_channel) in
    record { number = call.number; buffer = over (channel_row_bytes call.row) (zeros n) }

unfoldable pub channels_on : List ℕ → List ℕ → List ℕ → ℕ → Outcome
unfolding on_summary summary_from channel_row
channels_on file summary table n = on_summary (unsaid (zeros n)) (λ u. channel_row file u table n) (summary_from summary)

unfoldable pub register_on : List ℕ → List ℕ → List ℕ → Outcome
unfolding on_summary summary_from register_call
register_on file summary buffer = on_summary (unsaid buffer) (λ u. register_call file u buffer) (summary_from summary)

-- the pixel size: 0 where the bytes say no summary
unfoldable pub picometres_on : List ℕ → List ℕ → List ℕ → SizeOutcome
unfolding on_summary summary_from picometres_call
picometres_on file summary table =
    on_summary (record { number = why.summary; picometres = 0; table = zeros (length table) }) (λ u. picometres_call file u table) (summary_from summary)

-- the number of an opening: 20 where the bytes that are lent for the summary are not as long as one
unfoldable pub open_on : List ℕ → List ℕ → List ℕ → ℕ
unfolding open_call
open_on file table summary = cond (eqb (length summary) 144) (open_call file table).number why.summary
