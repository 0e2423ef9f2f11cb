-- Document 01, The calls: channels. It leaves a record for each component in the lent row, records of zeros behind these, and a table of zeros.
use Rattle.std.specs.Prelude.{ℕ, cond, List, [], length, ltb, eqb}
use Rattle.format.specs.Bytes.{ascii, zeros}
use Rattle.format.specs.Answer.{Answer, given, refused, refuse_if, and_then, number_of}
use Rattle.format.specs.Refusals as why
use Rattle.format.specs.Map.{map_entries}
use Rattle.format.specs.Trees.{room_in, named_tree}
use Rattle.format.specs.Channels.{PlaneRecord, plane_records, covered, fitted}
use Rattle.format.specs.Summary.{map_of, bad_summary}
use Rattle.format.specs.declared.Entry.{Entry}
use Rattle.format.specs.declared.Channel.{Channel}
use Rattle.format.specs.declared.Summary.{Summary}

-- the plane records of a tree: 18 is a refusal, and without a whole tree there are none
unfoldable pub records_by : List ℕ → Answer (List Entry) → Answer (List PlaneRecord)
records_by s (given es) = given (plane_records s es)
records_by s (refused k) = cond (eqb k why.table) (refused why.table) (given [])

-- the plane records, with a table of `room` entries and a row of n records: 20, 5, 19, 18
unfoldable pub records_of : List ℕ → Summary → ℕ → ℕ → Answer (List PlaneRecord)
unfolding records_by ascii
records_of s u room n =
    refuse_if (bad_summary s u) why.summary
    (and_then (map_entries (map_of s u)) λ es.
    refuse_if (ltb n u.components) why.channel_row
    (records_by s (named_tree s (map_of s u) es room (ascii "ImageMetadataSeqLV|0!"))))

-- A row of n records: those that the planes give to the components, and empty ones behind them. On a refusal every record is empty.
unfoldable pub row_by : ℕ → ℕ → Answer (List PlaneRecord) → List Channel
unfolding covered fitted
row_by n components (refused k) = fitted n []
row_by n components (given ps) = fitted n (covered components ps)

-- the call's number, and what table and row hold afterwards
pub record Channelled : Type 0 where
  pub number : ℕ
  pub table : List ℕ
  pub row : List Channel

unfoldable pub channels_call : List ℕ → Summary → List ℕ → List Channel → Channelled
unfolding records_of row_by number_of zeros
channels_call file u table row =
    let answer = records_of file u (room_in (length table)) (length row) in
    record { number = number_of answer; table = zeros (length table); row = row_by (length row) u.components answer }
