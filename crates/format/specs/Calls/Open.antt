-- Document 01, The calls: open. It answers a number and the file's summary, zero in every field where it refuses, and leaves zeros in the table.
use Rattle.std.specs.Prelude.{ℕ, List, length, ltb}
use Rattle.format.specs.Bytes.{ascii, zeros, most64}
use Rattle.format.specs.Answer.{Answer, given, refused, refuse_if, and_then, or_refuse, number_of}
use Rattle.format.specs.Refusals as why
use Rattle.format.specs.Chunks.{data_in}
use Rattle.format.specs.Map.{map_range, map_entries}
use Rattle.format.specs.Trees.{named_tree, most_depth, room_in}
use Rattle.format.specs.Values.{field, as_level}
use Rattle.format.specs.Attributes.{attributes, plane_bytes}
use Rattle.format.specs.Loops.{experiment}
use Rattle.format.specs.Calibration.{z_step, z_float, calibration}
use Rattle.format.specs.Summary.{summary_of, zero_summary}
use Rattle.format.specs.declared.Summary.{Summary}

-- The summary of a file, with a table of `room` entries, or the first refusal: of the map, of the attributes, of the experiment and its loops, then 14 for a
-- plane past 2^64 − 1 bytes. Of the calibration only 18 is one; channels are not looked at.
unfoldable pub opened : List ℕ → ℕ → Answer Summary
unfolding map_range named_tree calibration summary_of ascii
opened s room =
    and_then (map_range s) λ r.
    let m = data_in s r in
    and_then (map_entries m) λ map.
    and_then (named_tree s m map room (ascii "ImageAttributesLV!")) λ attrs.
    and_then (attributes s attrs) λ a.
    and_then (named_tree s m map room (ascii "ImageMetadataLV!")) λ es.
    and_then (or_refuse (as_level (field s es 0 (ascii "SLxExperiment"))) why.missing) λ i.
    and_then (experiment s es i) λ ls.
    refuse_if (ltb most64 (plane_bytes a)) why.frame_shape
    (and_then (calibration s m map room (z_float (z_step most_depth s es i))) λ c.
    given (summary_of r a ls c))

unfoldable pub summary_or_zero : Answer Summary → Summary
summary_or_zero (refused n) = zero_summary
summary_or_zero (given u) = u

-- the call's number, its summary, and what the table holds afterwards
pub record Opening : Type 0 where
  pub number : ℕ
  pub summary : Summary
  pub table : List ℕ

unfoldable pub open_call : List ℕ → List ℕ → Opening
unfolding opened number_of summary_or_zero zeros
open_call file table =
    let answer = opened file (room_in (length table)) in
    record { number = number_of answer; summary = summary_or_zero answer; table = zeros (length table) }
