-- Change request 2: one call writes a plane as a sheet, the other reads a sheet back. What is lent keeps the bytes behind the answer,
-- and every byte where a call is refused.
use Rattle.std.specs.Prelude.{ℕ, Bool, cond, not, ◌&&◌, List, length, drop, ltb, leb, eqb}
use Rattle.format.specs.Bytes.{le_at, part, over, same}
use Rattle.format.specs.Answer.{Answer, given, refused, refuse_if, and_then}
use Rattle.format.specs.Refusals as why
use Rattle.format.specs.Attributes.{bad_bits}
use Rattle.format.specs.Sheets.{sheet_head, sheet, sheet_bytes, most_sheet_bytes}
use Rattle.format.specs.Calls.Plane.{Outcome, frame_of, plane_samples}
use Rattle.format.specs.declared.Range.{Range}
use Rattle.format.specs.declared.Summary.{Summary}

-- ---- writing

-- the frame whose samples are written: 20, 21, 22, 5, 23, 4, 29, 4, 24, 26, 25; `room` is the length of the lent sheet
unfoldable pub sheet_for : List ℕ → Summary → ℕ → ℕ → ℕ → ℕ → ℕ → Answer Range
unfolding frame_of
sheet_for s u scene t c z room =
    let size = sheet_bytes u.width u.height u.bits in
    and_then (frame_of s u scene t c z) λ r.
    refuse_if (ltb most_sheet_bytes size) why.sheet_long
    (refuse_if (ltb room size) why.buffer
    (given r))

unfoldable pub sheet_by : List ℕ → Summary → ℕ → List ℕ → Answer Range → Outcome
unfolding over sheet plane_samples
sheet_by s u c buf (refused n) = record { number = n; buffer = buf }
sheet_by s u c buf (given r) = record { number = 0; buffer = over (sheet u.width u.height u.bits (plane_samples s u c r)) buf }

unfoldable pub sheet_call : List ℕ → Summary → ℕ → ℕ → ℕ → ℕ → List ℕ → Outcome
unfolding sheet_for sheet_by
sheet_call file u scene t c z buf = sheet_by file u c buf (sheet_for file u scene t c z (length buf))

-- ---- reading

-- what a sheet says
pub record SheetSaid : Type 0 where
  pub width : ℕ
  pub height : ℕ
  pub bits : ℕ
  pub samples : List ℕ

-- whether s has the length and the head of the sheet of a plane of w × h samples of b bits
unfoldable pub laid_as : List ℕ → ℕ → ℕ → ℕ → Bool
unfolding part same sheet_head
laid_as s w h b =
    let size = sheet_bytes w h b in
    not (bad_bits b) && ltb 0 w && ltb 0 h && leb size most_sheet_bytes && eqb (length s) size && same (part s 0 186) (sheet_head w h b)

-- What a sheet says, or 27. Width, height and bits stand in the first three fields.
unfoldable pub sheet_from : List ℕ → Answer SheetSaid
unfolding le_at laid_as
sheet_from s =
    let w = le_at 4 s 18 in
    let h = le_at 4 s 30 in
    let b = le_at 2 s 42 in
    cond (laid_as s w h b) (given (record { width = w; height = h; bits = b; samples = drop 186 s })) (refused why.sheet_layout)

-- the same, and 25: `room` is the length of the lent samples
unfoldable pub sheet_into : List ℕ → ℕ → Answer SheetSaid
unfolding sheet_from
sheet_into s room = and_then (sheet_from s) λ q. refuse_if (ltb room (length q.samples)) why.buffer (given q)

-- the call's number, its sizes and bits, and what the lent samples hold afterwards
pub record SheetOutcome : Type 0 where
  pub number : ℕ
  pub width : ℕ
  pub height : ℕ
  pub bits : ℕ
  pub samples : List ℕ

unfoldable pub sheet_read_by : List ℕ → Answer SheetSaid → SheetOutcome
unfolding over
sheet_read_by buf (refused n) = record { number = n; width = 0; height = 0; bits = 0; samples = buf }
sheet_read_by buf (given q) = record { number = 0; width = q.width; height = q.height; bits = q.bits; samples = over q.samples buf }

unfoldable pub sheet_read_call : List ℕ → List ℕ → SheetOutcome
unfolding sheet_into sheet_read_by
sheet_read_call s buf = sheet_read_by buf (sheet_into s (length buf))
