-- A file whose calibration has one field: what the picometres call gives for doubles and whole numbers there, at the ends of the range and past them, and where
-- no size is stated. Assumes nothing.
use Prim.Native.Nat.{ℕ}
use mathlib.Core.Path.{◌≡◌, refl}
use mathlib.Core.List.{List, [], ◌∷◌}
use lib.ListN.{replicate}
use lib.Ieee.{of_bits, of_int, round, lt}
use Rattle.format.specs.Answer.{and_then, refuse_if, or_refuse}
use Rattle.format.specs.Bytes.{ascii, le_bytes, le_at, same, part}
use Rattle.format.specs.Build.{u64, f64, level_of, chunk, file_of}
use Rattle.format.specs.Chunks.{chunk_data}
use Rattle.format.specs.Map.{map_name, map_entries, offset_of, end_mark}
use Rattle.format.specs.Text.{units, lossy}
use Rattle.format.specs.Trees.{named_tree, within, tree_in}
use Rattle.format.specs.Values.{field, slots_of, name_of, put_named, put_unnamed, elements, slot_value, value_at, as_level, bind}
use Rattle.format.specs.Numbers.{float, positive, zero_float}
use Rattle.format.specs.Calibration.{pixel_size}
use Rattle.format.specs.Picometres.{picometres}
use Rattle.format.specs.Summary.{bad_summary, no_loop}
use Rattle.format.specs.Calls.Picometres.{SizeOutcome, picometres_call}
use Rattle.format.specs.declared.Summary.{Summary}

-- the file, with a field whose name has twelve characters and whose value has eight bytes
unfoldable pub calibrated : List ℕ → List ℕ
calibrated stated = file_of (chunk "ImageCalibrationLV|0!" (level_of 1 "SLxCalibration" stated) ∷ [])

-- one sample of 8 bits, no loop
unfoldable pub calibrated_summary : Summary
calibrated_summary =
    record {
      loops = no_loop ∷ no_loop ∷ no_loop ∷ [];
      depth = 0;
      width = 1;
      stride = 1;
      height = 1;
      components = 1;
      bits = 8;
      map = record { start = 173; len = 69 };
      calibration = 0;
      x = zero_float;
      y = zero_float;
      class = 0;
      z = zero_float;
    }

-- the call on it with a table of n bytes
abbrev sized : List ℕ → ℕ → SizeOutcome
sized stated n = picometres_call (calibrated stated) calibrated_summary (replicate n 7)

-- an answer of this number and size, whose table has two entries
abbrev answer : ℕ → ℕ → SizeOutcome
answer number n = record { number = number; picometres = n; table = replicate 96 0 }

pub record CalibratedSizes : Type 0 where
  -- 123.456789, which an f32 tells otherwise; 3; the smallest double
  pub double : sized (f64 "dCalibration" 0x405EDD3C07EE0B0B) 96 ≡ answer 0 123_456_789
  pub whole : sized (u64 "dCalibration" 3) 96 ≡ answer 0 3_000_000
  pub smallest : sized (f64 "dCalibration" 1) 96 ≡ answer 0 0
  -- the last double that a u64 holds, the next, and plus infinity; whole numbers likewise, and one that is no double
  pub last_double : sized (f64 "dCalibration" 0x42B0C6F7A0B5ED8D) 96 ≡ answer 0 18_446_744_073_709_550_781
  pub past_double : sized (f64 "dCalibration" 0x42B0C6F7A0B5ED8E) 96 ≡ answer 28 0
  pub infinite : sized (f64 "dCalibration" 0x7FF0000000000000) 96 ≡ answer 28 0
  pub last_whole : sized (u64 "dCalibration" 18_446_744_073_709) 96 ≡ answer 0 18_446_744_073_709_000_000
  pub past_whole : sized (u64 "dCalibration" 18_446_744_073_710) 96 ≡ answer 28 0
  pub no_double : sized (u64 "dCalibration" 0x20000000000001) 96 ≡ answer 28 0
  -- minus infinity, a NaN, −0 and another field
  pub minus_infinite : sized (f64 "dCalibration" 0xFFF0000000000000) 96 ≡ answer 11 0
  pub not_a_number : sized (f64 "dCalibration" 0x7FF8000000000000) 96 ≡ answer 11 0
  pub minus_zero : sized (f64 "dCalibration" 0x8000000000000000) 96 ≡ answer 11 0
  pub another_field : sized (f64 "dcalibration" 0x405EDD3C07EE0B0B) 96 ≡ answer 11 0
  -- the table comes first
  pub table_short : sized (f64 "dCalibration" 0x7FF0000000000000) 95 ≡ record { number = 18; picometres = 0; table = replicate 95 0 }

pub calibrated_sizes : CalibratedSizes
unfolding calibrated calibrated_summary ascii le_bytes end_mark map_name picometres_call refuse_if bad_summary and_then map_entries part same or_refuse
    offset_of
    chunk_data named_tree within tree_in le_at as_level field slots_of name_of units lossy bind put_named put_unnamed elements slot_value value_at
    float positive lt of_bits of_int round pixel_size picometres
calibrated_sizes = record {
  double = refl;
  whole = refl;
  smallest = refl;
  last_double = refl;
  past_double = refl;
  infinite = refl;
  last_whole = refl;
  past_whole = refl;
  no_double = refl;
  minus_infinite = refl;
  not_a_number = refl;
  minus_zero = refl;
  another_field = refl;
  table_short = refl;
}
