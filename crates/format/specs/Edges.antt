-- Document 01, Both edges: the starred cases, as rows of one statement, and what change request 4 puts in place of one of them.
use Rattle.std.specs.Prelude.{ℕ, ◌≡◌, true, List, [], ◌∷◌, ◌++◌, map, length, take, Float}
use Rattle.std.proofs.Math.Option.{Option, none, some}
use Rattle.std.specs.Float.{binary64}
use Rattle.std.specs.Float.Ieee.{of_bits}
use Rattle.format.specs.Build.{u32, f64, level_of}
use Rattle.format.specs.Answer.{Answer, given, refused, and_then}
use Rattle.format.specs.Trees.{read, entered, at, fault, tree_entries}
use Rattle.format.specs.Values.{list, flag, value_at}
use Rattle.format.specs.declared.Attributes.{Attributes}
use Rattle.format.specs.Attributes.{attributes}
use Rattle.format.specs.Loops.{experiment}
use Rattle.format.specs.Calibration.{z_step}
use Rattle.format.specs.Frames.{seq_index, sample_place}
use Rattle.format.specs.Channels.{channel_of}
use Rattle.format.specs.declared.Channel.{Channel}
use Rattle.format.specs.declared.Entry.{Entry}
use Rattle.format.specs.declared.Axis.TheVariants.{T, P}
use Rattle.format.specs.declared.Loop.{Loop}

-- ---- what the rows are about

abbrev pub times_three : Loop
times_three = record { axis = T; count = 3 }

abbrev pub scenes_four : Loop
scenes_four = record { axis = P; count = 4 }

-- width 2, three components, 16 bits, and the row bytes
abbrev pub shaped : ℕ → Attributes
shaped row = record { width = 2; stride = row; height = 2; components = 3; bits = 16 }

-- a tree's reading ends well, at the data's end
abbrev pub Whole : List ℕ → Type 0
Whole d = (read d 0).stop ≡ at (length d)

-- attributes of `shaped row`, with these bits of the double eCompression
unfoldable pub attributes_data : ℕ → ℕ → List ℕ
attributes_data row bits =
    level_of 6 "SLxImageAttributes"
    (u32 "uiWidth" 2 ++ u32 "uiWidthBytes" row ++ u32 "uiHeight" 2 ++ u32 "uiComp" 3 ++ u32 "uiBpcInMemory" 16 ++ f64 "eCompression" bits)

abbrev pub name_units_of : Entry → ℕ
name_units_of e = e.units

unfoldable pub attributes_of : ℕ → ℕ → Answer Attributes
attributes_of row bits = let d = attributes_data row bits in and_then (tree_entries (read d 0)) (attributes d)

-- an experiment whose only level has these bits of the double eType, and uiCount 3
unfoldable pub times_data : ℕ → List ℕ
times_data bits = level_of 2 "SLxExperiment" (f64 "eType" bits ++ level_of 1 "uLoopPars" (u32 "uiCount" 3))

unfoldable pub times_of : ℕ → Answer (List Loop)
times_of bits = let d = times_data bits in and_then (tree_entries (read d 0)) λ es. experiment d es 0

-- an experiment whose only level is of type 4, with this uiCount, dZHigh 10 and dZLow -10
unfoldable pub stack_data : ℕ → List ℕ
stack_data n =
    level_of 2 "SLxExperiment"
    (u32 "eType" 4 ++ level_of 3 "uLoopPars" (u32 "uiCount" n ++ f64 "dZHigh" 0x4024000000000000 ++ f64 "dZLow" 0xC024000000000000))

unfoldable pub step_of : ℕ → Answer (Option Float)
step_of n = let d = stack_data n in and_then (tree_entries (read d 0)) λ es. given (z_step 64 d es 0)

-- a plane of this colour
unfoldable pub plane_data : ℕ → List ℕ
plane_data n = level_of 1 "a" (u32 "uiColor" n)

unfoldable pub plane_of : ℕ → Answer Channel
plane_of n = let d = plane_data n in and_then (tree_entries (read d 0)) λ es. given (channel_of d es 0)

unfoldable pub u32_record : List ℕ
u32_record = 0x03 ∷ 0x02 ∷ 0x61 ∷ 0x00 ∷ 0x00 ∷ 0x00 ∷ 0x05 ∷ 0x00 ∷ 0x00 ∷ 0x00 ∷ []

-- a level of this length, with one child, a flag that is set; neither has a name
unfoldable pub one_true : ℕ → List ℕ
one_true n = 0x0B ∷ 0x00 ∷ 0x01 ∷ 0x00 ∷ 0x00 ∷ 0x00 ∷ n ∷ 0 ∷ 0 ∷ 0 ∷ 0 ∷ 0 ∷ 0 ∷ 0 ∷ 0x01 ∷ 0x00 ∷ 0x01 ∷ 0 ∷ 0 ∷ 0 ∷ 0 ∷ 0 ∷ 0 ∷ 0 ∷ 0 ∷ []

-- ---- the rows

pub record Starred : Type 0 where
  -- the frame number of scene 2 and t 1, with the times outside and with the points outside
  pub seq_times_first : seq_index (times_three ∷ scenes_four ∷ []) 2 1 0 ≡ 6
  pub seq_scenes_first : seq_index (scenes_four ∷ times_three ∷ []) 2 1 0 ≡ 7
  -- where sample (1, 1) of component 2 begins, with a stride of 14; strides of 12 and 11, of which the second does not hold a row
  pub place : sample_place (shaped 14) 0 2 1 1 ≡ 32
  pub row_12 : attributes_of 12 0x4000000000000000 ≡ given (shaped 12)
  pub row_11 : attributes_of 11 0x4000000000000000 ≡ refused 14
  -- the entry of a record of type 3 at byte 100; the same record without its last byte
  pub record_u32 : read u32_record 100 ≡ entered (record { kind = 3; name = 102; units = 1; value = 106; size = 4; parent = 0 }) (at 10)
  pub record_cut : (read (take 9 u32_record) 100).stop ≡ fault 6
  -- a level of one unnamed flag is a list of that flag; a length that does not cover its header
  pub level_17 : value_at (one_true 17) (read (one_true 17) 0).entries 0 ≡ list (1 ∷ [])
  pub level_17_one : value_at (one_true 17) (read (one_true 17) 0).entries 1 ≡ flag true
  pub level_17_unnamed : map name_units_of (read (one_true 17) 0).entries ≡ 0 ∷ 0 ∷ []
  pub level_17_end : (read (one_true 17) 0).stop ≡ at 25
  pub level_13 : (read (one_true 13) 0).stop ≡ fault 10
  -- the bytes of a colour, red the lowest
  pub colour : plane_of 0x00332211 ≡ given (record { named = 0; name = 0; units = 0; colored = 1; red = 0x11; green = 0x22; blue = 0x33 })
  -- change request 4, in place of the line by which an eCompression of 2.9 passed: 2.9 states nothing, so it gives 12; 1.9 gives 12 as before, and 2.0 passes
  pub compression_2·9 : attributes_of 14 0x4007333333333333 ≡ refused 12
  pub compression_1·9 : attributes_of 14 0x3FFE666666666666 ≡ refused 12
  pub compression_2·0 : attributes_of 14 0x4000000000000000 ≡ given (shaped 14)
  -- an eType of 1.5 is no loop, 1.0 is one
  pub type_1·5 : times_of 0x3FF8000000000000 ≡ given []
  pub type_1·0 : times_of 0x3FF0000000000000 ≡ given (times_three ∷ [])
  -- the step of a stack from −10 to 10, with 11 values and with 1
  pub step_11 : step_of 11 ≡ given (some (of_bits binary64 0x4000000000000000))
  pub step_1 : step_of 1 ≡ given none
  -- the trees of the last lines and of the row bytes are read to their ends
  pub attributes_whole : (row bits : ℕ) → Whole (attributes_data row bits)
  pub plane_whole : (n : ℕ) → Whole (plane_data n)
  pub times_whole : (bits : ℕ) → Whole (times_data bits)
  pub stack_whole : (n : ℕ) → Whole (stack_data n)
