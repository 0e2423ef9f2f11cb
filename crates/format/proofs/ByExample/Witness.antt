-- One file of two times at two points, with two components, padded rows, a pixel size and a z step: what each call gives. Assumes nothing.
use Prim.Native.Nat.{ℕ, ◌+◌}
use Prim.Native.String.{String}
use mathlib.Core.Path.{◌≡◌, refl}
use mathlib.Core.List.{List, [], ◌∷◌, ◌++◌}
use lib.ListN.{replicate}
use lib.Ieee.{binary32, of_bits, round, lt, ne}
use Rattle.format.specs.Answer.{given, refused, and_then, refuse_if, or_refuse}
use Rattle.format.specs.Bytes.{ascii, le_bytes, le_at, same, part}
use Rattle.format.specs.Build.{eights, flag, u32, f64, text, level_of, chunk, file_of}
use Rattle.format.specs.Chunks.{chunk_data}
use Rattle.format.specs.Map.{map_name, map_entries, offset_of, end_mark}
use Rattle.format.specs.Text.{units, lossy}
use Rattle.format.specs.Trees.{table_bytes, named_tree, within, tree_in}
use Rattle.format.specs.Values.{field, slots_of, name_of, put_named, put_unnamed, elements, slot_value, value_at, as_level, bind}
use Rattle.format.specs.Attributes.{attributes, uncompressed, bad_bits, bad_shape}
use Rattle.format.specs.Loops.{experiment, size_of, point_count, said, loop_params, or_zero, child_levels, append, judge, has_axis}
use Rattle.format.specs.Calibration.{z_class, pixel_size, z_step, z_float, calibration, unstated}
use Rattle.format.specs.Picometres.{picometres}
use Rattle.format.specs.Channels.{plane_records, planes_level, plane_levels, plane_record, covers_of, covered, channel_of, empty_channel}
use Rattle.format.specs.Summary.{bad_summary, no_loop, summary_of}
use Rattle.format.specs.Frames.{count_of, seq_index, frames, index_at, frame_name}
use Rattle.format.specs.Calls.Open.{opened}
use Rattle.format.specs.Numbers.{unsigned, signed, below32, float, narrow, magnitude, positive, finite}
use Rattle.format.specs.Calls.Plane.{Outcome, plane_call}
use Rattle.format.specs.Calls.Register.{register_call}
use Rattle.format.specs.Calls.Channels.{channels_call}
use Rattle.format.specs.Calls.Tree.{tree_call}
use Rattle.format.specs.Calls.Picometres.{picometres_call}
use Rattle.format.specs.Calls.Border.{border_call}
use Rattle.format.specs.Grammar.File.{Joined}
use Rattle.format.specs.declared.Axis.TheVariants.{T, P}
use Rattle.format.specs.declared.Channel.{Channel}
use Rattle.format.specs.declared.Summary.{Summary}
use Rattle.format.proofs.Files.Joined.{opened_iff_joined}

-- ---- the file

-- 2 by 2 samples of 16 bits, two components, two bytes of padding after each row
abbrev attributes_data : List ℕ
attributes_data =
    level_of 6 "SLxImageAttributes"
    (u32 "uiWidth" 2 ++ u32 "uiWidthBytes" 10 ++ u32 "uiHeight" 2 ++ u32 "uiComp" 2 ++ u32 "uiBpcInMemory" 16 ++ u32 "eCompression" 2)

-- three points, of which the second is not valid, and below them a level of type 4 that stops for want of a count and has a step of -0.5
abbrev points_level : List ℕ
points_level = level_of 4 "b" (u32 "eType" 2 ++ points ++ valid ++ level_of 1 "ppNextLevelEx" stopped)
  where
    points : List ℕ
    points = level_of 2 "uLoopPars" (u32 "uiCount" 9 ++ level_of 3 "Points" (u32 "a" 0 ++ u32 "b" 1 ++ u32 "c" 2))

    valid : List ℕ
    valid = level_of 3 "pItemValid" (flag "" 1 ++ flag "" 0 ++ flag "" 1)

    stopped : List ℕ
    stopped = level_of 2 "c" (u32 "eType" 4 ++ level_of 1 "uLoopPars" (f64 "dZStep" 0xBFE0000000000000))

-- two times, and at each of them the points
abbrev experiment_data : List ℕ
experiment_data =
    level_of 3 "SLxExperiment" (u32 "eType" 1 ++ level_of 1 "uLoopPars" (u32 "uiCount" 2) ++ level_of 1 "ppNextLevelEx" points_level)

-- a pixel size of 0.1
abbrev calibration_data : List ℕ
calibration_data = level_of 1 "SLxCalibration" (f64 "dCalibration" 0x3FB999999999999A)

abbrev channels_data : List ℕ
channels_data =
    level_of 1 "SLxPictureMetadata" (level_of 1 "sPicturePlanes" (level_of 2 "sPlaneNew" (plane "a" "L" 0x332211 ++ plane "b" "UV" 0x6655AA)))
  where
    plane : String → String → ℕ → List ℕ
    plane name description colour = level_of 2 name (text "sDescription" description ++ u32 "uiColor" colour)

-- a row of frame n: the low bytes of its samples count from k on, the high bytes are n
abbrev row : ℕ → ℕ → List ℕ
row n k = k ∷ n ∷ (k + 1) ∷ n ∷ (k + 2) ∷ n ∷ (k + 3) ∷ n ∷ 255 ∷ 255 ∷ []

abbrev frame : ℕ → List ℕ
frame n = eights 1 ++ row n 0 ++ row n 4

-- The frames stand in the file from the last to the first. An older frame 0 has the same name as the last chunk, which the map names last.
unfoldable pub pair : List ℕ
pair =
    file_of
    (chunk "ImageAttributesLV!" attributes_data
    ∷ chunk "ImageMetadataLV!" experiment_data
    ∷ chunk "ImageCalibrationLV|0!" calibration_data
    ∷ chunk "ImageMetadataSeqLV|0!" channels_data
    ∷ chunk "ImageDataSeq|0!" (frame 9)
    ∷ chunk "ImageDataSeq|3!" (frame 3)
    ∷ chunk "ImageDataSeq|2!" (frame 2)
    ∷ chunk "ImageDataSeq|1!" (frame 1)
    ∷ chunk "ImageDataSeq|0!" (frame 0)
    ∷ [])

-- x and y are 0.1 in f32, z is 0.5
unfoldable pub pair_summary : Summary
pair_summary =
    record {
      loops = record { axis = T; count = 2 } ∷ record { axis = P; count = 2 } ∷ no_loop ∷ [];
      depth = 2;
      width = 2;
      stride = 10;
      height = 2;
      components = 2;
      bits = 16;
      map = record { start = 1838; len = 327 };
      calibration = 1;
      x = of_bits binary32 0x3DCCCCCD;
      y = of_bits binary32 0x3DCCCCCD;
      class = 1;
      z = of_bits binary32 0x3F000000;
    }

-- ---- what is shown of it

pub pair_opened : opened pair 22 ≡ given pair_summary
unfolding pair pair_summary ascii le_bytes end_mark map_name opened and_then refuse_if le_at same part chunk_data map_entries or_refuse offset_of within tree_in
    attributes as_level field slots_of name_of units lossy bind unsigned signed below32 uncompressed bad_bits bad_shape put_named put_unnamed elements
    slot_value value_at experiment said loop_params or_zero child_levels append judge has_axis summary_of calibration z_step z_float unstated of_bits
    round lt ne float narrow magnitude positive finite z_class size_of point_count pixel_size
pair_opened = refl

pub pair_short : opened pair 21 ≡ refused 18
unfolding pair ascii le_bytes end_mark map_name opened and_then refuse_if le_at same part chunk_data map_entries or_refuse offset_of within tree_in attributes
    as_level field slots_of name_of units lossy bind unsigned signed below32 uncompressed bad_bits bad_shape put_named put_unnamed elements slot_value value_at
    experiment said loop_params or_zero child_levels append judge has_axis summary_of calibration z_step z_float unstated of_bits round lt ne float
    narrow magnitude positive finite z_class size_of point_count pixel_size
pair_short = refl

pub pair_joined : Joined pair pair_summary
pair_joined = ((opened_iff_joined pair 22 pair_summary).0 pair_opened).0

-- nine bytes are lent, and a plane has eight
abbrev pub lent : List ℕ
lent = replicate 9 77

abbrev pub plane_at : ℕ → ℕ → ℕ → Outcome
plane_at scene t c = plane_call pair pair_summary scene t c 0 lent

pub record PairPlanes : Type 0 where
  pub first : plane_at 0 0 0 ≡ record { number = 0; buffer = 0 ∷ 0 ∷ 2 ∷ 0 ∷ 4 ∷ 0 ∷ 6 ∷ 0 ∷ 77 ∷ [] }
  pub other_point : plane_at 1 0 0 ≡ record { number = 0; buffer = 0 ∷ 1 ∷ 2 ∷ 1 ∷ 4 ∷ 1 ∷ 6 ∷ 1 ∷ 77 ∷ [] }
  pub other_time : plane_at 0 1 0 ≡ record { number = 0; buffer = 0 ∷ 2 ∷ 2 ∷ 2 ∷ 4 ∷ 2 ∷ 6 ∷ 2 ∷ 77 ∷ [] }
  pub all_other : plane_at 1 1 1 ≡ record { number = 0; buffer = 1 ∷ 3 ∷ 3 ∷ 3 ∷ 5 ∷ 3 ∷ 7 ∷ 3 ∷ 77 ∷ [] }
  pub no_third_point : plane_at 2 0 0 ≡ record { number = 21; buffer = lent }

pub pair_planes : PairPlanes
unfolding pair pair_summary ascii le_bytes end_mark map_name plane_call refuse_if bad_summary count_of
    and_then map_entries part same or_refuse offset_of seq_index chunk_data
pair_planes = record { first = refl; other_point = refl; other_time = refl; all_other = refl; no_third_point = refl }

-- a record of the register: scene, t, z 0, in the map, and the chunk's place
abbrev pub framed : ℕ → ℕ → ℕ → List ℕ
unfolding le_bytes
framed scene t place = le_bytes 4 scene ++ le_bytes 4 t ++ le_bytes 4 0 ++ le_bytes 4 0 ++ le_bytes 8 place

pub pair_register :
    register_call pair pair_summary (replicate 97 77)
    ≡ record { number = 0; buffer = framed 0 0 1731 ++ framed 1 0 1672 ++ framed 0 1 1613 ++ framed 1 1 1554 ++ 77 ∷ [] }
unfolding pair pair_summary ascii le_bytes end_mark map_name register_call refuse_if bad_summary and_then
    map_entries part same le_at offset_of index_at frames frame_name
pair_register = refl

abbrev stale : Channel
stale = record { named = 9; name = 9; units = 9; colored = 9; red = 9; green = 9; blue = 9 }

-- three records are lent, and there are two components
pub pair_channels :
    channels_call pair pair_summary (replicate 432 7) (stale ∷ stale ∷ stale ∷ [])
    ≡ record {
      number = 0;
      table = replicate 432 0;
      row =
          record { named = 1; name = 1331; units = 1; colored = 1; red = 0x11; green = 0x22; blue = 0x33 }
          ∷ record { named = 1; name = 1419; units = 2; colored = 1; red = 0xAA; green = 0x55; blue = 0x66 }
          ∷ empty_channel
          ∷ [];
    }
unfolding pair pair_summary ascii le_bytes end_mark map_name channels_call refuse_if bad_summary and_then map_entries part same or_refuse offset_of chunk_data
    named_tree within tree_in plane_records planes_level plane_levels plane_record covers_of covered channel_of empty_channel as_level field slots_of name_of
    units lossy le_at bind unsigned below32 put_named put_unnamed elements slot_value value_at child_levels
pair_channels = refl

-- three entries are lent, and the calibration's tree has two
pub pair_tree :
    tree_call pair pair_summary (ascii "ImageCalibrationLV|0!") (replicate 144 7)
    ≡ record {
      number = 0;
      buffer =
          table_bytes
          (record { kind = 11; name = 1032; units = 14; value = 1074; size = 36; parent = 0 }
          ∷ record { kind = 6; name = 1076; units = 12; value = 1102; size = 8; parent = 1 }
          ∷ [])
          ++ replicate 48 0;
    }
unfolding pair pair_summary ascii le_bytes end_mark map_name tree_call table_bytes refuse_if bad_summary and_then map_entries part same or_refuse offset_of
    chunk_data named_tree within tree_in le_at
pair_tree = refl

-- 0.1 micrometres, with two entries lent and with one
pub record PairSize : Type 0 where
  pub told : picometres_call pair pair_summary (replicate 96 7) ≡ record { number = 0; picometres = 100_000; table = replicate 96 0 }
  pub short : picometres_call pair pair_summary (replicate 95 7) ≡ record { number = 18; picometres = 0; table = replicate 95 0 }

pub pair_size : PairSize
unfolding pair pair_summary ascii le_bytes end_mark map_name picometres_call refuse_if bad_summary and_then map_entries part same or_refuse offset_of
    chunk_data named_tree within tree_in le_at as_level field slots_of name_of units lossy bind put_named put_unnamed elements slot_value value_at
    float positive lt of_bits pixel_size picometres
pair_size = record { told = refl; short = refl }

pub pair_border :
    border_call pair (replicate 1056 7) 1 1 1 0 lent
    ≡ record { number = 0; table = replicate 1056 0; samples = 1 ∷ 3 ∷ 3 ∷ 3 ∷ 5 ∷ 3 ∷ 7 ∷ 3 ∷ 77 ∷ [] }
unfolding pair border_call ascii le_bytes end_mark map_name opened and_then refuse_if le_at same part chunk_data map_entries or_refuse offset_of within tree_in
    attributes as_level field slots_of name_of units lossy bind unsigned signed below32 uncompressed bad_bits bad_shape put_named put_unnamed elements
    slot_value value_at experiment said loop_params or_zero child_levels append judge has_axis summary_of calibration z_step z_float unstated of_bits
    round lt ne float narrow magnitude positive finite z_class size_of point_count pixel_size plane_call bad_summary count_of seq_index
pair_border = refl
