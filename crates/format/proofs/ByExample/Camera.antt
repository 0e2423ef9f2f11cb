-- A file of a colour camera, whose plane records cover several components: what the channels call gives. Assumes nothing.
use Prim.Native.Nat.{ℕ}
use mathlib.Core.Path.{◌≡◌, refl}
use mathlib.Core.List.{List, [], ◌∷◌, ◌++◌}
use lib.ListN.{replicate}
use Rattle.format.specs.Answer.{and_then, refuse_if, or_refuse}
use Rattle.format.specs.Bytes.{ascii, le_bytes, le_at, same, part}
use Rattle.format.specs.Build.{u32, u64, text, level_of, chunk, file_of}
use Rattle.format.specs.Chunks.{chunk_data}
use Rattle.format.specs.Map.{map_name, map_entries, offset_of, end_mark}
use Rattle.format.specs.Text.{units, lossy}
use Rattle.format.specs.Trees.{named_tree, within, tree_in}
use Rattle.format.specs.Values.{field, slots_of, name_of, put_named, put_unnamed, elements, slot_value, value_at, as_level, bind}
use Rattle.format.specs.Loops.{child_levels}
use Rattle.format.specs.Channels.{plane_records, planes_level, plane_levels, plane_record, covers_of, covered, channel_of, empty_channel}
use Rattle.format.specs.Numbers.{unsigned, below32, zero_float}
use Rattle.format.specs.Summary.{bad_summary, no_loop}
use Rattle.format.specs.Calls.Channels.{channels_call}
use Rattle.format.specs.declared.Channel.{Channel}
use Rattle.format.specs.declared.Summary.{Summary}

-- The planes in order: one that covers two components; one that says 0, without name and colour; one that says a text; two that say 2^64 - 1.
abbrev planes_data : List ℕ
planes_data = two ++ zero ++ said ++ rest ++ beyond
  where
    two : List ℕ
    two = level_of 3 "a" (text "sDescription" "RG" ++ u32 "uiColor" 0x332211 ++ u32 "uiCompCount" 2)

    zero : List ℕ
    zero = level_of 1 "b" (u32 "uiCompCount" 0)

    said : List ℕ
    said = level_of 2 "c" (text "sDescription" "B" ++ text "uiCompCount" "3")

    rest : List ℕ
    rest = level_of 2 "d" (u32 "uiColor" 0x6655AA ++ u64 "uiCompCount" 0xFFFFFFFFFFFFFFFF)

    beyond : List ℕ
    beyond = level_of 2 "e" (text "sDescription" "A" ++ u64 "uiCompCount" 0xFFFFFFFFFFFFFFFF)

unfoldable pub camera : List ℕ
camera =
    file_of
    (chunk "ImageMetadataSeqLV|0!"
    (level_of 1 "SLxPictureMetadata" (level_of 1 "sPicturePlanes" (level_of 5 "sPlaneNew" planes_data)))
    ∷ [])

-- one sample of 8 bits, six components, no loop
unfoldable pub camera_summary : Summary
camera_summary =
    record {
      loops = no_loop ∷ no_loop ∷ no_loop ∷ [];
      depth = 0;
      width = 1;
      stride = 6;
      height = 1;
      components = 6;
      bits = 8;
      map = record { start = 741; len = 69 };
      calibration = 0;
      x = zero_float;
      y = zero_float;
      class = 0;
      z = zero_float;
    }

abbrev red_green : Channel
red_green = record { named = 1; name = 213; units = 2; colored = 1; red = 0x11; green = 0x22; blue = 0x33 }

abbrev blue : Channel
blue = record { named = 1; name = 397; units = 1; colored = 0; red = 0; green = 0; blue = 0 }

abbrev others : Channel
others = record { named = 0; name = 0; units = 0; colored = 1; red = 0xAA; green = 0x55; blue = 0x66 }

-- Seven records are lent, and there are six components: the fourth plane has the last two, and none is left for the fifth.
pub camera_channels :
    channels_call camera camera_summary (replicate 864 7) (replicate 7 red_green)
    ≡ record {
      number = 0;
      table = replicate 864 0;
      row = red_green ∷ red_green ∷ empty_channel ∷ blue ∷ others ∷ others ∷ empty_channel ∷ [];
    }
unfolding camera camera_summary ascii le_bytes end_mark map_name channels_call refuse_if bad_summary and_then map_entries part same or_refuse offset_of
    chunk_data
    named_tree within tree_in plane_records planes_level plane_levels plane_record covers_of covered channel_of empty_channel as_level field slots_of name_of
    units lossy le_at bind unsigned below32 put_named put_unnamed elements slot_value value_at child_levels
camera_channels = refl
