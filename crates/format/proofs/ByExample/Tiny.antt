-- One file of 728 bytes that is joined to a summary, and its plane. Assumes nothing.
use Prim.Native.Nat.{ℕ}
use mathlib.Core.Path.{◌≡◌, refl}
use mathlib.Core.List.{List, [], ◌∷◌, ◌++◌}
use Rattle.format.specs.Answer.{given, refused, and_then, refuse_if, or_refuse}
use Rattle.format.specs.Bytes.{ascii, le_bytes, le_at, same, part}
use Rattle.format.specs.Build.{eights, u32, level_of, chunk, file_of}
use Rattle.format.specs.Chunks.{chunk_data}
use Rattle.format.specs.Map.{end_mark, map_name, map_entries, offset_of}
use Rattle.format.specs.Text.{units, lossy}
use Rattle.format.specs.Trees.{within, tree_in}
use Rattle.format.specs.Values.{field, slots_of, name_of, put_named, put_unnamed, elements, slot_value, value_at, as_level, bind}
use Rattle.format.specs.Attributes.{attributes, uncompressed, bad_bits, bad_shape}
use Rattle.format.specs.Loops.{experiment, said, loop_params, or_zero, child_levels, append, judge, has_axis}
use Rattle.format.specs.Calibration.{z_step, z_float, calibration, unstated}
use Rattle.format.specs.Summary.{bad_summary, no_loop, summary_of}
use Rattle.format.specs.Frames.{count_of, seq_index}
use Rattle.format.specs.Calls.Open.{opened}
use Rattle.format.specs.Numbers.{zero_float, unsigned, signed, below32}
use Rattle.format.specs.Calls.Plane.{plane_call}
use Rattle.format.specs.Grammar.File.{Joined}
use Rattle.format.specs.declared.Axis.TheVariants.{T}
use Rattle.format.specs.declared.Summary.{Summary}
use Rattle.format.proofs.Files.Joined.{opened_iff_joined}

-- 2 by 1 samples of 8 bits, one time
unfoldable pub tiny : List ℕ
tiny =
    file_of
    (chunk "ImageAttributesLV!" attributes_data ∷ chunk "ImageMetadataLV!" experiment_data ∷ chunk "ImageDataSeq|0!" (eights 1 ++ 7 ∷ 9 ∷ []) ∷ [])
  where
    attributes_data : List ℕ
    attributes_data =
        level_of 6 "SLxImageAttributes"
        (u32 "uiWidth" 2 ++ u32 "uiWidthBytes" 2 ++ u32 "uiHeight" 1 ++ u32 "uiComp" 1 ++ u32 "uiBpcInMemory" 8 ++ u32 "eCompression" 2)

    experiment_data : List ℕ
    experiment_data = level_of 2 "SLxExperiment" (u32 "eType" 1 ++ level_of 1 "uLoopPars" (u32 "uiCount" 1))

unfoldable pub tiny_summary : Summary
tiny_summary =
    record {
      loops = record { axis = T; count = 1 } ∷ no_loop ∷ no_loop ∷ [];
      depth = 1;
      width = 2;
      stride = 2;
      height = 1;
      components = 1;
      bits = 8;
      map = record { start = 559; len = 129 };
      calibration = 0;
      x = zero_float;
      y = zero_float;
      class = 0;
      z = zero_float;
    }

pub tiny_opened : opened tiny 7 ≡ given tiny_summary
unfolding
    tiny tiny_summary ascii le_bytes end_mark map_name opened and_then refuse_if le_at same part chunk_data map_entries or_refuse offset_of within tree_in
    attributes as_level field slots_of name_of units lossy bind unsigned signed below32 uncompressed bad_bits bad_shape put_named put_unnamed elements
    slot_value value_at experiment said loop_params or_zero child_levels append judge has_axis summary_of calibration z_step z_float unstated
tiny_opened = refl

pub tiny_short : opened tiny 6 ≡ refused 18
unfolding tiny ascii le_bytes end_mark map_name opened and_then refuse_if le_at same part chunk_data map_entries or_refuse offset_of within tree_in
tiny_short = refl

pub tiny_joined : Joined tiny tiny_summary
tiny_joined = ((opened_iff_joined tiny 7 tiny_summary).0 tiny_opened).0

pub tiny_plane : plane_call tiny tiny_summary 0 0 0 0 (1 ∷ 1 ∷ 1 ∷ []) ≡ record { number = 0; buffer = 7 ∷ 9 ∷ 1 ∷ [] }
unfolding tiny tiny_summary ascii le_bytes end_mark map_name plane_call refuse_if bad_summary count_of
    and_then map_entries part same or_refuse offset_of seq_index chunk_data
tiny_plane = refl
