-- Files whose map leads from a name astray, and others beside them: what each call gives. Assumes nothing.
use Prim.Native.Nat.{ℕ, ◌+◌}
use Prim.Native.String.{String}
use mathlib.Core.Path.{◌≡◌, refl}
use mathlib.Core.List.{List, [], ◌∷◌, ◌++◌}
use lib.ListN.{length, replicate}
use Rattle.format.specs.Answer.{Answer, given, refused, and_then, refuse_if, or_refuse}
use Rattle.format.specs.Bytes.{ascii, le_bytes, le_at, same, part, begins}
use Rattle.format.specs.Build.{eights, u32, f64, level_of, NamedChunk, astray, chunk, map_bytes, chunks_bytes, file_of}
use Rattle.format.specs.Chunks.{chunk_data}
use Rattle.format.specs.Map.{end_mark, map_name, map_entries, offset_of}
use Rattle.format.specs.Text.{units, lossy}
use Rattle.format.specs.Trees.{within, tree_in, named_tree}
use Rattle.format.specs.Values.{field, slots_of, name_of, put_named, put_unnamed, elements, slot_value, value_at, as_level, bind}
use Rattle.format.specs.Attributes.{attributes, uncompressed, bad_bits, bad_shape}
use Rattle.format.specs.Loops.{experiment, said, loop_params, or_zero, child_levels, append, judge, has_axis}
use Rattle.format.specs.Calibration.{z_step, z_float, calibration, unstated}
use Rattle.format.specs.Channels.{empty_channel}
use Rattle.format.specs.Summary.{bad_summary, no_loop, summary_of}
use Rattle.format.specs.Frames.{count_of, seq_index}
use Rattle.format.specs.Numbers.{zero_float, unsigned, signed, below32}
use Rattle.format.specs.Calls.Open.{opened}
use Rattle.format.specs.Calls.Plane.{Outcome, plane_call}
use Rattle.format.specs.Calls.Tree.{tree_call}
use Rattle.format.specs.Calls.Channels.{channels_call}
use Rattle.format.specs.Calls.Picometres.{picometres_call}
use Rattle.format.specs.declared.Axis.TheVariants.{T}
use Rattle.format.specs.declared.Channel.{Channel}
use Rattle.format.specs.declared.Summary.{Summary}

-- ---- planes

-- 2 by 1 samples of 8 bits at twelve times, of which a file has the frames that it is given
unfoldable pub framed : List NamedChunk → Summary
framed cs =
    record {
      loops = record { axis = T; count = 12 } ∷ no_loop ∷ no_loop ∷ [];
      depth = 1;
      width = 2;
      stride = 2;
      height = 1;
      components = 1;
      bits = 8;
      map = record { start = length (chunks_bytes cs) + 48; len = length (map_bytes 0 cs) };
      calibration = 0;
      x = zero_float;
      y = zero_float;
      class = 0;
      z = zero_float;
    }

-- the plane of time t
unfoldable pub plane_of : List NamedChunk → ℕ → Outcome
plane_of cs t = plane_call (file_of cs) (framed cs) 0 t 0 0 (5 ∷ 5 ∷ 5 ∷ [])

-- samples a and b behind the prefix
abbrev pixels : ℕ → ℕ → List ℕ
pixels a b = eights 1 ++ a ∷ b ∷ []

-- a frame whose header states these lengths
abbrev lengths : ℕ → ℕ → NamedChunk → NamedChunk
lengths n d c = record { listed = c.listed; name = c.name; content = c.content; name_length = n; data_length = d }

abbrev copied : ℕ → ℕ → Outcome
copied a b = record { number = 0; buffer = a ∷ b ∷ 5 ∷ [] }

abbrev turned : ℕ → Outcome
turned n = record { number = n; buffer = 5 ∷ 5 ∷ 5 ∷ [] }

pub record AstrayPlanes : Type 0 where
  -- its own name, and a longer one
  pub own : plane_of (chunk "ImageDataSeq|1!" (pixels 7 9) ∷ []) 1 ≡ copied 7 9
  pub longer : plane_of (astray "ImageDataSeq|1!" "ImageDataSeq|1!x" (pixels 7 9) ∷ []) 1 ≡ copied 7 9
  -- the neighbour's, one that begins alike but for the '!', one without the '!', none
  pub neighbour : plane_of (astray "ImageDataSeq|1!" "ImageDataSeq|2!" (pixels 7 9) ∷ []) 1 ≡ turned 29
  pub eleventh : plane_of (astray "ImageDataSeq|1!" "ImageDataSeq|11!" (pixels 7 9) ∷ []) 1 ≡ turned 29
  pub unmarked : plane_of (astray "ImageDataSeq|1!" "ImageDataSeq|1" (pixels 7 9) ∷ []) 1 ≡ turned 29
  pub nameless : plane_of (astray "ImageDataSeq|1!" "" (pixels 7 9) ∷ []) 1 ≡ turned 29
  -- a name that leaves the file comes first, and data that does comes last
  pub name_first : plane_of (lengths 400 10 (astray "ImageDataSeq|1!" "ImageDataSeq|2!" (pixels 7 9)) ∷ []) 1 ≡ turned 4
  pub data_last : plane_of (lengths 15 400 (astray "ImageDataSeq|1!" "ImageDataSeq|2!" (pixels 7 9)) ∷ []) 1 ≡ turned 29
  pub data_cut : plane_of (lengths 15 400 (chunk "ImageDataSeq|1!" (pixels 7 9)) ∷ []) 1 ≡ turned 4
  -- and a frame that is short
  pub short_last : plane_of (astray "ImageDataSeq|1!" "ImageDataSeq|2!" (7 ∷ []) ∷ []) 1 ≡ turned 29
  pub short : plane_of (chunk "ImageDataSeq|1!" (7 ∷ []) ∷ []) 1 ≡ turned 24

pub astray_planes : AstrayPlanes
unfolding framed plane_of ascii le_bytes end_mark map_name plane_call refuse_if bad_summary count_of and_then map_entries part same begins le_at or_refuse
    offset_of
    seq_index chunk_data
astray_planes = record {
  own = refl;
  longer = refl;
  neighbour = refl;
  eleventh = refl;
  unmarked = refl;
  nameless = refl;
  name_first = refl;
  data_last = refl;
  data_cut = refl;
  short_last = refl;
  short = refl;
}

-- ---- opening, and the trees of calibration and channels

abbrev attributes_data : List ℕ
attributes_data =
    level_of 6 "SLxImageAttributes"
    (u32 "uiWidth" 2 ++ u32 "uiWidthBytes" 2 ++ u32 "uiHeight" 1 ++ u32 "uiComp" 1 ++ u32 "uiBpcInMemory" 8 ++ u32 "eCompression" 2)

abbrev experiment_data : List ℕ
experiment_data = level_of 2 "SLxExperiment" (u32 "eType" 1 ++ level_of 1 "uLoopPars" (u32 "uiCount" 12))

abbrev calibration_data : List ℕ
calibration_data = level_of 1 "SLxCalibration" (f64 "dCalibration" 0x3FF0000000000000)

-- a record of the packed type
abbrev packed_data : List ℕ
packed_data = 76 ∷ 0 ∷ []

-- a file whose chunks of attributes, experiment and calibration have these names, and the calibration this tree
unfoldable pub named : String → String → String → List ℕ → List NamedChunk
named a b c d =
    astray "ImageAttributesLV!" a attributes_data ∷ astray "ImageMetadataLV!" b experiment_data ∷ astray "ImageCalibrationLV|0!" c d ∷ []

unfoldable pub opened_as : String → String → String → List ℕ → Answer Summary
opened_as a b c d = opened (file_of (named a b c d)) 7

pub record AstrayOpened : Type 0 where
  pub attributes_astray : opened_as "ImageMetadataLV!" "ImageMetadataLV!" "ImageCalibrationLV|0!" calibration_data ≡ refused 29
  pub experiment_astray : opened_as "ImageAttributesLV!" "ImageMetadataLV" "ImageCalibrationLV|0!" calibration_data ≡ refused 29
  -- a calibration under another name states nothing, its packed tree neither
  pub calibration_astray : opened_as "ImageAttributesLV!" "ImageMetadataLV!" "ImageCalibrationLV|1!" calibration_data
      ≡ given (framed (named "ImageAttributesLV!" "ImageMetadataLV!" "ImageCalibrationLV|1!" calibration_data))
  pub packed_astray : opened_as "ImageAttributesLV!" "ImageMetadataLV!" "ImageCalibrationLV|1!" packed_data
      ≡ given (framed (named "ImageAttributesLV!" "ImageMetadataLV!" "ImageCalibrationLV|1!" packed_data))

pub astray_opened : AstrayOpened
unfolding framed named opened_as ascii le_bytes end_mark map_name opened and_then refuse_if le_at
    same part begins chunk_data map_entries or_refuse offset_of within tree_in
    attributes as_level field slots_of name_of units lossy bind unsigned signed below32 uncompressed bad_bits bad_shape put_named put_unnamed elements
    slot_value value_at experiment said loop_params or_zero child_levels append judge has_axis summary_of calibration z_step z_float unstated
astray_opened = record { attributes_astray = refl; experiment_astray = refl; calibration_astray = refl; packed_astray = refl }

-- the calibration's chunk, and the channels', under these names
unfoldable pub trees : String → String → List NamedChunk
trees a b = astray "ImageCalibrationLV|0!" a calibration_data ∷ astray "ImageMetadataSeqLV|0!" b calibration_data ∷ []

abbrev stale : Channel
stale = record { named = 9; name = 9; units = 9; colored = 9; red = 9; green = 9; blue = 9 }

pub record AstrayTrees : Type 0 where
  pub tree : tree_call (file_of (trees "ImageCalibrationLV|1!" "")) (framed (trees "ImageCalibrationLV|1!" "")) (ascii "ImageCalibrationLV|0!") (replicate 96 7)
      ≡ record { number = 29; buffer = replicate 96 0 }
  pub size : picometres_call (file_of (trees "ImageCalibrationLV|1!" "")) (framed (trees "ImageCalibrationLV|1!" "")) (replicate 96 7)
      ≡ record { number = 29; picometres = 0; table = replicate 96 0 }
  pub channels : channels_call (file_of (trees "" "ImageMetadataSeqLV|1!")) (framed (trees "" "ImageMetadataSeqLV|1!")) (replicate 96 7) (stale ∷ stale ∷ [])
      ≡ record { number = 0; table = replicate 96 0; row = empty_channel ∷ empty_channel ∷ [] }

pub astray_trees : AstrayTrees
unfolding framed trees ascii le_bytes end_mark map_name tree_call picometres_call channels_call refuse_if
    bad_summary and_then map_entries part same begins le_at or_refuse
    offset_of chunk_data named_tree empty_channel
astray_trees = record { tree = refl; size = refl; channels = refl }
