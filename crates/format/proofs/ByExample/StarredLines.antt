-- The starred lines of document 01 hold of the definitions. Assumes nothing.
use mathlib.Core.Path.{refl}
use lib.Ieee.{of_bits, of_int, div, sub}
use Rattle.format.specs.Bytes.{ascii, le_at, le_bytes, same}
use Rattle.format.specs.Text.{units, lossy}
use Rattle.format.specs.Answer.{refuse_if, and_then, or_refuse}
use Rattle.format.specs.Trees.{read, whole_tree}
use Rattle.format.specs.Values.{name_of, put_named, put_unnamed, value_at, slots_of, elements, field, slot_value, as_level, bind}
use Rattle.format.specs.Numbers.{unsigned, signed, below32, float, magnitude}
use Rattle.format.specs.Attributes.{attributes, bad_shape, bad_bits, uncompressed}
use Rattle.format.specs.Loops.{loop_params, or_zero, child_levels, experiment, append, said}
use Rattle.format.specs.Calibration.{z_step}
use Rattle.format.specs.Frames.{seq_index}
use Rattle.format.specs.Channels.{channel_of}
use Rattle.format.specs.Edges.{attributes_data, attributes_of, times_data, times_of, stack_data, step_of, plane_data, plane_of, u32_record, one_true, Starred}

pub starred : Starred
unfolding
    ascii le_bytes whole_tree attributes_of times_of step_of plane_of attributes_data times_data stack_data plane_data u32_record one_true seq_index attributes
    read channel_of z_step value_at field le_at units lossy bad_shape bad_bits uncompressed as_level bind unsigned signed below32 refuse_if and_then or_refuse
    float slot_value slots_of name_of put_named same of_bits put_unnamed elements loop_params or_zero div magnitude sub of_int child_levels experiment append
    said
starred = record {
  seq_times_first = refl;
  seq_scenes_first = refl;
  place = refl;
  row_12 = refl;
  row_11 = refl;
  record_u32 = refl;
  record_cut = refl;
  level_17 = refl;
  level_17_one = refl;
  level_17_unnamed = refl;
  level_17_end = refl;
  level_13 = refl;
  colour = refl;
  compression_2·9 = refl;
  compression_1·9 = refl;
  compression_2·0 = refl;
  type_1·5 = refl;
  type_1·0 = refl;
  step_11 = refl;
  step_1 = refl;
  attributes_whole = λ row bits. refl;
  plane_whole = λ n. refl;
  times_whole = λ bits. refl;
  stack_whole = λ n. refl;
}
