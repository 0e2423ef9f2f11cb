-- Document 01, The grammar: its rules, with none of the definitions that compute a reading. What the rules share with those is just this:
-- bytes: Bytes.{le_at, part, ascii, most64}, Text.units and Chunks.dataIn;
-- constants: Chunks.chunkMark, Map.{end_mark, map_name, most_entries}, Trees.{packed_type, most_items, most_depth}, Loops.mostCount,
-- Calibration.{least_step, most_step}, Numbers.{zero_float, oneFloat} and the refusals' numbers, Refusals;
-- sizes: Attributes.{least_row, plane_bytes}, and Summary.loopsOf, as many of a summary's places as are used;
-- doubles over lib.Ieee: Numbers.{float, narrow, magnitude};
-- types: Map.MapEntry, Values.Value, Loops.Built and those that src/ declares.
pub mod Lists
pub mod Chunks
pub mod Map
pub mod Trees
pub mod Text
pub mod Comparison
pub mod Values
pub mod Numbers
pub mod Attributes
pub mod Loops
pub mod Calibration
pub mod Channels
pub mod Frames
pub mod Sheets
pub mod Picometres
pub mod File
pub mod Table
