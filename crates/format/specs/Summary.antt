-- Document 01, The calls: the summary. It is what opening tells of a file: the loops, the sizes of a frame, where the map's data is, and the calibration.
use Rattle.std.specs.Prelude.{ℕ, ◌+◌, Bool, false, ◌||◌, List, [], ◌∷◌, ◌++◌, length, take, replicate, ltb, eqb}
use Rattle.format.specs.Bytes.{most64}
use Rattle.format.specs.Chunks.{data_in}
use Rattle.format.specs.Numbers.{zero_float}
use Rattle.format.specs.Attributes.{bad_shape, bad_bits, plane_bytes}
use Rattle.format.specs.Loops.{most_count, has_axis}
use Rattle.format.specs.declared.Range.{Range}
use Rattle.format.specs.declared.Attributes.{Attributes}
use Rattle.format.specs.declared.Calibration.{Calibration}
use Rattle.format.specs.declared.Axis.TheVariants.{T}
use Rattle.format.specs.declared.Loop.{Loop}
use Rattle.format.specs.declared.Summary.{Summary}

-- ---- made

abbrev pub no_loop : Loop
no_loop = record { axis = T; count = 0 }

-- at most three loops, in three places
abbrev pub in_three : List Loop → List Loop
in_three ls = take 3 (ls ++ replicate 3 no_loop)

-- the summary of a map's data, attributes, loops and calibration
unfoldable pub summary_of : Range → Attributes → List Loop → Calibration → Summary
summary_of m a ls c =
    record {
      loops = in_three ls;
      depth = length ls;
      width = a.width;
      stride = a.stride;
      height = a.height;
      components = a.components;
      bits = a.bits;
      map = m;
      calibration = c.state;
      x = c.size;
      y = c.size;
      class = c.class;
      z = c.z;
    }

-- the summary of a refused opening
unfoldable pub zero_summary : Summary
zero_summary =
    record {
      loops = no_loop ∷ no_loop ∷ no_loop ∷ [];
      depth = 0;
      width = 0;
      stride = 0;
      height = 0;
      components = 0;
      bits = 0;
      map = record { start = 0; len = 0 };
      calibration = 0;
      x = zero_float;
      y = zero_float;
      class = 0;
      z = zero_float;
    }

-- ---- taken apart

abbrev pub shape_of : Summary → Attributes
shape_of u =
    record {
      width = u.width;
      stride = u.stride;
      height = u.height;
      components = u.components;
      bits = u.bits;
    }

-- the loops that are used, outermost first
abbrev pub loops_of : Summary → List Loop
loops_of u = take u.depth u.loops

-- the map's data
abbrev pub map_of : List ℕ → Summary → List ℕ
map_of s u = data_in s u.map

-- ---- 20

-- a loop has the count 0 or one that is too large, or a later one has its axis
unfoldable pub bad_loops : List Loop → Bool
unfolding has_axis
bad_loops [] = false
bad_loops (l ∷ ls) = eqb l.count 0 || ltb most_count l.count || has_axis l.axis ls || bad_loops ls

-- 20: the sizes are such as 13 or 14 refuses, the bytes of a plane too; more than three loops are used, or a bad one; or the map reaches past the file's end
unfoldable pub bad_summary : List ℕ → Summary → Bool
unfolding bad_loops bad_shape bad_bits
bad_summary s u =
    bad_bits u.bits || bad_shape (shape_of u) || ltb most64 (plane_bytes (shape_of u)) || ltb 3 u.depth || bad_loops (loops_of u)
    || ltb (length s) (u.map.start + u.map.len)
