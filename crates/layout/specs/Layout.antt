-- Summaries and channel records as lent bytes, little-endian: what include/nd2.h declares.
use Rattle.std.specs.Prelude.{ℕ, ◌+◌, ◌*◌, Bool, cond, ◌&&◌, ◌||◌, List, [], ◌∷◌, ◌++◌, length, get_or, eqb, leb, ltb, Float}
use Rattle.std.specs.Prelude as std
use Rattle.std.proofs.Math.Option.{Option, none, some}
use Rattle.std.specs.Float.{binary32}
use Rattle.std.specs.Float.Ieee.{of_bits, to_bits}
use Rattle.format.specs.Bytes.{le_at, le_bytes, zeros, each}
use Rattle.format.specs.Loops.{axis_number}
use Rattle.format.specs.Summary.{no_loop}
use Rattle.format.specs.declared.Axis.{Axis}
use Rattle.format.specs.declared.Axis.TheVariants.{T, Z, P}
use Rattle.format.specs.declared.Loop.{Loop}
use Rattle.format.specs.declared.Summary.{Summary}
use Rattle.format.specs.declared.Channel.{Channel}
use Rattle.format.specs.Given.{maybe}

-- ---- a summary: 144 bytes

-- word i, of eight bytes
abbrev pub word : List ℕ → ℕ → ℕ
word b i = le_at 8 b (8 * i)

-- the f32 whose pattern stands at a position
abbrev pub single : List ℕ → ℕ → Float
single b at = of_bits binary32 (le_at 4 b at)

-- an axis: 0 is T, 1 Z, 2 P
unfoldable pub axis_from : ℕ → Axis
axis_from n = cond (eqb n 0) T (cond (eqb n 1) Z P)

-- loop i: its axis, its count
unfoldable pub loop_from : List ℕ → ℕ → Loop
unfolding axis_from
loop_from b i = record { axis = axis_from (word b (2 * i)); count = word b (2 * i + 1) }

-- what the bytes say, where they are of the layout
unfoldable pub summary_in : List ℕ → Summary
unfolding loop_from
summary_in b =
    record {
      loops = loop_from b 0 ∷ loop_from b 1 ∷ loop_from b 2 ∷ [];
      depth = word b 6;
      width = word b 7;
      stride = word b 8;
      height = word b 9;
      components = word b 10;
      bits = word b 11;
      map = record { start = word b 12; len = word b 13 };
      calibration = word b 14;
      class = word b 15;
      x = single b 128;
      y = single b 132;
      z = single b 136;
    }

-- the first sixteen words of a summary
abbrev pub words_of : Summary → List ℕ
words_of u =
    let l : ℕ → Loop = λ i. get_or u.loops i no_loop in
    axis_number (l 0).axis ∷ (l 0).count ∷ axis_number (l 1).axis ∷ (l 1).count ∷ axis_number (l 2).axis ∷ (l 2).count ∷ u.depth
    ∷ u.width ∷ u.stride ∷ u.height ∷ u.components ∷ u.bits ∷ u.map.start ∷ u.map.len ∷ u.calibration ∷ u.class ∷ []

-- the four bytes of an f32's pattern
abbrev pub single_bytes : Float → List ℕ
single_bytes x = le_bytes 4 (to_bits binary32 x)

-- the bytes of a summary: sixteen words, the patterns of x, y and z, and four bytes of zero
unfoldable pub summary_bytes : Summary → List ℕ
summary_bytes u = each (le_bytes 8) (words_of u) ++ single_bytes u.x ++ single_bytes u.y ++ single_bytes u.z ++ zeros 4

-- place i of the loops is not used, since no more than i are, or its axis is 0, 1 or 2
abbrev pub axis_said : List ℕ → ℕ → Bool
axis_said b i = leb (word b 6) i || ltb (word b (2 * i)) 3

-- 144 bytes, axes that are 0, 1 or 2 in the places that are used, and four bytes of zero at the end
unfoldable pub of_layout : List ℕ → Bool
of_layout b = eqb (length b) 144 && (axis_said b 0 && axis_said b 1 && axis_said b 2 && eqb (le_at 4 b 140) 0)

-- the summary that the bytes say, if they are of the layout
unfoldable pub summary_from : List ℕ → Option Summary
unfolding of_layout summary_in
summary_from b = cond (of_layout b) (some (summary_in b)) none

-- the answer of `summary_from`
abbrev pub laid_of : std.Option Summary → Option Summary
laid_of r = maybe r

-- ---- a channel record: 56 bytes, seven words

unfoldable pub channel_bytes : Channel → List ℕ
channel_bytes c =
    le_bytes 8 c.named ++ le_bytes 8 c.name ++ le_bytes 8 c.units ++ le_bytes 8 c.colored ++ le_bytes 8 c.red ++ le_bytes 8 c.green
    ++ le_bytes 8 c.blue

abbrev pub channel_row_bytes : List Channel → List ℕ
channel_row_bytes = each channel_bytes
