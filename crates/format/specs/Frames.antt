-- Document 01, Loops: the numbers of frames, as loops one in another count them. With them the name of a frame's chunk and the place of a sample in a frame.
use Rattle.std.specs.Prelude.{ℕ, zero, suc, ◌+◌, ◌*◌, ◌/◌, ◌%◌, cond, List, [], ◌∷◌, ◌++◌, ltb}
use Rattle.format.specs.Bytes.{ascii}
use Rattle.format.specs.Attributes.{sample_bytes}
use Rattle.format.specs.Loops.{same_axis}
use Rattle.format.specs.declared.Attributes.{Attributes}
use Rattle.format.specs.declared.Axis.{Axis}
use Rattle.format.specs.declared.Axis.TheVariants.{T, Z, P}
use Rattle.format.specs.declared.Loop.{Loop}

-- ---- numbers

-- the count of an axis: 1 where no loop runs over it
unfoldable pub count_of : Axis → List Loop → ℕ
count_of a [] = 1
count_of a (l ∷ ls) = cond (same_axis l.axis a) l.count (count_of a ls)

abbrev pub index_of : Axis → ℕ → ℕ → ℕ → ℕ
index_of T scene t z = t
index_of Z scene t z = z
index_of P scene t z = scene

unfoldable pub seq_from : ℕ → List Loop → ℕ → ℕ → ℕ → ℕ
seq_from n [] scene t z = n
seq_from n (l ∷ ls) scene t z = seq_from (n * l.count + index_of l.axis scene t z) ls scene t z

-- the frame number of (scene, t, z): 0 to begin with, then n × count + index for each loop, from the outside in
unfoldable pub seq_index : List Loop → ℕ → ℕ → ℕ → ℕ
unfolding seq_from
seq_index ls scene t z = seq_from 0 ls scene t z

-- how many frames the loops make
unfoldable pub frames : List Loop → ℕ
frames [] = 1
frames (l ∷ ls) = l.count * frames ls

-- the index that frame n has on an axis: 0 where no loop has it
unfoldable pub index_at : Axis → ℕ → List Loop → ℕ
unfolding frames
index_at a n [] = 0
index_at a n (l ∷ ls) = cond (same_axis l.axis a) (n / frames ls % l.count) (index_at a n ls)

-- ---- names

unfoldable pub digits_from : ℕ → ℕ → List ℕ → List ℕ
digits_from zero n r = r
digits_from (suc fuel) n r = cond (ltb n 10) ((48 + n) ∷ r) (digits_from fuel (n / 10) ((48 + n % 10) ∷ r))

-- n in decimal digits, of which a u64 has at most 20
unfoldable pub decimal : ℕ → List ℕ
unfolding digits_from
decimal n = digits_from 20 n []

-- the name of the chunk of frame n
unfoldable pub frame_name : ℕ → List ℕ
unfolding decimal ascii
frame_name n = ascii "ImageDataSeq|" ++ decimal n ++ ascii "!"

-- ---- samples

-- The place of sample (x, y) of component c in a file whose frame's data begins at `start`: behind 8 bytes, y rows, and the samples before it in its row.
abbrev pub sample_place : Attributes → ℕ → ℕ → ℕ → ℕ → ℕ
sample_place a start c y x = start + 8 + y * a.stride + (x * a.components + c) * sample_bytes a.bits
