-- Document 01, The calls: plane. It leaves the samples of one component at a point, row after row, each with the bytes of the file; later bytes are as before.
use Rattle.std.specs.Prelude.{ℕ, zero, suc, ◌-◌, ◌*◌, ◌/◌, ◌%◌, Bool, ◌||◌, List, [], ◌++◌, length, leb, ltb}
use Rattle.format.specs.Bytes.{part, over, most64}
use Rattle.format.specs.Answer.{Answer, given, refused, refuse_if, and_then, or_refuse}
use Rattle.format.specs.Refusals as why
use Rattle.format.specs.Chunks.{chunk_data}
use Rattle.format.specs.Map.{map_entries, offset_of}
use Rattle.format.specs.Attributes.{sample_bytes, plane_bytes}
use Rattle.format.specs.Frames.{count_of, seq_index, frame_name, sample_place}
use Rattle.format.specs.Summary.{shape_of, loops_of, map_of, bad_summary}
use Rattle.format.specs.declared.Range.{Range}
use Rattle.format.specs.declared.Attributes.{Attributes}
use Rattle.format.specs.declared.Axis.TheVariants.{T, Z, P}
use Rattle.format.specs.declared.Summary.{Summary}

-- the most bytes that a plane may have: past it 22
abbrev pub most_plane_bytes : ℕ
most_plane_bytes = 4_294_967_296

-- whether an index is out of range: 21
unfoldable pub bad_index : Summary → ℕ → ℕ → ℕ → ℕ → Bool
bad_index u scene t c z =
    let ls = loops_of u in
    leb (count_of P ls) scene || leb (count_of T ls) t || leb u.components c || leb (count_of Z ls) z

-- whether n bytes are too few for a frame: 24. It has 8 in front and stride × height behind them, a product that has to fit in 64 bits
unfoldable pub bad_frame : Summary → ℕ → Bool
bad_frame u n =
    let rows = u.stride * u.height in
    ltb n 8 || ltb most64 rows || ltb (n - 8) rows

-- the frame's data: 20, 21, 22, 5, 23, 4, 29, 4, 24
unfoldable pub frame_of : List ℕ → Summary → ℕ → ℕ → ℕ → ℕ → Answer Range
unfolding frame_name bad_index bad_frame
frame_of s u scene t c z =
    let name = frame_name (seq_index (loops_of u) scene t z) in
    refuse_if (bad_summary s u) why.summary
    (refuse_if (bad_index u scene t c z) why.index
    (refuse_if (ltb most_plane_bytes (plane_bytes (shape_of u))) why.ceiling
    (and_then (map_entries (map_of s u)) λ es.
    and_then (or_refuse (offset_of (map_of s u) name es) why.no_frame) λ o.
    and_then (chunk_data why.chunk_name name s o) λ r.
    refuse_if (bad_frame u r.len) why.frame_short
    (given r))))

-- the same, and 25: `room` is the length of the lent samples
unfoldable pub frame_for : List ℕ → Summary → ℕ → ℕ → ℕ → ℕ → ℕ → Answer Range
unfolding frame_of
frame_for s u scene t c z room =
    and_then (frame_of s u scene t c z) λ r. refuse_if (ltb room (plane_bytes (shape_of u))) why.buffer (given r)

-- n samples from sample j on, row by row, of component c of the frame whose data begins at `start`
unfoldable pub samples : ℕ → List ℕ → Attributes → ℕ → ℕ → ℕ → List ℕ
samples zero s a start c j = []
samples (suc n) s a start c j =
    part s (sample_place a start c (j / a.width) (j % a.width)) (sample_bytes a.bits) ++ samples n s a start c (suc j)

-- all samples of component c, row after row
unfoldable pub plane_samples : List ℕ → Summary → ℕ → Range → List ℕ
unfolding samples
plane_samples s u c r = samples (u.width * u.height) s (shape_of u) r.start c 0

-- a call's number, and what the buffer that was lent holds afterwards
pub record Outcome : Type 0 where
  pub number : ℕ
  pub buffer : List ℕ

-- a refused plane leaves the buffer as it was
unfoldable pub plane_by : List ℕ → Summary → ℕ → List ℕ → Answer Range → Outcome
unfolding over plane_samples
plane_by s u c buf (refused n) = record { number = n; buffer = buf }
plane_by s u c buf (given r) = record { number = 0; buffer = over (plane_samples s u c r) buf }

unfoldable pub plane_call : List ℕ → Summary → ℕ → ℕ → ℕ → ℕ → List ℕ → Outcome
unfolding frame_for plane_by
plane_call file u scene t c z samples = plane_by file u c samples (frame_for file u scene t c z (length samples))
