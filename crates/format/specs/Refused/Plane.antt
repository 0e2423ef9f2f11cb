-- The plane call: 20, 21, 22, 5, 23, the chunk, 24, 25. The chunk has 4 before 29 and behind it (change request 6); so by stages.
use Rattle.std.specs.Prelude.{ℕ, ◌+◌, ◌-◌, ◌*◌, ◌≤◌, ◌<◌, ◌≡◌, List, [], ◌∷◌, ◌++◌, map as each, length, get_or}
use Rattle.format.specs.Bytes.{most64}
use Rattle.format.specs.Map.{MapEntry}
use Rattle.format.specs.Attributes.{sample_bytes, plane_bytes}
use Rattle.format.specs.Frames.{count_of, seq_index}
use Rattle.format.specs.Summary.{shape_of, loops_of, map_of}
use Rattle.format.specs.Grammar.Chunks.{Chunk}
use Rattle.format.specs.Grammar.Map.{MapOf, Listed}
use Rattle.format.specs.Grammar.Frames.{FrameName}
use Rattle.format.specs.Refused.Summary.{Sound}
use Rattle.format.specs.Refused.Chunk.{ChunkStage, chunk_order, ChunkRefusal}
use Rattle.format.specs.Refusals as why
use Rattle.format.specs.declared.Range.{Range}
use Rattle.format.specs.declared.Axis.TheVariants.{T, Z, P}
use Rattle.format.specs.declared.Loop.{Loop}
use Rattle.format.specs.declared.Summary.{Summary}

-- each index is below its axis's count, which is 1 where no loop runs over it
pub record Within (ls : List Loop) (scene t z : ℕ) : Type 0 where
  pub scene_below : scene < count_of P ls
  pub t_below : t < count_of T ls
  pub z_below : z < count_of Z ls

-- the map of the summary u has frame n at the offset o: its last entry of that name
pub record FrameEntry (s : List ℕ) (u : Summary) (n o : ℕ) : Type 0 where
  pub entries : List MapEntry
  pub map_of_is : MapOf (map_of s u) entries
  pub name : List ℕ
  pub name_of : FrameName n name
  pub listed : Listed (map_of s u) name entries o

-- the chunk there bears the frame's name, and has the data r
pub record FrameData (s : List ℕ) (u : Summary) (n : ℕ) (r : Range) : Type 0 where
  pub offset : ℕ
  pub entry : FrameEntry s u n offset
  pub chunk : Chunk entry.name s offset r

-- the data is long enough: 8 bytes, and behind them stride × height, which fits in 64 bits
pub record FrameLong (u : Summary) (r : Range) : Type 0 where
  pub prefix : 8 ≤ r.len
  pub product : u.stride * u.height ≤ most64
  pub rows : u.stride * u.height ≤ r.len - 8

-- ---- the frame of a point, whatever its samples are for

pub data FrameStage : Type 0 where
  summary : FrameStage
  index : FrameStage
  ceiling : FrameStage
  map : FrameStage
  entry : FrameStage
  chunk : ChunkStage → FrameStage
  rows : FrameStage

abbrev pub frame_order : List FrameStage
frame_order = summary ∷ index ∷ ceiling ∷ map ∷ entry ∷ each chunk chunk_order ++ rows ∷ []

-- when each stage refuses
pub data FrameRefusal (s : List ℕ) (u : Summary) (scene t c z : ℕ) : FrameStage → ℕ → Type 0 where
  unsound : (Sound s u → ⊥) → FrameRefusal s u scene t c z summary why.summary
  out_of_range : (Within (loops_of u) scene t z → c < u.components → ⊥) → FrameRefusal s u scene t c z index why.index
  too_large : 4_294_967_296 < plane_bytes (shape_of u) → FrameRefusal s u scene t c z ceiling why.ceiling
  no_map : ((es : List MapEntry) → MapOf (map_of s u) es → ⊥) → FrameRefusal s u scene t c z map why.map
  no_frame_is : ((o : ℕ) → FrameEntry s u (seq_index (loops_of u) scene t z) o → ⊥) → FrameRefusal s u scene t c z entry why.no_frame
  no_chunk : {o n : ℕ} {a : ChunkStage} (e : FrameEntry s u (seq_index (loops_of u) scene t z) o) → ChunkRefusal e.name s o a n
      → FrameRefusal s u scene t c z (chunk a) n
  frame_short_is : {r : Range} → FrameData s u (seq_index (loops_of u) scene t z) r → (FrameLong u r → ⊥) → FrameRefusal s u scene t c z rows why.frame_short

-- ---- the plane

pub data PlaneStage : Type 0 where
  frame : FrameStage → PlaneStage
  buffer : PlaneStage

abbrev pub plane_order : List PlaneStage
plane_order = each frame frame_order ++ buffer ∷ []

-- when each stage refuses; buf is the buffer that is lent for the samples
pub data PlaneRefusal (s : List ℕ) (u : Summary) (scene t c z : ℕ) (buf : List ℕ) : PlaneStage → ℕ → Type 0 where
  frame_refused : {a : FrameStage} {n : ℕ} → FrameRefusal s u scene t c z a n → PlaneRefusal s u scene t c z buf (frame a) n
  buffer_short : length buf < plane_bytes (shape_of u) → PlaneRefusal s u scene t c z buf buffer why.buffer

-- `out` is what an accepted plane of component c leaves in `buf`; chunk is the data of the frame's chunk. Of each sample (x, y), row after row, `out` has the
-- bytes that it has in that data, where 8 bytes come first and each row has stride bytes; the bytes behind the samples are as they were.
pub record Copied (u : Summary) (c : ℕ) (chunk buf out : List ℕ) : Type 0 where
  pub sample : (y x k : ℕ) → y < u.height → x < u.width → k < sample_bytes u.bits
      → get_or out ((y * u.width + x) * sample_bytes u.bits + k) 0
      ≡ get_or chunk (8 + y * u.stride + (x * u.components + c) * sample_bytes u.bits + k) 0
  pub later : (i : ℕ) → u.width * u.height * sample_bytes u.bits ≤ i → get_or out i 0 ≡ get_or buf i 0
  pub length_kept : length out ≡ length buf
