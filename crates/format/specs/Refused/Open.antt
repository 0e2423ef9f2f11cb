-- Opening, by stages, since 4, 11, 14, 15, 18, 29 and a tree's faults come more than once: when each of them refuses, and with which number. Of the
-- calibration, which is read last, only a full table refuses. s is the file, and the table has `room` whole entries.
use Rattle.std.specs.Prelude.{ℕ, ◌-◌, ◌≤◌, ◌<◌, ◌≡◌, List, [], ◌∷◌, ◌++◌, map as each, reverse, length, pos}
use Rattle.format.specs.Bytes.{le_at, part, ascii, most64}
use Rattle.format.specs.Chunks.{chunk_mark, data_in}
use Rattle.format.specs.Map.{MapEntry, end_mark, map_name}
use Rattle.format.specs.Values.{level}
use Rattle.format.specs.Attributes.{plane_bytes}
use Rattle.format.specs.Loops.{Built}
use Rattle.format.specs.Grammar.Chunks.{Chunk}
use Rattle.format.specs.Grammar.Map.{MapOf, Listed, Mapped, Named}
use Rattle.format.specs.Grammar.Trees.{Tree, Faulty, PassedIn}
use Rattle.format.specs.Grammar.Values.{Field}
use Rattle.format.specs.Grammar.Numbers.{Signed}
use Rattle.format.specs.Grammar.Attributes.{Bits, Shape, Sized}
use Rattle.format.specs.Grammar.Loops.{Walks}
use Rattle.format.specs.Refused.Chunk.{ChunkStage, chunk_order, ChunkRefusal}
use Rattle.format.specs.Refused.Loops.{WalkFaults, Misjudged}
use Rattle.format.specs.Refusals as why
use Rattle.format.specs.declared.Range.{Range}
use Rattle.format.specs.declared.Entry.{Entry}
use Rattle.format.specs.declared.Attributes.{Attributes}

-- ---- the stages

-- the two chunks without which no file opens, and the name of each in the map
pub data Needed : Type 0 where
  attributes : Needed
  experiment : Needed

abbrev pub needed : Needed → List ℕ
unfolding ascii
needed attributes = ascii "ImageAttributesLV!"
needed experiment = ascii "ImageMetadataLV!"

pub data Stage : Type 0 where
  first_mark : Stage
  tail : Stage
  map_chunk : Stage
  map : Stage
  entry : Needed → Stage
  chunk : Needed → ChunkStage → Stage
  table : Needed → Stage
  fault : Needed → Stage
  sizes : Stage
  compression : Stage
  bits : Stage
  shape : Stage
  experiment_level : Stage
  walk : Stage
  judged : Stage
  plane : Stage
  calibration : Stage

-- The order for opening (document 01, Why a file is turned away), and last the calibration's 18. Of a tree's own refusals 18 comes before a later fault.
abbrev pub open_order : List Stage
open_order =
    first_mark ∷ tail ∷ map_chunk ∷ map
    ∷ entry attributes ∷ each (chunk attributes) chunk_order ++ table attributes ∷ fault attributes ∷ sizes ∷ compression ∷ bits ∷ shape
    ∷ entry experiment ∷ each (chunk experiment) chunk_order ++ table experiment ∷ fault experiment ∷ experiment_level ∷ walk ∷ judged
    ∷ plane ∷ calibration ∷ []

-- ---- what is there, stage by stage

-- the map chunk has the data r
abbrev pub MapChunk : List ℕ → Range → Type 0
MapChunk s r = Chunk map_name s (le_at 8 s (length s - 8)) r

-- the chunk that the map has under this name has the data r
pub record ChunkAt (s name : List ℕ) (r : Range) : Type 0 where
  pub map_place : Range
  pub map_entries_is : List MapEntry
  pub mapped : Mapped s map_place map_entries_is
  pub named : Named s (data_in s map_place) map_entries_is name r

-- and that data is a tree with these entries
pub record TreeAt (s name : List ℕ) (es : List Entry) : Type 0 where
  pub place : Range
  pub chunk : ChunkAt s name place
  pub formed : Tree s place es

-- row 18: more than `room` records of the tree in that chunk pass
pub record TooMany (s name : List ℕ) (room : ℕ) : Type 0 where
  pub place : Range
  pub chunk : ChunkAt s name place
  pub count : ℕ
  pub passed : PassedIn s place count
  pub too_many : room < count

-- the attributes' tree es states the sizes and bits a in its level i
pub record SizesAt (s : List ℕ) (es : List Entry) (i : ℕ) (a : Attributes) : Type 0 where
  pub tree : TreeAt s (needed attributes) es
  pub sized : Sized s es i a

-- the experiment's tree es has the level i
pub record ExperimentAt (s : List ℕ) (es : List Entry) (i : ℕ) : Type 0 where
  pub tree : TreeAt s (needed experiment) es
  pub there : Field s es 0 (ascii "SLxExperiment") (level i)

-- ---- when each stage refuses, and with which number

pub data OpenRefusal (s : List ℕ) (room : ℕ) : Stage → ℕ → Type 0 where
  -- rows 1 and 2: the first four bytes
  no_mark : length s < 4 → OpenRefusal s room first_mark why.foreign
  old_mark : 4 ≤ length s → le_at 4 s 0 ≡ 0x0C000000 → OpenRefusal s room first_mark why.legacy
  other_mark : 4 ≤ length s → (le_at 4 s 0 ≡ 0x0C000000 → ⊥) → (le_at 4 s 0 ≡ chunk_mark → ⊥) → OpenRefusal s room first_mark why.foreign
  -- row 3: the last forty bytes
  no_tail : length s < 40 → OpenRefusal s room tail why.tail
  wrong_tail : 40 ≤ length s → (part s (length s - 40) 32 ≡ end_mark → ⊥) → OpenRefusal s room tail why.tail
  -- the map chunk breaks a chunk's rule, or its data the map's
  no_map_chunk : ((r : Range) → MapChunk s r → ⊥) → OpenRefusal s room map_chunk why.chunk
  no_map : {r : Range} → MapChunk s r → ((es : List MapEntry) → MapOf (data_in s r) es → ⊥) → OpenRefusal s room map why.map
  -- a needed chunk: no entry in the map, no chunk of that name there, more records than the table has entries, a fault of its tree
  no_entry : {w : Needed} {r : Range} {es : List MapEntry} → Mapped s r es → ((o : ℕ) → Listed (data_in s r) (needed w) es o → ⊥)
      → OpenRefusal s room (entry w) why.missing
  no_chunk : {w : Needed} {r : Range} {es : List MapEntry} {o : ℕ} {a : ChunkStage} {n : ℕ} → Mapped s r es → Listed (data_in s r) (needed w) es o
      → ChunkRefusal (needed w) s o a n → OpenRefusal s room (chunk w a) n
  table_short : {w : Needed} → TooMany s (needed w) room → OpenRefusal s room (table w) why.table
  tree_fault : {w : Needed} {r : Range} {n : ℕ} → ChunkAt s (needed w) r → Faulty s r n → OpenRefusal s room (fault w) n
  -- the attributes: no level or one of its five numbers absent, eCompression, bits, shape
  no_sizes : {es : List Entry} → TreeAt s (needed attributes) es → ((i : ℕ) (a : Attributes) → Sized s es i a → ⊥)
      → OpenRefusal s room sizes why.missing
  compressed : {es : List Entry} {i : ℕ} {a : Attributes} → SizesAt s es i a → (Signed s es i (ascii "eCompression") (pos 2) → ⊥)
      → OpenRefusal s room compression why.compression
  wrong_bits : {es : List Entry} {i : ℕ} {a : Attributes} → SizesAt s es i a → (Bits a.bits → ⊥) → OpenRefusal s room bits why.bits
  wrong_shape : {es : List Entry} {i : ℕ} {a : Attributes} → SizesAt s es i a → (Shape a → ⊥) → OpenRefusal s room shape why.frame_shape
  -- the experiment: no level, a loop refused in the walk, an appended loop refused after it
  no_level : {es : List Entry} → TreeAt s (needed experiment) es → ((i : ℕ) → Field s es 0 (ascii "SLxExperiment") (level i) → ⊥)
      → OpenRefusal s room experiment_level why.missing
  walk_fault : {es : List Entry} {i n : ℕ} → ExperimentAt s es i → WalkFaults s es (i ∷ []) n → OpenRefusal s room walk n
  misjudged : {es : List Entry} {i n : ℕ} {bs : List Built} → ExperimentAt s es i → Walks s es (i ∷ []) 0 [] bs → Misjudged [] (reverse bs) n
      → OpenRefusal s room judged n
  -- row 14 again: the bytes of a plane, judged after the loops
  plane_over : {es : List Entry} {i : ℕ} {a : Attributes} → SizesAt s es i a → most64 < plane_bytes a → OpenRefusal s room plane why.frame_shape
  -- of the calibration's chunk or tree no other fault refuses the file
  calibration_short : TooMany s (ascii "ImageCalibrationLV|0!") room → OpenRefusal s room calibration why.table
