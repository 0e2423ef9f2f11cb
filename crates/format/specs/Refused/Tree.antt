-- The tree call: 20, 5, 11, the chunk, the tree. The chunk has 4 before 29 and behind it (change request 6); so by stages. Of a tree's own refusals 18 comes
-- before a later fault, and of the others a tree has at most one.
use Rattle.std.specs.Prelude.{ℕ, ◌+◌, ◌*◌, ◌%◌, ◌^◌, ◌≤◌, ◌<◌, ◌≡◌, List, [], ◌∷◌, ◌++◌, map as each, length, get_or}
use Rattle.std.proofs.Math.Option.{some}
use Rattle.std.proofs.Math.ListN.{get_elem?}
use Rattle.format.specs.Bytes.{le_at}
use Rattle.format.specs.Map.{MapEntry}
use Rattle.format.specs.Summary.{map_of}
use Rattle.format.specs.Grammar.Chunks.{Chunk}
use Rattle.format.specs.Grammar.Map.{MapOf, Listed}
use Rattle.format.specs.Grammar.Trees.{Faulty, PassedIn}
use Rattle.format.specs.Refused.Summary.{Sound}
use Rattle.format.specs.Refused.Chunk.{ChunkStage, chunk_order, ChunkRefusal}
use Rattle.format.specs.Refusals as why
use Rattle.format.specs.declared.Range.{Range}
use Rattle.format.specs.declared.Entry.{Entry}
use Rattle.format.specs.declared.Summary.{Summary}

-- the map of the summary u has the name at the offset o
pub record NameEntry (s : List ℕ) (u : Summary) (name : List ℕ) (o : ℕ) : Type 0 where
  pub entries : List MapEntry
  pub map_of_is : MapOf (map_of s u) entries
  pub listed : Listed (map_of s u) name entries o

-- the chunk there bears that name, and has the data r
pub record NameData (s : List ℕ) (u : Summary) (name : List ℕ) (r : Range) : Type 0 where
  pub offset : ℕ
  pub entry : NameEntry s u name offset
  pub chunk : Chunk name s offset r

-- 18: more than `room` records of the tree under this name pass
pub record TableShort (s : List ℕ) (u : Summary) (name : List ℕ) (room : ℕ) : Type 0 where
  pub place : Range
  pub chunk : NameData s u name place
  pub count : ℕ
  pub passed : PassedIn s place count
  pub too_many : room < count

pub data TreeStage : Type 0 where
  summary : TreeStage
  map : TreeStage
  entry : TreeStage
  chunk : ChunkStage → TreeStage
  table : TreeStage
  fault : TreeStage

abbrev pub tree_order : List TreeStage
tree_order = summary ∷ map ∷ entry ∷ each chunk chunk_order ++ table ∷ fault ∷ []

-- when each stage refuses; the table has `room` whole entries
pub data TreeRefusal (s : List ℕ) (u : Summary) (name : List ℕ) (room : ℕ) : TreeStage → ℕ → Type 0 where
  unsound : (Sound s u → ⊥) → TreeRefusal s u name room summary why.summary
  no_map : ((es : List MapEntry) → MapOf (map_of s u) es → ⊥) → TreeRefusal s u name room map why.map
  no_entry : ((o : ℕ) → NameEntry s u name o → ⊥) → TreeRefusal s u name room entry why.missing
  no_chunk : {o n : ℕ} {a : ChunkStage} → NameEntry s u name o → ChunkRefusal name s o a n → TreeRefusal s u name room (chunk a) n
  table_short : TableShort s u name room → TreeRefusal s u name room table why.table
  tree_fault : {r : Range} {n : ℕ} → NameData s u name r → Faulty s r n → TreeRefusal s u name room fault n

-- The entry e stands in the table from i on, each of its six numbers in eight bytes. No file has 2^64 bytes, so that the remainder is the number itself.
pub record EntryAt (table : List ℕ) (i : ℕ) (e : Entry) : Type 0 where
  pub kind : le_at 8 table i ≡ e.kind % 2 ^ 64
  pub name : le_at 8 table (i + 8) ≡ e.name % 2 ^ 64
  pub units : le_at 8 table (i + 16) ≡ e.units % 2 ^ 64
  pub value : le_at 8 table (i + 24) ≡ e.value % 2 ^ 64
  pub size : le_at 8 table (i + 32) ≡ e.size % 2 ^ 64
  pub parent : le_at 8 table (i + 40) ≡ e.parent % 2 ^ 64

-- `out` is what an accepted tree of the entries es leaves in a table of n bytes: these in file order, and zeros behind them
pub record Tabled (es : List Entry) (n : ℕ) (out : List ℕ) : Type 0 where
  pub entry : (k : ℕ) (e : Entry) → get_elem? es k ≡ some e → EntryAt out (48 * k) e
  pub fits : 48 * length es ≤ n
  pub rest_zero : (i : ℕ) → 48 * length es ≤ i → get_or out i 0 ≡ 0
  pub bytes : (i : ℕ) → get_or out i 0 < 256
  pub length_kept : length out ≡ n
