-- Files from their parts: records, levels, chunks, and a file with its map. What is shown of single files is shown of files that are built here.
use Rattle.std.specs.Prelude.{ℕ, zero, suc, ◌+◌, List, [], ◌∷◌, ◌++◌, length}
use Prim.Native.String.{String}
use Rattle.format.specs.Bytes.{ascii, le_bytes}
use Rattle.format.specs.Chunks.{chunk_mark}
use Rattle.format.specs.Map.{end_mark, map_name}

-- ---- records

-- ASCII characters as units, with a zero unit behind them
abbrev pub wide : List ℕ → List ℕ
wide [] = 0 ∷ 0 ∷ []
wide (c ∷ cs) = c ∷ 0 ∷ wide cs

-- a record of type k, with a name in ASCII, and its value
abbrev pub rec : ℕ → List ℕ → List ℕ → List ℕ
rec k name v = k ∷ suc (length name) ∷ wide name ++ v

abbrev pub flag : String → ℕ → List ℕ
unfolding ascii
flag name n = rec 1 (ascii name) (n ∷ [])

abbrev pub u32 : String → ℕ → List ℕ
unfolding ascii le_bytes
u32 name n = rec 3 (ascii name) (le_bytes 4 n)

abbrev pub u64 : String → ℕ → List ℕ
unfolding ascii le_bytes
u64 name n = rec 5 (ascii name) (le_bytes 8 n)

-- a double of these bits
abbrev pub f64 : String → ℕ → List ℕ
unfolding ascii le_bytes
f64 name bits = rec 6 (ascii name) (le_bytes 8 bits)

abbrev pub text : String → String → List ℕ
unfolding ascii
text name t = rec 8 (ascii name) (wide (ascii t))

-- n numbers of eight bytes, all zero
abbrev pub eights : ℕ → List ℕ
eights zero = []
eights (suc n) = 0 ∷ 0 ∷ 0 ∷ 0 ∷ 0 ∷ 0 ∷ 0 ∷ 0 ∷ eights n

-- a level of n records
abbrev pub level_of : ℕ → String → List ℕ → List ℕ
unfolding ascii le_bytes
level_of n name kids =
    let head = 11 ∷ suc (length (ascii name)) ∷ wide (ascii name) ++ le_bytes 4 n in
    head ++ le_bytes 8 (length head + 8 + length kids) ++ kids ++ eights n

-- ---- chunks

-- a chunk, the name that the map has for it, and the lengths that its header states
pub record NamedChunk : Type 0 where
  pub listed : List ℕ
  pub name : List ℕ
  pub content : List ℕ
  pub name_length : ℕ
  pub data_length : ℕ

-- one that the map has under another name than its own
abbrev pub astray : String → String → List ℕ → NamedChunk
unfolding ascii
astray listed name d =
    record { listed = ascii listed; name = ascii name; content = d; name_length = length (ascii name); data_length = length d }

abbrev pub chunk : String → List ℕ → NamedChunk
chunk name d = astray name name d

abbrev pub chunk_bytes : NamedChunk → List ℕ
unfolding le_bytes
chunk_bytes c = le_bytes 4 chunk_mark ++ le_bytes 4 c.name_length ++ le_bytes 8 c.data_length ++ c.name ++ c.content

abbrev pub chunks_bytes : List NamedChunk → List ℕ
chunks_bytes [] = []
chunks_bytes (c ∷ cs) = chunk_bytes c ++ chunks_bytes cs

-- the map's data, where the first of these chunks stands at `at`
abbrev pub map_bytes : ℕ → List NamedChunk → List ℕ
unfolding le_bytes end_mark
map_bytes at [] = end_mark
map_bytes at (c ∷ cs) = c.listed ++ le_bytes 8 at ++ le_bytes 8 (length c.content) ++ map_bytes (at + length (chunk_bytes c)) cs

-- these chunks, the map's chunk and the locator
abbrev pub file_of : List NamedChunk → List ℕ
unfolding le_bytes end_mark map_name
file_of cs =
    let body = chunks_bytes cs in
    let map = map_bytes 0 cs in
    body ++ chunk_bytes (record { listed = []; name = map_name; content = map; name_length = length map_name; data_length = length map }) ++ end_mark
    ++ le_bytes 8 (length body)
