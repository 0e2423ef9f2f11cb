-- Change request 6: the refusals of a chunk that the map has under a name, by stages, since 4 comes before 29 and behind it.
use Rattle.std.specs.Prelude.{ℕ, List, [], ◌∷◌}
use Rattle.format.specs.Grammar.Chunks.{Begins, Headed, own_name_at, DataWithin}
use Rattle.format.specs.Refusals as why

pub data ChunkStage : Type 0 where
  head : ChunkStage
  own_name : ChunkStage
  body : ChunkStage

-- header, mark and name; whether it is that name; data
abbrev pub chunk_order : List ChunkStage
chunk_order = head ∷ own_name ∷ body ∷ []

-- the chunk at o has header and name in the file, and that name does not begin with `name`
pub record Misnamed (name s : List ℕ) (o : ℕ) : Type 0 where
  pub headed : Headed s o
  pub another : Begins name (own_name_at s o) → ⊥

-- when each stage refuses the chunk at the offset o, which the map has under `name`
pub data ChunkRefusal (name s : List ℕ) (o : ℕ) : ChunkStage → ℕ → Type 0 where
  no_head : (Headed s o → ⊥) → ChunkRefusal name s o head why.chunk
  misnamed : Misnamed name s o → ChunkRefusal name s o own_name why.chunk_name
  no_data : Headed s o → (DataWithin s o → ⊥) → ChunkRefusal name s o body why.chunk
