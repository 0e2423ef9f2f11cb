-- Document 01, The grammar: the map, as rules.
use Rattle.std.specs.Prelude.{ℕ, suc, ◌+◌, ◌-◌, ◌≤◌, ◌<◌, ◌≡◌, List, [], ◌∷◌, length, get_or}
use Rattle.format.specs.Bytes.{le_at, part}
use Rattle.format.specs.declared.Range.{Range}
use Rattle.format.specs.Chunks.{chunk_mark, data_in}
use Rattle.format.specs.Map.{MapEntry, end_mark, map_name, most_entries}
use Rattle.format.specs.Grammar.Chunks.{Chunk}

-- a name begins at `at`: k bytes that are no '!', and a '!'
pub record Name (m : List ℕ) (at k : ℕ) : Type 0 where
  pub name_within : at + k < length m
  pub mark : get_or m (at + k) 0 ≡ 33
  pub none_before : (j : ℕ) → j < k → get_or m (at + j) 0 ≡ 33 → ⊥

-- the entries from position `at` of the map's data on, up to the end mark's name
pub data Entries (m : List ℕ) : ℕ → List MapEntry → Type 0 where
  ended : {at : ℕ} (k : ℕ) → Name m at k → part m at (suc k) ≡ end_mark → Entries m at []
  entry : {at : ℕ} (k : ℕ) {es : List MapEntry} → Name m at k → (part m at (suc k) ≡ end_mark → ⊥) → at + suc k + 16 ≤ length m → Entries m (at + suc k + 16) es
      → Entries m at (record { name_at = at; name_len = suc k; offset = le_at 8 m (at + suc k); size = le_at 8 m (at + suc k + 8) } ∷ es)

-- the map's data m has these entries, in order
pub record MapOf (m : List ℕ) (es : List MapEntry) : Type 0 where
  pub listed : Entries m 0 es
  pub not_too_many : length es ≤ most_entries

-- no entry of these has the name
pub data Unlisted (m name : List ℕ) : List MapEntry → Type 0 where
  nil : Unlisted m name []
  cons : {e : MapEntry} {es : List MapEntry} → (part m e.name_at e.name_len ≡ name → ⊥) → Unlisted m name es → Unlisted m name (e ∷ es)

-- the last entry of the name has this offset
pub data Listed (m name : List ℕ) : List MapEntry → ℕ → Type 0 where
  last : {e : MapEntry} {es : List MapEntry} → part m e.name_at e.name_len ≡ name → Unlisted m name es → Listed m name (e ∷ es) e.offset
  later : {e : MapEntry} {es : List MapEntry} {o : ℕ} → Listed m name es o → Listed m name (e ∷ es) o

-- the map of a file: first mark, locator, map chunk, entries
pub record Mapped (s : List ℕ) (r : Range) (es : List MapEntry) : Type 0 where
  pub first_mark : le_at 4 s 0 ≡ chunk_mark
  pub locator_within : 40 ≤ length s
  pub locator : part s (length s - 40) 32 ≡ end_mark
  pub map_chunk : Chunk map_name s (le_at 8 s (length s - 8)) r
  pub map_of_is : MapOf (data_in s r) es

-- the map m has a chunk under this name, which that chunk bears itself, and its data is r (change request 6)
pub record Named (s m : List ℕ) (es : List MapEntry) (name : List ℕ) (r : Range) : Type 0 where
  pub offset : ℕ
  pub listed : Listed m name es offset
  pub chunk : Chunk name s offset r
