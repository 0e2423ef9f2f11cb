-- Document 01, The grammar: chunks, as rules.
use Rattle.std.specs.Prelude.{ℕ, ◌+◌, ◌≤◌, ◌≡◌, List, ◌++◌, length}
use Rattle.format.specs.Bytes.{le_at, part}
use Rattle.format.specs.declared.Range.{Range}
use Rattle.format.specs.Chunks.{chunk_mark}

-- s begins with p
pub record Begins (p s : List ℕ) : Type 0 where
  pub rest : List ℕ
  pub joined : s ≡ p ++ rest

-- A chunk begins at `at`: its header of 16 bytes is there, with the mark, and so is the whole of its name.
pub record Headed (s : List ℕ) (at : ℕ) : Type 0 where
  pub header_within : at + 16 ≤ length s
  pub mark : le_at 4 s at ≡ chunk_mark
  pub name_within : at + 16 + le_at 4 s (at + 4) ≤ length s

-- the name that the chunk bears
abbrev pub own_name_at : List ℕ → ℕ → List ℕ
own_name_at s at = part s (at + 16) (le_at 4 s (at + 4))

-- its data lies in s, behind the name
abbrev pub DataWithin : List ℕ → ℕ → Type 0
DataWithin s at = at + 16 + le_at 4 s (at + 4) + le_at 8 s (at + 8) ≤ length s

-- A chunk begins at `at`: mark, lengths, name, data. Its name begins with `name`, and its data is the part r of s.
pub record Chunk (name s : List ℕ) (at : ℕ) (r : Range) : Type 0 where
  pub headed : Headed s at
  pub name_begins : Begins name (own_name_at s at)
  pub data_within : DataWithin s at
  pub data_start : r.start ≡ at + 16 + le_at 4 s (at + 4)
  pub data_len : r.len ≡ le_at 8 s (at + 8)
