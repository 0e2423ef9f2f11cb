-- A cursor over a chunk's slice, as the by-value cursor that it stands for.
use Rattle.std.specs.Prelude.{ℕ, ◌+◌, cond, List, length, get_or, ltb, Result, Ok, Err}
use Rattle.std.specs.Prelude as std
use Rattle.std.proofs.Math.Option.{Option, none, some}
use Rattle.format.specs.Given.{maybe}
use Rattle.format.specs.declared.refusal.Refusal.{Refusal}
use Rattle.cursor.specs.Words.{to}
use Rattle.cursor.specs.declared.Cursor.{Cursor}
use Rattle.chunk_cursor.specs.declared.ChunkCursor.{ChunkCursor}
use Rattle.chunk_cursor.specs.declared.Start.{Start}

-- the by-value cursor: the same place, and the slice's end
abbrev pub part_of : ChunkCursor → Cursor
part_of c = to c.at (length c.slice.now)

-- the place after what was read at a place
abbrev pub place_after : ℕ → Result (ℕ × Cursor) Refusal → ℕ
place_after a (Ok (x, d)) = d.at
place_after a (Err e) = a

-- ---- a record's first two bytes

-- what an answer is; where it is nothing, the level ends quietly
abbrev pub start_of : std.Option Start → Option Start
start_of s = maybe s

-- the two bytes at a place of a slice, and the cursor after them; none where so many are not left, which ends a level
unfoldable pub start_at : List ℕ → ℕ → Option Start
start_at s a = cond (ltb (length s) (a + 2)) none (some (record { kind = get_or s a 0; units = get_or s (a + 1) 0; name = to (a + 2) (length s) }))
