-- Document 01, Map and chunks: the locator in the last 40 bytes, the map's entries, and the chunk that the map has under a name.
use Rattle.std.specs.Prelude.{ℕ, zero, suc, ◌+◌, ◌-◌, Bool, true, false, not, cond, List, [], ◌∷◌, length, drop, ltb, eqb}
use Rattle.std.proofs.Math.Option.{Option, none, some, or_else}
use Rattle.format.specs.Bytes.{le_at, part, ascii, same}
use Rattle.format.specs.Answer.{Answer, given, refused, refuse_if, and_then, or_refuse}
use Rattle.format.specs.Refusals as why
use Rattle.format.specs.Chunks.{chunk_mark, chunk_data}
use Rattle.format.specs.declared.Range.{Range}

-- the locator's mark, and the end mark's name
unfoldable pub end_mark : List ℕ
unfolding ascii
end_mark = ascii "ND2 CHUNK MAP SIGNATURE 0000001!"

unfoldable pub map_name : List ℕ
unfolding ascii
map_name = ascii "ND2 FILEMAP SIGNATURE NAME 0001!"

-- ---- the locator

-- The map's data: 1 or 2, 3, 4. The locator is 32 bytes of mark and 8 of offset, where the map's chunk begins.
unfoldable pub map_range : List ℕ → Answer Range
unfolding end_mark map_name
map_range s =
    let n = length s in
    refuse_if (ltb n 4) why.foreign
    (refuse_if (eqb (le_at 4 s 0) 0x0C000000) why.legacy
    (refuse_if (not (eqb (le_at 4 s 0) chunk_mark)) why.foreign
    (refuse_if (ltb n 40) why.tail
    (refuse_if (not (same (part s (n - 40) 32) end_mark)) why.tail
    (chunk_data why.chunk map_name s (le_at 8 s (n - 8)))))))

-- ---- the entries

-- the most entries that a map may have
abbrev pub most_entries : ℕ
most_entries = 2_000_000

-- one entry: where its name stands in the map's data, the name's length with its '!', and the two numbers after it
pub record MapEntry : Type 0 where
  pub name_at : ℕ
  pub name_len : ℕ
  pub offset : ℕ
  pub size : ℕ

unfoldable pub through : Bool → Option ℕ → Option ℕ
through true r = some 1
through false none = none
through false (some n) = some (suc n)

-- how many bytes a list has up to its first '!' and with it
unfoldable pub through_mark : List ℕ → Option ℕ
unfolding through
through_mark [] = none
through_mark (b ∷ s) = through (eqb b 33) (through_mark s)

unfoldable pub prepend : MapEntry → List MapEntry → Answer (List MapEntry)
prepend e es = given (e ∷ es)

-- What stands at position `at` of the map's data m, with n bytes through the next '!': the end mark, or an entry and what `more` finds
-- after it. There is no `more` where as many entries as the limit allows have come, and a repeated name counts each time.
unfoldable pub entry_then : Option (ℕ → Answer (List MapEntry)) → List ℕ → ℕ → ℕ → Bool → Answer (List MapEntry)
unfolding prepend
entry_then more m at n true = given []
entry_then none m at n false = refused why.map
entry_then (some more) m at n false =
    refuse_if (ltb (length m) (at + n + 16)) why.map
    (and_then (more (at + n + 16)) (prepend (record { name_at = at; name_len = n; offset = le_at 8 m (at + n); size = le_at 8 m (at + n + 8) })))

unfoldable pub map_step : Option (ℕ → Answer (List MapEntry)) → List ℕ → ℕ → Option ℕ → Answer (List MapEntry)
unfolding entry_then
map_step more m at none = refused why.map
map_step more m at (some n) = entry_then more m at n (same (part m at n) end_mark)

-- the entries from position `at` on, of which there may be `room`
unfoldable pub map_from : ℕ → List ℕ → ℕ → Answer (List MapEntry)
unfolding map_step through_mark
map_from zero m at = map_step none m at (through_mark (drop at m))
map_from (suc room) m at = map_step (some (map_from room m)) m at (through_mark (drop at m))

-- the entries in order, up to the end mark, or 5
unfoldable pub map_entries : List ℕ → Answer (List MapEntry)
unfolding map_from
map_entries m = map_from most_entries m 0

-- ---- a name

-- the offset of the furthest entry down that has the name; no entry's size is looked at
unfoldable pub offset_of : List ℕ → List ℕ → List MapEntry → Option ℕ
unfolding or_else
offset_of m name [] = none
offset_of m name (e ∷ es) = or_else (offset_of m name es) (cond (same (part m e.name_at e.name_len) name) (some e.offset) none)

-- the chunk that the map m has under a name, which it has to bear itself: 11, 4, 29, 4
unfoldable pub named_chunk : List ℕ → List ℕ → List MapEntry → List ℕ → Answer Range
named_chunk s m es name = and_then (or_refuse (offset_of m name es) why.missing) (chunk_data why.chunk_name name s)
