-- Document 01, Map and chunks: a chunk is a header of 16 bytes (the mark, the length of its name, the length of its data), then the name, then the data.
use Rattle.std.specs.Prelude.{ℕ, ◌+◌, not, List, length, ltb, eqb}
use Rattle.format.specs.Bytes.{le_at, part, begins}
use Rattle.format.specs.Answer.{Answer, given, refuse_if}
use Rattle.format.specs.Refusals as why
use Rattle.format.specs.declared.Range.{Range}

abbrev pub chunk_mark : ℕ
chunk_mark = 0x0ABECEDA

-- The data of the chunk whose header begins at `at`. Its name has to begin with `name`, and `misnamed` is the refusal where it does not: 4 for the map chunk,
-- and 29 for one that the map has under that name. The name has to lie in the file before it is compared, and the data is judged behind it.
unfoldable pub chunk_data : ℕ → List ℕ → List ℕ → ℕ → Answer Range
unfolding le_at part begins refuse_if
chunk_data misnamed name s at =
    let name_len = le_at 4 s (at + 4) in
    let dataLen = le_at 8 s (at + 8) in
    refuse_if (ltb (length s) (at + 16)) why.chunk
    (refuse_if (not (eqb (le_at 4 s at) chunk_mark)) why.chunk
    (refuse_if (ltb (length s) (at + 16 + name_len)) why.chunk
    (refuse_if (not (begins name (part s (at + 16) name_len))) misnamed
    (refuse_if (ltb (length s) (at + 16 + name_len + dataLen)) why.chunk
    (given (record { start = at + 16 + name_len; len = dataLen }))))))

-- the bytes of a part of the file, as of a chunk's data
abbrev pub data_in : List ℕ → Range → List ℕ
data_in s r = part s r.start r.len
