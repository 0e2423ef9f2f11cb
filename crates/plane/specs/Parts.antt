-- Two lists in parts of one size, and rows of one in the other.
use Rattle.std.specs.Prelude.{ℕ, ◌*◌, ◌<◌, ◌≡◌, List, ◌++◌, take, drop}
use Rattle.format.specs.Bytes.{part}

-- the first x bytes of each of the first k parts, of `size` bytes, are the same in s and in d
unfoldable pub Alike : List ℕ → List ℕ → ℕ → ℕ → ℕ → Type 0
Alike s d size k x = (j : ℕ) → j < k → part d (j * size) x ≡ part s (j * size) x

-- d with the first w bytes of row k of s, a row of `stride` bytes, in the place of its own row k, a row of w bytes
unfoldable pub with_row : List ℕ → ℕ → ℕ → ℕ → List ℕ → List ℕ
with_row s stride w k d = take (k * w) d ++ (part s (k * stride) w ++ drop w (drop (k * w) d))
