-- Equal pieces of a list, one after the other, and rows of them.
use Rattle.std.specs.Prelude.{ℕ, zero, suc, ◌+◌, ◌*◌, List, [], ◌++◌}
use Rattle.format.specs.Bytes.{part}

-- the k pieces of `size` bytes that begin at `at`, `at + step`, ..
unfoldable pub pieces : List ℕ → ℕ → ℕ → ℕ → ℕ → List ℕ
pieces s at step size zero = []
pieces s at step size (suc k) = pieces s at step size k ++ part s (at + k * step) size

-- k rows of `width` samples of `size` bytes: each sample `step` bytes after the one before, each row `stride` bytes
unfoldable pub rows : List ℕ → ℕ → ℕ → ℕ → ℕ → ℕ → ℕ → List ℕ
unfolding pieces
rows s at stride step size width zero = []
rows s at stride step size width (suc k) = rows s at stride step size width k ++ pieces s (at + k * stride) step size width
