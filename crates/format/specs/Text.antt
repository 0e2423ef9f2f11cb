-- Document 01, Trees: UTF-16 units in a file. Names are compared with U+FFFD for each surrogate that has no partner.
use Rattle.std.specs.Prelude.{ℕ, zero, suc, ◌+◌, Bool, not, ◌&&◌, ◌||◌, cond, List, [], ◌∷◌, leb, ltb}
use Rattle.format.specs.Bytes.{le_at}

-- the n units from position i on
unfoldable pub units : ℕ → List ℕ → ℕ → List ℕ
unfolding le_at
units zero s i = []
units (suc n) s i = le_at 2 s i ∷ units n s (i + 2)

abbrev pub high_surrogate : ℕ → Bool
high_surrogate u = leb 0xD800 u && ltb u 0xDC00

abbrev pub low_surrogate : ℕ → Bool
low_surrogate u = leb 0xDC00 u && ltb u 0xE000

-- u, or U+FFFD where u is a surrogate with no partner: p stands before it and q after it, and 0 stands for nothing
unfoldable pub replaced : ℕ → ℕ → ℕ → ℕ
replaced p u q = cond (high_surrogate u && not (low_surrogate q) || low_surrogate u && not (high_surrogate p)) 0xFFFD u

unfoldable pub replaced_after : ℕ → List ℕ → List ℕ
unfolding replaced
replaced_after p [] = []
replaced_after p (u ∷ []) = replaced p u 0 ∷ []
replaced_after p (u ∷ q ∷ s) = replaced p u q ∷ replaced_after u (q ∷ s)

-- the units with each lone surrogate replaced
unfoldable pub lossy : List ℕ → List ℕ
unfolding replaced_after
lossy s = replaced_after 0 s
