-- A file, and any lent buffer of bytes, is a list of numbers below 256. A number of several bytes has its lowest byte first.
use Rattle.std.specs.Prelude.{ℕ, zero, suc, ◌+◌, ◌-◌, ◌*◌, ◌/◌, ◌%◌, ◌^◌, Bool, true, false, ◌&&◌}
use Rattle.std.specs.Prelude.{List, [], ◌∷◌, ◌++◌, length, get_or, take, drop, replicate, eqb}
use Prim.Native.String.{String, [] as []ₛ, ◌∷◌ as ◌∷ₛ◌}
use Prim.Native.Char.{code}

-- the number that the n bytes from position i on stand for, the lowest first
unfoldable pub le_at : ℕ → List ℕ → ℕ → ℕ
le_at zero s i = 0
le_at (suc n) s i = get_or s i 0 + 256 * le_at n s (suc i)

-- n as k bytes, the lowest first
unfoldable pub le_bytes : ℕ → ℕ → List ℕ
le_bytes zero n = []
le_bytes (suc k) n = n % 256 ∷ le_bytes k (n / 256)

-- the largest number of 64 bits
abbrev pub most64 : ℕ
most64 = 2 ^ 64 - 1

-- the n bytes from position i on
unfoldable pub part : List ℕ → ℕ → ℕ → List ℕ
part s i n = take n (drop i s)

-- a lent buffer with xs at its start, its later bytes as before
unfoldable pub over : List ℕ → List ℕ → List ℕ
over xs buf = xs ++ drop (length xs) buf

-- n bytes that are zero
unfoldable pub zeros : ℕ → List ℕ
zeros n = replicate n 0

-- the bytes of each of a list, one after another
unfoldable pub each : {A : Type 0} → (A → List ℕ) → List A → List ℕ
each f [] = []
each f (x ∷ xs) = f x ++ each f xs

-- the bytes of a text of ASCII characters
unfoldable pub ascii : String → List ℕ
ascii []ₛ = []
ascii (c ∷ₛ s) = code c ∷ ascii s

-- whether two lists of numbers are equal
unfoldable pub same : List ℕ → List ℕ → Bool
same [] [] = true
same [] (b ∷ t) = false
same (a ∷ s) [] = false
same (a ∷ s) (b ∷ t) = eqb a b && same s t

-- whether s begins with p
unfoldable pub begins : List ℕ → List ℕ → Bool
unfolding same
begins p s = same p (take (length p) s)
