-- Bytes that are compared.
use Rattle.std.specs.Prelude.{ℕ, ◌+◌, ◌≤◌, ◌<◌, ◌≡◌, Bool, true, false, List, length, get_or}
use Rattle.format.specs.Bytes.{part, same}

-- the bytes of e from i up to n stand in s as far from `at`
pub record Alike (s : List ℕ) (at : ℕ) (e : List ℕ) (i n : ℕ) : Type 0 where
  pub equal : (k : ℕ) → k < n → i ≤ k → get_or s (at + k) 0 ≡ get_or e k 0

-- of no length are the bytes of s from `at` on those of e
pub record Foreign (s : List ℕ) (at : ℕ) (e : List ℕ) : Type 0 where
  pub other : (n : ℕ) → at + n ≤ length s → same (part s at n) e ≡ false

-- b tells whether P holds
pub record Tells (b : Bool) (P : Type 0) : Type 0 where
  pub yes : b ≡ true → P
  pub no : b ≡ false → P → ⊥
