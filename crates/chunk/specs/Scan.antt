-- What a scan of the map's data passes over, and what it finds.
use Rattle.std.specs.Prelude.{ℕ, ◌+◌, ◌-◌, ◌^◌, ◌≤◌, ◌<◌, ◌≡◌, cond, List, [], length, get_or, drop, eqb, ltb, Option, Some, None, Result, Ok, Err}
use Rattle.std.proofs.Math.Option as Math
use Rattle.std.specs.Int.Count.{count_trailing_zeros}
use Rattle.format.specs.Bytes.{le_at, part, same}
use Rattle.format.specs.Answer.{given, refused, and_then}
use Rattle.format.specs.Given.{number}
use Rattle.format.specs.Map.{MapEntry, through_mark, end_mark, map_from, most_entries, prepend}
use Rattle.format.specs.declared.refusal.Refusal.{Refusal}
use Rattle.format.specs.declared.refusal.Refusal.TheVariants as is

-- no '!' stands from a up to b
pub record Clear (s : List ℕ) (a b : ℕ) : Type 0 where
  pub clear : (k : ℕ) → k < b → a ≤ k → get_or s k 0 ≡ 33 → ⊥

-- the n digits of m have their lowest 1 no later than where the first '!' of the n bytes from `at` on stands
pub record Marked (s : List ℕ) (at n m : ℕ) : Type 0 where
  pub low : m < 2 ^ n
  pub clear : Clear s at (at + count_trailing_zeros n m)

-- the place of the lowest 1 of 16 digits, or one behind them
unfoldable pub first_then : ℕ → ℕ → ℕ
first_then m behind = cond (eqb m 0) (16 + behind) (count_trailing_zeros 16 m)

-- r is a place from a on, and no '!' stands before it
pub record Skipped (s : List ℕ) (a r : ℕ) : Type 0 where
  pub from : a ≤ r
  pub inside : r ≤ length s
  pub clear : Clear s a r

-- what is found ends in the list
abbrev pub FoundIn : List ℕ → ℕ → Option ℕ → Type 0
FoundIn s at (Some n) = at + n ≤ length s
FoundIn s at None = Unit

-- ---- what stands next

-- an entry whose name has so many bytes, the end mark, or neither of them in full
abbrev Next : Type 0
Next = Result (Option ℕ) Refusal

-- what n bytes through the next '!', if there is one, make of the place `at` after k entries
unfoldable pub next_by : List ℕ → ℕ → ℕ → Math.Option ℕ → Next
next_by m at k Math.none = Err is.Map
next_by m at k (Math.some n) =
    cond (same (part m at n) end_mark) (Ok None)
    (cond (eqb k most_entries) (Err is.Map)
    (cond (ltb (length m) (at + n + 16)) (Err is.Map)
    (Ok (Some n))))

-- what stands at `at`, after k entries
unfoldable pub next_in : List ℕ → ℕ → ℕ → Next
unfolding next_by
next_in m at k = next_by m at k (through_mark (drop at m))

-- the entry at `at` whose name has n bytes
abbrev pub entry_at : List ℕ → ℕ → ℕ → MapEntry
entry_at m at n = record { name_at = at; name_len = n; offset = le_at 8 m (at + n); size = le_at 8 m (at + n + 8) }

-- an entry at `at`, after k others, with room for it and its two numbers in the data
pub record Entry (m : List ℕ) (at k n : ℕ) : Type 0 where
  pub free : k < most_entries
  pub inside : at + n + 16 ≤ length m
  pub reads : map_from (most_entries - k) m at ≡ and_then (map_from (most_entries - (k + 1)) m (at + n + 16)) (prepend (entry_at m at n))

-- what the map reads at `at`, after k entries, where this stands there
abbrev pub Stands : List ℕ → ℕ → ℕ → Next → Type 0
Stands m at k (Ok (Some n)) = Entry m at k n
Stands m at k (Ok None) = map_from (most_entries - k) m at ≡ given []
Stands m at k (Err e) = map_from (most_entries - k) m at ≡ refused (number e)
