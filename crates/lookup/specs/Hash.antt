-- A number for a name, and the marks that the numbers of names leave. Any function of the name would do: only that equal names have equal numbers is used.
use Rattle.std.specs.Prelude.{ℕ, ◌+◌, ◌-◌, ◌*◌, ◌/◌, ◌%◌, ◌^◌, ◌≡◌, ◌⊎◌, List, [], ◌∷◌, length, get_or}

-- the number h, with one unit more
abbrev pub hash_step : ℕ → ℕ → ℕ
hash_step h u = (h + u % 2 ^ 16) * 2_654_435_769 % 2 ^ 32

unfoldable pub hash_from : ℕ → List ℕ → ℕ
hash_from h [] = h
hash_from h (u ∷ us) = hash_from (hash_step h u) us

unfoldable pub hash_of : List ℕ → ℕ
unfolding hash_from
hash_of name = hash_from 0 name

-- the number by which a name falls into a part: of its first unit and its last
unfoldable pub key_of : List ℕ → ℕ
key_of name = get_or name 0 0 % 2 ^ 16 + 31 * (get_or name (length name - 1) 0 % 2 ^ 16)

-- the place of a number's mark, and its print there
abbrev pub mark_at : ℕ → ℕ
mark_at h = h / 2_097_152

abbrev pub print_of : ℕ → ℕ
print_of h = 1 + h % 254

-- a name with this number may have come by: its print is there, or that of several
pub record Marked (marks : List ℕ) (h : ℕ) : Type 0 where
  pub there : (get_or marks (mark_at h) 0 ≡ print_of h) ⊎ (get_or marks (mark_at h) 0 ≡ 255)
