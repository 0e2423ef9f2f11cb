-- What stands at a cursor: a read gives the number there and the cursor behind it.
use Rattle.std.specs.Prelude.{ℕ, ◌+◌, ◌-◌, ◌≤◌, ◌<◌, ◌≡◌, cond, List, length, get_or, ltb, Result, Ok, Err}
use Rattle.format.specs.Answer.{Answer, given, refused}
use Rattle.format.specs.Bytes.{le_at}
use Rattle.format.specs.Given.{answer}
use Rattle.format.specs.Refusals as why
use Rattle.format.specs.declared.refusal.Refusal.{Refusal}
use Rattle.format.specs.declared.refusal.Refusal.TheVariants as is
use Rattle.cursor.specs.declared.Cursor.{Cursor}

-- the cursor at a, of a part that ends at e
abbrev pub to : ℕ → ℕ → Cursor
to a e = record { at = a; end = e }

-- the cursor's part lies in the slice
pub record Within (c : Cursor) (s : List ℕ) : Type 0 where
  pub order : c.at ≤ c.end
  pub inside : c.end ≤ length s

-- what a read gives: the number and the cursor after it, or the refusal's number
abbrev pub word_of : Result (ℕ × Cursor) Refusal → Answer (ℕ × Cursor)
word_of r = answer r

-- the number in the n bytes at a cursor and the cursor after them; 6 where fewer are left
unfoldable pub word_at : ℕ → List ℕ → Cursor → Answer (ℕ × Cursor)
word_at n s c = cond (ltb (c.end - c.at) n) (refused why.cut) (given (le_at n s c.at, to (c.at + n) c.end))

-- the cursor that is handed back after n bytes lies in the slice again, and the only refusal is a cut
abbrev pub GoodWord : List ℕ → Cursor → ℕ → Result (ℕ × Cursor) Refusal → Type 0
GoodWord s c n (Ok (x, d)) = (Within d s) × (d.at ≡ c.at + n) × (d.end ≡ c.end)
GoodWord s c n (Err e) = e ≡ is.Cut

-- the n bytes of s from a on are those of t from b on
abbrev pub SameBytes : List ℕ → ℕ → List ℕ → ℕ → ℕ → Type 0
SameBytes s a t b n = (k : ℕ) → k < n → get_or s (a + k) 0 ≡ get_or t (b + k) 0
