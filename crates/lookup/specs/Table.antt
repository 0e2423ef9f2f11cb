-- The entries that stand in a table, what a lookup may assume of them, and what a search answers.
use Rattle.std.specs.Prelude.{ℕ, zero, suc, ◌+◌, ◌-◌, ◌*◌, ◌^◌, ◌≤◌, ◌<◌, ◌≡◌, Bool, true, false, ◌&&◌, cond, List, [], ◌∷◌, length, eqb}
use Rattle.std.specs.Prelude as std
use Rattle.std.proofs.Math.Option.{Option, none, some}
use Rattle.format.specs.Bytes.{same}
use Rattle.format.specs.Given.{maybe}
use Rattle.format.specs.Trees.{fixed_len}
use Rattle.format.specs.Values.{name_of}
use Rattle.format.specs.declared.Entry.{Entry}
unfoldable pub use Rattle.format.specs.Table.{entry_in, firsts}
pub use Rattle.format.specs.Table.{entries_in}

-- ---- numbers of entries

-- of the n numbers from i on, those that pass a test
unfoldable pub passing : (ℕ → Bool) → ℕ → ℕ → List ℕ
passing f i zero = []
passing f i (suc n) = cond (f i) (i ∷ passing f (suc i) n) (passing f (suc i) n)

-- of the numbers from i on and below n
unfoldable pub between : (ℕ → Bool) → ℕ → ℕ → List ℕ
unfolding passing
between f i n = passing f i (n - i)

-- ---- what a lookup may assume

-- an entry's name and value lie in a file of n bytes, and a value of a fixed size has its bytes
pub record Lies (n : ℕ) (e : Entry) : Type 0 where
  pub name : e.name + 2 * e.units ≤ n
  pub value : e.value + e.size ≤ n
  pub fixed : (e.kind ≡ 8 → ⊥) → (e.kind ≡ 9 → ⊥) → (e.kind ≡ 11 → ⊥) → e.value + fixed_len e.kind ≤ n

-- The first n of a row of entries stand in file order: each comes after its parent, and an entry from p on whose parent lies before p ends
-- the children of p. Their names rise in the file; what lies below an entry has its name in that entry's value, and what comes after, behind it.
pub record Ordered (e : ℕ → Entry) (n : ℕ) : Type 0 where
  pub older : (i : ℕ) → i < n → (e i).parent ≤ i
  pub nested : (p i k : ℕ) → p ≤ i → i ≤ k → k < n → (e i).parent < p → (e k).parent ≡ p → ⊥
  pub rising : (i k : ℕ) → i < k → k < n → (e i).name < (e k).name
  pub inside : (i k : ℕ) → i < k → k < n → ((j : ℕ) → i < j → j ≤ k → i < (e j).parent) → (e k).name ≤ (e i).value + (e i).size
  pub outside : (i k : ℕ) → i < k → k < n → (e k).parent ≤ i → (e i).value + (e i).size < (e k).name

-- a table has `used` entries in file order, whose values end before 2^64
pub record Rows (table : List ℕ) (used : ℕ) : Type 0 where
  pub room : 48 * used ≤ length table
  pub order : Ordered (entry_in table) used
  pub short : (i : ℕ) → i < used → (entry_in table i).value + (entry_in table i).size < 2 ^ 64

-- and each of them lies in the file
pub record Holds (file table : List ℕ) (used : ℕ) : Type 0 where
  pub rows : Rows table used
  pub lie : (i : ℕ) → i < used → Lies (length file) (entry_in table i)

-- ---- the entries of a level

-- of n entries, those from p to r lie below the level whose entry's number plus one is p
pub record Below (e : ℕ → Entry) (n p r : ℕ) : Type 0 where
  pub low : p ≤ r
  pub high : r ≤ n
  pub inner : (k : ℕ) → p ≤ k → k < r → p ≤ (e k).parent

-- r is the first entry from p on that does not lie below the level, or n where all do; and no child of the level comes after it
pub record Run (e : ℕ → Entry) (n p r : ℕ) : Type 0 where
  pub below : Below e n p r
  pub stop : r < n → (e r).parent < p
  pub over : (k : ℕ) → r ≤ k → k < n → (e k).parent ≡ p → ⊥

-- of the entries from p up to n, those before r have their names by `to`, and entry r behind it
pub record Split (e : ℕ → Entry) (p n to r : ℕ) : Type 0 where
  pub low : p ≤ r
  pub high : r ≤ n
  pub by : (k : ℕ) → p ≤ k → k < r → (e k).name ≤ to
  pub behind : r < n → to < (e r).name

-- ---- what a search answers

abbrev pub found : std.Option ℕ → Option ℕ
found r = maybe r

-- nothing was found
abbrev pub is_none : Option ℕ → Bool
is_none none = true
is_none (some i) = false

-- an entry that was found is one of n
abbrev pub Within : ℕ → std.Option ℕ → Type 0
Within n (std.Some i) = i < n
Within n std.None = Unit

-- whether entry i is a child of p with the name
abbrev pub child_named : List ℕ → (ℕ → Entry) → ℕ → List ℕ → ℕ → Bool
child_named s e p name i = eqb (e i).parent p && same name (name_of s (e i))

-- the last child of p with the name, before r
unfoldable pub last_named : List ℕ → (ℕ → Entry) → ℕ → List ℕ → ℕ → Option ℕ
last_named s e p name zero = none
last_named s e p name (suc r) = cond (child_named s e p name r) (some r) (last_named s e p name r)
