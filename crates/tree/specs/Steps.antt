-- What each answer of the crate's functions says of the format's readings, case by case.
use Rattle.std.specs.Prelude.{ℕ, ◌+◌, ◌-◌, ◌*◌, ◌≤◌, ◌≡◌, List, length, take, Result, Ok, Err}
use Rattle.format.specs.Answer.{Answer, given, refused}
use Rattle.format.specs.Given.{number}
use Rattle.format.specs.declared.refusal.Refusal.{Refusal}
use Rattle.format.specs.Trees.{Stop, at, fault, Read, level_end, records, children_at, read, room_in, within, tree_entries, table_bytes}
use Rattle.format.specs.declared.Entry.{Entry}
use Rattle.cursor.specs.Steps.{value_of}
use Rattle.cursor.specs.declared.Cursor.{Cursor}
use Rattle.cursor.specs.declared.record.Name.{Name}
use Rattle.tree.specs.Table.{entries_in, AllFit, put_all}
use Rattle.tree.specs.declared.Spot.{Spot}

-- ---- a level's end

abbrev pub stop_of : Result (Cursor × ℕ) Refusal → Stop
stop_of (Ok (c, u)) = at c.at
stop_of (Err x) = fault (number x)

abbrev pub GoodEnd : ℕ → ℕ → Result (Cursor × ℕ) Refusal → Type 0
GoodEnd e used (Ok (c, u)) = (c.at ≤ e) × (c.end ≡ e) × (u ≡ used)
GoodEnd e used (Err x) = Unit

pub record LevelEnded (c : Cursor) (count used : ℕ) (r : Result (Cursor × ℕ) Refusal) : Type 0 where
  pub says : stop_of r ≡ level_end count c.at c.end
  pub good : GoodEnd c.end used r

-- ---- records and values, with the table

-- the entry of a record with the head n
abbrev pub entry_for : ℕ → ℕ → Name → ℕ → ℕ → Entry
entry_for base parent n v size =
    record { kind = n.kind; name = base + n.start + 2; units = n.units; value = base + v; size = size; parent = parent }

abbrev pub records_at : List ℕ → ℕ → Cursor → ℕ → Spot → Read
records_at d base c count p = records d base (children_at p.levels d base) p.parent count p.used c.at c.end

abbrev pub value_at : List ℕ → ℕ → Name → Cursor → Spot → Read
value_at d base n c p = value_of d base (children_at p.levels d base p.used) p.parent n c

-- a table with `room` entries left ends the reading o with the number x
pub record Stops (room : ℕ) (o : Read) (x : ℕ) : Type 0 where
  pub number : (within room o).stop ≡ fault x

-- the reading o, in a level that ends at e, took the table with u entries in use from t to t', to the cursor c and w entries in use
pub record Went (t t' : List ℕ) (e u : ℕ) (o : Read) (c : Cursor) (w : ℕ) : Type 0 where
  pub stop : o.stop ≡ at c.at
  pub used : w ≡ u + length o.entries
  pub room : w ≤ room_in (length t)
  pub table : t' ≡ put_all t u o.entries
  pub fit : AllFit o.entries
  pub order : c.at ≤ e
  pub last : c.end ≡ e

-- what a table t with u entries in use makes of the reading o
abbrev pub Ran : List ℕ → List ℕ → ℕ → ℕ → Read → Result (Cursor × ℕ) Refusal → Type 0
Ran t t' e u o (Ok (c, w)) = Went t t' e u o c w
Ran t t' e u o (Err x) = Stops (room_in (length t) - u) o (number x)

-- ---- a tree

-- the tree in d, read into a table of n bytes: its entries, or the number that ends it
abbrev pub tree_into : List ℕ → ℕ → ℕ → Answer (List Entry)
tree_into d base n = tree_entries (within (room_in n) (read d base))

-- what an answer is, by the table t that was lent: its first entries, or the refusal's number
abbrev pub parsed_in : List ℕ → Result ℕ Refusal → Answer (List Entry)
parsed_in t (Ok n) = given (entries_in t n)
parsed_in t (Err x) = refused (number x)

-- the table t begins with a tree's entries
abbrev pub Front : List ℕ → Answer (List Entry) → Type 0
Front t (given es) = take (48 * length es) t ≡ table_bytes es
Front t (refused x) = Unit

-- the entries that are counted stand in a table of n bytes
abbrev pub Fits : ℕ → Result ℕ Refusal → Type 0
Fits n (Ok w) = 48 * w ≤ n
Fits n (Err x) = Unit
