-- Document 01, Trees: entries as they stand in a lent table, each of them six numbers of eight bytes.
use Rattle.std.specs.Prelude.{ℕ, zero, suc, ◌+◌, ◌*◌, ◌^◌, ◌<◌, List, [], ◌∷◌, ◌++◌}
use Rattle.format.specs.Bytes.{le_at}
use Rattle.format.specs.declared.Entry.{Entry}

-- entry number i, as it stands in a table
unfoldable pub entry_in : List ℕ → ℕ → Entry
entry_in t i =
    record {
      kind = le_at 8 t (48 * i);
      name = le_at 8 t (48 * i + 8);
      units = le_at 8 t (48 * i + 16);
      value = le_at 8 t (48 * i + 24);
      size = le_at 8 t (48 * i + 32);
      parent = le_at 8 t (48 * i + 40);
    }

-- the first n of a row of entries
unfoldable pub firsts : ℕ → (ℕ → Entry) → List Entry
firsts zero e = []
firsts (suc n) e = firsts n e ++ e n ∷ []

-- the first n entries of a table
abbrev pub entries_in : List ℕ → ℕ → List Entry
entries_in t n = firsts n (entry_in t)

-- each number of an entry fits 64 bits: only such an entry can be read back from the table that it was stored in
pub record Fit (e : Entry) : Type 0 where
  pub kind : e.kind < 2 ^ 64
  pub name : e.name < 2 ^ 64
  pub units : e.units < 2 ^ 64
  pub value : e.value < 2 ^ 64
  pub size : e.size < 2 ^ 64
  pub parent : e.parent < 2 ^ 64

-- the same of every entry: reading a tree promises it, so that its entries are found again in the table
abbrev pub AllFit : List Entry → Type 0
AllFit [] = Unit
AllFit (e ∷ es) = Fit e × AllFit es
