-- What a tree shows: the bytes of its file, entry i of its table, and all its entries.
use Rattle.std.specs.Prelude.{ℕ, List}
use Rattle.format.specs.declared.Entry.{Entry}
use Rattle.lookup.specs.Table.{entry_in, entries_in}
use Rattle.lookup.specs.declared.tree.Tree.{Tree}

abbrev pub bytes : Tree → List ℕ
bytes t = t.file.now

abbrev pub row : Tree → ℕ → Entry
row t = entry_in t.table.now

abbrev pub entries : Tree → List Entry
entries t = entries_in t.table.now t.used
