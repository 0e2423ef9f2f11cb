-- The table of a tree: entries stored in it, and entries as they stand there.
use Rattle.std.specs.Prelude.{ℕ, ◌*◌, List}
use Rattle.std.proofs.lemmas.List.Edits.{sets}
use Rattle.format.specs.Trees.{table_bytes}
use Rattle.format.specs.declared.Entry.{Entry}
unfoldable pub use Rattle.format.specs.Table.{entry_in, firsts}
pub use Rattle.format.specs.Table.{entries_in, Fit, AllFit}

-- the table t with the entries es stored from number u on
unfoldable pub put_all : List ℕ → ℕ → List Entry → List ℕ
put_all t u es = sets t (48 * u) (table_bytes es)
