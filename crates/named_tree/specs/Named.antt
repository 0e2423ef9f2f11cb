-- The tree of a chunk: what is read, and what the answer says of it.
use Rattle.std.specs.Prelude.{ℕ, ◌≡◌, List, Result, Ok, Err}
use Rattle.std.proofs.Math.Option.{Option}
use Rattle.format.specs.Answer.{Answer, and_then, or_refuse}
use Rattle.format.specs.Refusals as why
use Rattle.format.specs.Chunks.{chunk_data}
use Rattle.format.specs.Trees.{tree_in, within, whole_tree, tree_entries}
use Rattle.format.specs.declared.Entry.{Entry}
use Rattle.format.specs.declared.refusal.Refusal.{Refusal}
use Rattle.lookup.specs.Table.{Holds}
use Rattle.tree.specs.Steps.{parsed_in, Front}

-- the tree of the chunk at an offset, which has to bear the name, with a table of `room` entries: 4, 29, 4, tree
unfoldable pub tree_at : List ℕ → ℕ → List ℕ → ℕ → Answer (List Entry)
unfolding chunk_data whole_tree
tree_at s room name o = and_then (chunk_data why.chunk_name name s o) λ r. tree_entries (within room (tree_in s r))

-- the tree under a name, by what the map has there: 5, 11, 4, 29, 4, tree
unfoldable pub tree_under : List ℕ → ℕ → List ℕ → Answer (Option ℕ) → Answer (List Entry)
unfolding tree_at
tree_under s room name l = and_then l λ o. and_then (or_refuse o why.missing) (tree_at s room name)

-- the lookups may read the entries that are counted
abbrev pub Readable : List ℕ → List ℕ → Result ℕ Refusal → Type 0
Readable file t (Ok used) = Holds file t used
Readable file t (Err e) = Unit

-- Of the tree a of a file: what the answer r is, by the table t that it leaves; and that the table begins with the entries.
pub record Reads (file t : List ℕ) (a : Answer (List Entry)) (r : Result ℕ Refusal) : Type 0 where
  pub answer : a ≡ parsed_in t r
  pub front : Front t a
  pub holds : Readable file t r
