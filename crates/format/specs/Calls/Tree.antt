-- Document 01, The calls: tree. It leaves an entry in the table for each record of the named chunk's tree, in their order, and zeros behind these.
use Rattle.std.specs.Prelude.{ℕ, List, length}
use Rattle.format.specs.Bytes.{over, zeros}
use Rattle.format.specs.Answer.{Answer, given, refused, refuse_if, and_then}
use Rattle.format.specs.Refusals as why
use Rattle.format.specs.Map.{map_entries}
use Rattle.format.specs.Trees.{room_in, named_tree, table_bytes}
use Rattle.format.specs.Summary.{map_of, bad_summary}
use Rattle.format.specs.Calls.Plane.{Outcome}
use Rattle.format.specs.declared.Entry.{Entry}
use Rattle.format.specs.declared.Summary.{Summary}

-- the entries, with a table of `room` entries: 20, 5, 11, 4, 29, 4, tree
unfoldable pub tree_named : List ℕ → Summary → List ℕ → ℕ → Answer (List Entry)
tree_named s u name room =
    refuse_if (bad_summary s u) why.summary
    (and_then (map_entries (map_of s u)) λ es. named_tree s (map_of s u) es room name)

-- n is the table's length; a refused call leaves it all zero
unfoldable pub tree_by : ℕ → Answer (List Entry) → Outcome
unfolding over zeros table_bytes
tree_by n (refused k) = record { number = k; buffer = zeros n }
tree_by n (given es) = record { number = 0; buffer = over (table_bytes es) (zeros n) }

unfoldable pub tree_call : List ℕ → Summary → List ℕ → List ℕ → Outcome
unfolding tree_named tree_by
tree_call file u name table = tree_by (length table) (tree_named file u name (room_in (length table)))
