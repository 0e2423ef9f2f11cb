-- `tree_call::tree_named`: the summary is judged, and then what the map has under the name decides.
use mathlib.Core.Path.{◌≡◌, sym, ap, ◌∙◌}
use mathlib.Core.Bool.{false}
use Prim.Native.Nat.{ℕ}
use mathlib.Core.List.{List}
use lib.ListN.{length}
use Rattle.format.specs.Summary.{bad_summary}
use Rattle.format.specs.Trees.{room_in}
use Rattle.format.proofs.Files.SummaryTest.{sound_read}
use Rattle.chunk.specs.Answers.{find_in}
use Rattle.named_tree.proofs.Answers.{refused_reads}
use Rattle.tree_call.proofs.Promises.{bad_summary_is, good_summary}
use Rattle.tree_call.proofs.tree_named.Goals as goal
use Rattle.tree_call.proofs.tree_named.Goals.{Else-bad_summary}

pub returns-then-bad_summary : goal.returns-then-bad_summary
returns-then-bad_summary c = refused_reads (bad_summary_is _ _ _ _ (sym c.bad_summary.ensures ∙ c.if-bad_summary.true))

-- the summary passed
module _ (c : Else-bad_summary) where
  passed : let a = c.args in bad_summary a.file.now a.u ≡ false
  passed = sym c.bad_summary.ensures ∙ c.if-bad_summary.false

pub data_of-map-requires : goal.data_of-map-requires
data_of-map-requires c = (sound_read _ _ (passed c)).map_within

pub returns : goal.returns
returns c =
    let a = c.args in
    let q = c.look_up.ensures ∙ ap (λ (m : List ℕ). find_in m a.name.now) c.data_of-map.ensures in
    rw (good_summary a.file.now a.u a.name.now (room_in (length a.table.now)) (passed (goal.at.returns c).Else-bad_summary), ← q) c.read_named.ensures
