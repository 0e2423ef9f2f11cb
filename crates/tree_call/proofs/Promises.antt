-- What a tree call's number and table promise, and what they are where the tree is refused or read. Assumes nothing.
use Prim.Native.Nat.{ℕ, ◌-◌, ◌*◌}
use mathlib.Core.Path.{◌≡◌, refl, sym, ◌∙◌, subst}
use mathlib.Core.Bool.{true, false}
use mathlib.Core.List.{List, ◌++◌}
use lib.ListN.{length, take}
use Rattle.format.specs.Answer.{Answer, given, refused, refuse_if}
use Rattle.format.specs.Bytes.{zeros}
use Rattle.format.specs.Refusals as why
use Rattle.format.specs.Trees.{room_in, table_bytes}
use Rattle.format.specs.Summary.{map_of, bad_summary}
use Rattle.format.specs.Calls.Tree.{tree_named, tree_by, tree_call}
use Rattle.format.specs.Sentences.{Refuses, AcceptedUnless, AtSome, TreeEntered, TreeNamed}
use Rattle.format.specs.Refused.Order.{FirstAt}
use Rattle.format.specs.Refused.Tree.{TreeStage, TreeRefusal, tree_order}
use Rattle.format.specs.declared.Entry.{Entry}
use Rattle.format.specs.declared.Summary.{Summary}
use Rattle.format.proofs.Calls.Tree.{tree_number, tree_accepted, tree_table, tree_refused}
use Rattle.format.proofs.Demands.Misnamed.{tree_named_is}
use Rattle.chunk.specs.Answers.{find_in}
use Rattle.lookup.proofs.Rows.{length_firsts}
use Rattle.named_tree.specs.Named.{tree_under}
use Rattle.named_tree.proofs.Answers.{under_named}
use Rattle.tree.specs.Steps.{Front}
use Rattle.tree.specs.Table.{entry_in, entries_in}
use Rattle.tree_call.proofs.Cleared.{front_zeros}

-- ---- the refusals in order

module _ (s : List ℕ) (u : Summary) (name : List ℕ) (room : ℕ) where
  pub bad_summary_is : bad_summary s u ≡ true → tree_named s u name room ≡ refused why.summary
  unfolding tree_named refuse_if
  bad_summary_is e = rw e refl

  -- a summary that may be used: what the map has under the name decides
  pub good_summary : bad_summary s u ≡ false → tree_named s u name room ≡ tree_under s room name (find_in (map_of s u) name)
  unfolding tree_named refuse_if
  good_summary e = rw e (sym (under_named s room name (map_of s u)))

-- ---- the call

module _ (s : List ℕ) (u : Summary) (name bytes : List ℕ) where
  abbrev R : TreeStage → ℕ → Type 0
  R = TreeRefusal s u name (room_in (length bytes))

  -- the call's number and table, and the sentences that follow
  abbrev pub Promised : ℕ → List ℕ → Type 0
  Promised n out =
      (n ≡ (tree_call s u name bytes).number) × (out ≡ (tree_call s u name bytes).buffer) × FirstAt R tree_order n × AcceptedUnless (AtSome R) n
      × (n ≡ 0 → TreeEntered s u name (length bytes) out) × (Refuses n → out ≡ zeros (length bytes)) × TreeNamed s u name n

  promised : {n : ℕ} {out : List ℕ} → n ≡ (tree_call s u name bytes).number → out ≡ (tree_call s u name bytes).buffer → Promised n out
  promised e f = (
    e,
    f,
    rw e (tree_number s u name bytes),
    rw e (tree_accepted s u name bytes),
    λ q. rw f (tree_table s u name bytes (sym e ∙ q)),
    λ g. f ∙ tree_refused s u name bytes (λ q. g (e ∙ q)),
    rw e (tree_named_is s u name bytes),
  )

  abbrev tree : Answer (List Entry)
  tree = tree_named s u name (room_in (length bytes))

  -- a refusal's number, and the table cleared
  pub refused_tree : {n : ℕ} {out : List ℕ} → tree ≡ refused n → out ≡ zeros (length bytes) → Promised n out
  unfolding tree_call tree_by
  refused_tree q e = promised (rw q refl) (rw q e)

  -- the entries in front of the table t, and what is behind them cleared
  pub read_tree : (t : List ℕ) (w : ℕ) {out : List ℕ} → tree ≡ given (entries_in t w) → Front t tree → length t ≡ length bytes
      → out ≡ take (48 * w) t ++ zeros (length t - 48 * w) → Promised 0 out
  unfolding tree_call tree_by
  read_tree t w q f l e =
      let k : length (entries_in t w) ≡ w = length_firsts w (entry_in t) in
      let g : take (48 * length (entries_in t w)) t ≡ table_bytes (entries_in t w) = subst (Front t) q f in
      promised (rw q refl) (rw q (rw l at e ∙ front_zeros t (entries_in t w) w (length bytes) k g))
