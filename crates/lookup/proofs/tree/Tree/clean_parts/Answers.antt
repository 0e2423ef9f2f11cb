-- The bits so far tell of the parts from `part` on.
use Prim.Native.Nat.{◌≤◌}
use mathlib.Core.Path.{sym, ◌∙◌}
use native.Mathlib.Omega.{arith}
use Rattle.lookup.specs.Table.{entry_in}
use Rattle.lookup.specs.Walks.{PartLeads}
use Rattle.lookup.proofs.Leading.{with_bit, bits_more, flag_small, flag_one}
use Rattle.lookup.proofs.tree.Tree.clean_parts.Goals as goal

pub loop-part-preserved : goal.loop-part-preserved
loop-part-preserved c =
    let v = c.loop-part.invariant in
    let l = c.loop-part-test.true in
    let b : c.from.result ≤ 1 = rw c.from.ensures (flag_small c.part_leads.result) in (
      omega (arith, v.0),
      omega (arith, bits_more _ _ _ l v.0 v.1),
      with_bit (PartLeads _ (entry_in _) _ _ _) _ _ l v.2 _ b (λ z. c.part_leads.ensures (flag_one _ (sym c.from.ensures ∙ z))),
    )
