-- The first unnamed child is the only one where no other comes after it.
use native.Mathlib.Omega.{arith}
use mathlib.Core.Path.{sym, ap, ◌∙◌}
use Rattle.lookup.specs.Table.{entry_in}
use Rattle.lookup.specs.Values.{head_of}
use Rattle.lookup.proofs.Elements.{kids_own, head_low}
use Rattle.lookup.proofs.Turns.{only_none, only_one, only_many}
use Rattle.lookup.proofs.tree.Tree.unnamed_level.Goals as goal

pub next_unnamed-requires-2 : goal.next_unnamed-requires-2
next_unnamed-requires-2 c =
    let p = c.requires in
    let h = c.in_ok-i.ensures.0 ∙ ap head_of (sym (kids_own (entry_in _) _ _ c.args.self.holds.rows.order p)) in
    let b = head_low (entry_in _) _ _ _ c.args.self.holds.rows.order h in
    omega arith

pub returns-in_err-i : goal.returns-in_err-i
returns-in_err-i c =
    let p = c.requires in
    let h = c.in_err-i.ensures.0 ∙ ap head_of (sym (kids_own (entry_in _) _ _ c.args.self.holds.rows.order p)) in
    rw c.from_residual.ensures (λ s. only_none s (entry_in _) _ _ h, tt)

pub returns-in-None : goal.returns-in-None
returns-in-None c =
    let p = c.requires in
    let h = c.in_ok-i.ensures.0 ∙ ap head_of (sym (kids_own (entry_in _) _ _ c.args.self.holds.rows.order p)) in
    let k = c.in-None.ensures.0 in
    (λ s. only_one s (entry_in _) _ _ _ _ h k (c.level_at.ensures.0 s), c.level_at.ensures.1)

pub returns-in-Some : goal.returns-in-Some
returns-in-Some c =
    let p = c.requires in
    let h = c.in_ok-i.ensures.0 ∙ ap head_of (sym (kids_own (entry_in _) _ _ c.args.self.holds.rows.order p)) in
    let k = c.in-Some.ensures.0 in
    (λ s. only_many s (entry_in _) _ _ _ _ h k, tt)
