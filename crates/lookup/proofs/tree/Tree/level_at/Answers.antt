-- A level whose children are not all unnamed is a level.
use mathlib.Core.Path.{sym, ◌∙◌}
use Rattle.lookup.specs.Table.{entry_in}
use Rattle.lookup.proofs.Lists.{level_yes, level_list, level_leaf}
use Rattle.lookup.proofs.tree.Tree.level_at.Goals as goal
use Rattle.lookup.proofs.tree.Tree.level_at.Goals.{else-e-eq-LEVEL-via-then-e-eq-LEVEL+else-not-is_list, else-e-eq-LEVEL-via-else-e-eq-LEVEL}

pub returns-then-not-is_list : goal.returns-then-not-is_list
returns-then-not-is_list c = (
  λ s. level_yes s _ (entry_in _) _ c.requires c.entry_at-e.result
      c.entry_at-e.ensures c.if-e-eq-LEVEL.true (sym (c.is_list.ensures s) ∙ c.if-not-is_list.true),
  c.requires,
)

pub returns-else-e-eq-LEVEL : goal.returns-else-e-eq-LEVEL
returns-else-e-eq-LEVEL c = (
  λ s. elim c.else-e-eq-LEVEL.branch [
    | else-e-eq-LEVEL-via-then-e-eq-LEVEL+else-not-is_list w ↦ level_list s _ (entry_in _) _ c.requires c.entry_at-e.result
        c.entry_at-e.ensures w.if-e-eq-LEVEL.true (sym (w.is_list.ensures s) ∙ w.if-not-is_list.false)
    | else-e-eq-LEVEL-via-else-e-eq-LEVEL w ↦ level_leaf s _ (entry_in _) _ c.requires c.entry_at-e.result c.entry_at-e.ensures w.if-e-eq-LEVEL.false
  ],
  tt,
)
