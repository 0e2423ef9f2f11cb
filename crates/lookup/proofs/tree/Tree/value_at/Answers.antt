-- A level is a list or a level by its children, and any other entry is by its type.
use mathlib.Core.Path.{sym, ap, ◌∙◌}
use Rattle.format.specs.declared.Entry.{Entry}
use Rattle.lookup.proofs.Lists.{value_leaf, value_items, value_level}
use Rattle.lookup.proofs.tree.Tree.value_at.Goals as goal

pub returns-then-is_list : goal.returns-then-is_list
returns-then-is_list c = (
  value_items _ _ _ _ c.requires
      (ap (λ (x : Entry). x.kind) (sym c.entry_at-e.ensures) ∙ c.if-e-eq-LEVEL.true)
      (sym (c.is_list.ensures _) ∙ c.if-is_list.true),
  c.requires,
)

pub returns-then-e-eq-LEVEL : goal.returns-then-e-eq-LEVEL
returns-then-e-eq-LEVEL c = (
  value_level _ _ _ _ c.requires
      (ap (λ (x : Entry). x.kind) (sym c.entry_at-e.ensures) ∙ c.if-e-eq-LEVEL.true)
      (sym (c.is_list.ensures _) ∙ c.if-is_list.false),
  c.requires,
)

pub returns : goal.returns
returns c = (
  c.leaf_of.ensures.0 _
      ∙ rw c.entry_at-e.ensures
      (sym (value_leaf _ _ _ _ c.requires
      (λ z. c.if-e-eq-LEVEL.false (ap (λ (x : Entry). x.kind) c.entry_at-e.ensures ∙ z)))),
  c.leaf_of.ensures.1 _,
)
