-- `bears`: of a child the name is compared, which is of one kind or the other.
use mathlib.Core.Path.{refl, sym, ◌∙◌}
use Rattle.format.specs.Values.{name_of}
use Rattle.lookup.specs.Table.{entry_in}
use Rattle.lookup.proofs.Search.{named_child}
use Rattle.lookup.proofs.named.bears.Goals as goal

pub returns-in-Ascii : goal.returns-in-Ascii
returns-in-Ascii c =
    rw c.in-Ascii.is (named_child _ (entry_in _) _ _ _ (entry_in _ _) refl _ (sym c.parent_at.ensures ∙ c.if-parent_at-parent.false) c.spelled.ensures)

pub returns-in-Of : goal.returns-in-Of
unfolding name_of
returns-in-Of c =
    rw c.in-Of.is (named_child _ (entry_in _) _ _ _ (entry_in _ _) refl _ (sym c.parent_at.ensures ∙ c.if-parent_at-parent.false) c.alike.ensures)
