-- A child is a place where no child before it has its name.
use mathlib.Core.Path.{◌∙◌}
use borrow.Author.Tests.{ne_eqb}
use Rattle.format.specs.Values.{name_of}
use Rattle.lookup.specs.Table.{entry_in}
use Rattle.lookup.proofs.Places.{place_first, place_other}
use Rattle.lookup.proofs.tree.Tree.is_place.Goals as goal

pub returns-then-e-parent : goal.returns-then-e-parent
unfolding name_of
returns-then-e-parent c =
    place_first _ (entry_in _) _ _ c.entry_at-e.result c.entry_at-e.ensures _ c.if-e-parent.true
    c.borne_before.ensures

pub returns-else-e-parent : goal.returns-else-e-parent
returns-else-e-parent c = ne_eqb _ _ c.if-e-parent.false ∙ place_other _ (entry_in _) _ _ c.entry_at-e.result c.entry_at-e.ensures c.if-e-parent.false
