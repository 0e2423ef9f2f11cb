-- `name_is` tells whether a name is the ASCII one: yes and no are those of lists that are equal or not. Assumes nothing.
use mathlib.Core.Path.{ap, ◌∙◌}
use Rattle.format.specs.declared.Comparison.{Comparison}
use Rattle.format.proofs.Text.Compared.{comparison_same}
use Rattle.name.proofs.ascii.name_is.Goals as goal

pub returns : goal.returns
returns c = ap (λ (r : Comparison). r.same) c.compare_ascii.ensures ∙ comparison_same _ _
