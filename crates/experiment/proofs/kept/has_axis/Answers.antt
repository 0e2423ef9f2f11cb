-- `has_axis`: a search over the loops that are used.
use mathlib.Core.Path.{sym, ◌∙◌}
use lib.ListN.{take}
use borrow.Author.Rules.{rules}
use Rattle.std.proofs.lemmas.Iterator.{YieldsList-from_slice}
use Rattle.std.proofs.lemmas.Iterator.Search.{any_from_yields_List}
use Rattle.format.specs.Loops.{same_axis}
use Rattle.experiment.proofs.SameAxis.{has_is, same_is}
use Rattle.experiment.proofs.kept.has_axis.Goals as goal

pub returns : goal.returns
returns c =
    let a = c.args in
    let ls = take a.kept.depth a.kept.loops in
    any_from_yields_List (λ l. same_axis l.axis a.axis) _ _ _ c.any.ensures.ran (YieldsList-from_slice ls cc)
    (λ x b q h. (search rules, search (rules, same_is)))
    ∙ sym (has_is a.axis ls)
