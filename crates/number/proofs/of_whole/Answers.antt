-- `of_whole`: the pattern with no sign.
use mathlib.Core.Path.{sym, ap, ◌∙◌}
use mathlib.Core.Bool.{false}
use native.Mathlib.Nat.{zero-add}
use lib.Ieee.{binary64, of_bits, of_int}
use Rattle.number.proofs.of_whole.Goals as goal

pub returns : goal.returns
unfolding of_int
returns c = c.double_of.ensures ∙ ap (of_bits binary64) (sym (zero-add c.nearest.result)) ∙ c.nearest.ensures.is false
