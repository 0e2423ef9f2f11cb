-- `usable`: above 0 and below the infinity.
use mathlib.Core.Path.{sym, ap, ◌∙◌}
use mathlib.Core.Bool.{Bool, ◌&&◌}
use lib.Ieee.{of_bits, div}
use Rattle.format.specs.Numbers as Numbers
use Rattle.format.proofs.Numbers.Doubles.{finite_below}
use Rattle.number.proofs.usable.Goals as goal

pub returns-then-x : goal.returns-then-x
unfolding of_bits div Numbers.positive
returns-then-x c =
    let x = c.args.x in
    finite_below x c.if-x.true ∙ ap (λ (b : Bool). b && Numbers.finite x) (sym c.if-x.true)
