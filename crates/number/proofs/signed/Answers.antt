-- `signed`: what the pattern without its sign is, with the sign.
use mathlib.Core.Path.{refl, ap, ◌∙◌}
use mathlib.Core.Bool.{true, false}
use mathlib.Core.Option.{none, some}
use Prim.Native.Nat.{◌^◌}
use borrow.Author.Tests.{le-leb, lt-leb}
use lib.Ieee.{Float}
use Rattle.format.specs.Values.{double}
use Rattle.format.specs.Numbers.{signed}
use Rattle.number.specs.Readings.{integer}
use Rattle.number.proofs.Whole.{signed_is}
use Rattle.number.proofs.signed.Goals as goal

pub returns-in_err-n : goal.returns-in_err-n
returns-in_err-n c =
    let d = c.double_bits-bits in
    ap integer c.from_residual.ensures ∙ signed_is d.result _ none refl c.in_err-n.ensures ∙ ap (λ (v : Float). signed (double v)) d.ensures.0

pub returns-then-bits-lt-SIGN : goal.returns-then-bits-lt-SIGN
returns-then-bits-lt-SIGN c =
    let d = c.double_bits-bits in
    c.signed_whole.ensures
    ∙ signed_is d.result false (some c.in_ok-n.n) (lt-leb (2 ^ 63) d.result c.if-bits-lt-SIGN.true) c.in_ok-n.ensures
    ∙ ap (λ (v : Float). signed (double v)) d.ensures.0

pub returns-else-bits-lt-SIGN : goal.returns-else-bits-lt-SIGN
returns-else-bits-lt-SIGN c =
    let d = c.double_bits-bits in
    c.negated.ensures
    ∙ signed_is d.result true (some c.in_ok-n.n) (le-leb (2 ^ 63) d.result c.if-bits-lt-SIGN.false) c.in_ok-n.ensures
    ∙ ap (λ (v : Float). signed (double v)) d.ensures.0
