-- `of_below`: the pattern with the sign.
use mathlib.Core.Path.{sym, ap, ◌∙◌}
use mathlib.Core.Bool.{true}
use Prim.Native.Nat.{ℕ}
use native.Mathlib.Numerals.{add-one}
use lib.IntN.{negsuc}
use lib.Ieee.{binary64, of_bits, of_int, neg, round}
use Rattle.number.proofs.of_below.Goals as goal

pub returns-then-n-eq18446744073709551615 : goal.returns-then-n-eq18446744073709551615
unfolding of_bits of_int neg
returns-then-n-eq18446744073709551615 c = ap (λ (n : ℕ). of_int binary64 (negsuc n)) (sym c.if-n-eq18446744073709551615.true)

pub returns-else-n-eq18446744073709551615 : goal.returns-else-n-eq18446744073709551615
unfolding of_int
returns-else-n-eq18446744073709551615 c =
    c.double_of.ensures ∙ c.nearest.ensures.is true
    ∙ ap (λ (n : ℕ). round binary64 true n 1) (add-one c.args.n)
