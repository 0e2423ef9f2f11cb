-- `nearest`: the digits shifted left, or rounded to 53.
use mathlib.Core.Path.{sym, subst}
use Prim.Native.Nat.{ℕ}
use native.Mathlib.Omega.{arith}
use Rattle.number.specs.Patterns.{Nearest}
use Rattle.number.proofs.Widening.{Highest, highest, zero_nearest, up_bits, down_bits}
use Rattle.number.proofs.nearest.Goals as goal
use Rattle.number.proofs.nearest.Goals.{After-from-place}

top : (c : After-from-place) → Highest c.args.n c.from-place.result
top c = let e = c.ilog2.ensures in highest _ _ _ e.power_le e.next_power_gt e.bound c.from-place.ensures

pub returns-then-n-eq0 : goal.returns-then-n-eq0
returns-then-n-eq0 c = subst (λ (n : ℕ). Nearest n 0) (sym c.if-n-eq0.true) zero_nearest

pub overflow_add-result-then-place-lt53 : goal.overflow_add-result-then-place-lt53
overflow_add-result-then-place-lt53 c = omega (arith, (up_bits _ _ (top (goal.at.overflow_add-result-then-place-lt53 c).After-from-place) c.if-place-lt53.true).small)

pub overflow_add-result-else-place-lt53-2 : goal.overflow_add-result-else-place-lt53-2
overflow_add-result-else-place-lt53-2 c = omega (arith, (down_bits _ _ (top (goal.at.overflow_add-result-else-place-lt53-2 c).After-from-place) c.if-place-lt53.false _ c.rounded.ensures).small)

pub returns-then-place-lt53 : goal.returns-then-place-lt53
returns-then-place-lt53 c = up_bits _ _ (top (goal.at.returns-then-place-lt53 c).After-from-place) c.if-place-lt53.true

pub returns-else-place-lt53 : goal.returns-else-place-lt53
returns-else-place-lt53 c = down_bits _ _ (top (goal.at.returns-else-place-lt53 c).After-from-place) c.if-place-lt53.false _ c.rounded.ensures
