-- `common` passes by 8 units at a time whose 16 bytes are the same: the units before i stand alike. Assumes nothing.
use Prim.Native.Nat.{◌-◌}
use native.Mathlib.Omega.{arith}
use borrow.Author.Rules.{rules}
use Rattle.format.proofs.Text.Units.{stand_more}
use Rattle.name.proofs.common.Goals as goal

pub loop-i-init : goal.loop-i-init
loop-i-init c = (search rules, λ k h. absurd (omega arith))

pub returns-then-not-same16 : goal.returns-then-not-same16
returns-then-not-same16 c = c.loop-i.invariant

pub loop-i-preserved : goal.loop-i-preserved
loop-i-preserved c = (search rules, stand_more _ _ _ _ 8 c.loop-i.invariant.1 (c.same16.ensures c.if-not-same16.false))

pub returns : goal.returns
returns c = c.loop-i.invariant
