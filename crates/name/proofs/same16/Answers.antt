-- Sixteen bytes, one after another: where the answer so far is yes, those before j are the same. Assumes nothing.
use Prim.Native.Nat.{◌-◌}
use native.Mathlib.Omega.{arith}
use borrow.Author.Count.{below_more}
use borrow.Author.Rules.{rules}
use borrow.Author.Tests.{eqb-true}
use Rattle.format.proofs.Ground.Tests.{and_left, and_right}
use Rattle.name.proofs.same16.Goals as goal

pub loop-j-init : goal.loop-j-init
loop-j-init c = (search rules, λ q k h. absurd (omega arith))

pub loop-j-preserved : goal.loop-j-preserved
loop-j-preserved c =
    let l = c.loop-j in
    (search rules, λ q. below_more _ _ (l.invariant.1 (and_left l.same _ q)) (eqb-true _ _ (and_right l.same _ q)))

pub returns : goal.returns
returns c = λ q k h. c.loop-j.invariant.1 q k (omega arith)
