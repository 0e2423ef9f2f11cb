-- Bytes from the end: those from `i` on are alike.
use Prim.Native.Nat.{◌-◌}
use native.Mathlib.Omega.{arith}
use borrow.Author.Rules.{rules}
use Rattle.chunk.proofs.Comparing.{alike_none, alike_one, differ_one, alike_join, differs, tells_none, tells_join}
use Rattle.chunk.proofs.names.same_head.Goals as goal

pub loop-i-init : goal.loop-i-init
loop-i-init c = (search rules, alike_none _ _ (search rules))

pub returns-then-s-at : goal.returns-then-s-at
returns-then-s-at c = differs (differ_one (c.loop-i.i - 1) c.if-s-at.true) (omega arith) (omega arith)

pub loop-i-preserved : goal.loop-i-preserved
loop-i-preserved c =
    let l = c.loop-i in
    (search rules, alike_join (alike_one (l.i - 1) c.if-s-at.false) l.invariant.1 (omega arith))

pub returns : goal.returns
returns c = tells_join (tells_none 0 0 (omega arith)) c.loop-i.invariant.1 (search rules) (omega arith)
