-- The bytes from `i` on are alike; the first 16, or the first `i`, decide the rest.
use mathlib.Core.Path.{refl}
use native.Mathlib.Omega.{arith}
use borrow.Author.Rules.{rules}
use Rattle.chunk.proofs.Comparing.{alike_none, alike_join, differs, tells_bytes, tells_join, told}
use Rattle.chunk.proofs.names.same_at.Goals as goal

pub loop-i-init : goal.loop-i-init
loop-i-init c = (search rules, alike_none _ _ (search rules))

pub returns-then-not-same_bytes : goal.returns-then-not-same_bytes
returns-then-not-same_bytes c =
    let b = c.same_bytes.ensures in
    told (search rules) (differs ((tells_bytes _ 16 _ refl b.yes b.no).no c.if-not-same_bytes.true) (omega arith) (omega arith))

pub loop-i-preserved : goal.loop-i-preserved
loop-i-preserved c =
    let b = c.same_bytes.ensures in
    (search rules, alike_join ((tells_bytes _ 16 _ refl b.yes b.no).yes c.if-not-same_bytes.false) c.loop-i.invariant.1 (omega arith))

pub returns-then-e-ge16 : goal.returns-then-e-ge16
returns-then-e-ge16 c =
    let b = c.same_bytes-then-e-ge16.ensures in
    told (search rules) (tells_join (tells_bytes 0 16 _ (omega arith) b.yes b.no) c.loop-i.invariant.1 (omega arith) (search rules))

pub returns : goal.returns
returns c = told (search rules) (tells_join c.same_head.ensures c.loop-i.invariant.1 (omega arith) (search rules))
