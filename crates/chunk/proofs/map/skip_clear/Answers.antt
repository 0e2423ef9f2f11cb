-- As many blocks of 16 bytes as there are, up to three.
use mathlib.Core.Path.{refl}
use native.Mathlib.Omega.{arith}
use borrow.Author.Rules.{rules}
use Rattle.chunk.proofs.Marks.{ahead_first, ahead_then, skipped_none, skipped_ahead}
use Rattle.chunk.proofs.map.skip_clear.Goals as goal

pub returns-then-s-at-lt16 : goal.returns-then-s-at-lt16
returns-then-s-at-lt16 c = skipped_none _ _ (search rules)

pub returns-then-s-at-lt32 : goal.returns-then-s-at-lt32
returns-then-s-at-lt32 c = skipped_ahead (ahead_first c.marks16-a.ensures c.first16.ensures.0) (omega arith)

pub returns-then-s-at-lt48 : goal.returns-then-s-at-lt48
returns-then-s-at-lt48 c =
    let behind = ahead_first c.marks16-b.ensures c.first16-then-s-at-lt48.ensures.0 in
    skipped_ahead (ahead_then c.marks16-a.ensures behind refl c.then16.ensures.0) (omega arith)

pub returns : goal.returns
returns c =
    let last = ahead_first c.marks16-c.ensures c.first16-2.ensures.0 in
    let behind = ahead_then c.marks16-b.ensures last (omega arith) c.then16-2.ensures.0 in
    skipped_ahead (ahead_then c.marks16-a.ensures behind refl c.then16-3.ensures.0) (omega arith)
