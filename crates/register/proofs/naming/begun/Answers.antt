-- `begun`: the last eight of the thirteen bytes differ, or the first eight decide.
use Rattle.std.proofs.Common.{refl, ◌∙◌, arith}
use Rattle.format.specs.Bytes.{ascii, part}
use Rattle.chunk.proofs.Comparing.{differs, tells_bytes, tells_join, told}
use Rattle.register.proofs.naming.begun.Goals as goal

pub returns-else-same_bytes : goal.returns-else-same_bytes
unfolding ascii part
returns-else-same_bytes c =
    let b = c.same_bytes.ensures in
    let last = tells_bytes 5 8 _ refl b.yes b.no in
    c.if-same_bytes.false
    ∙ told {at = 0} {e = ascii "ImageDataSeq|"} (omega arith) (differs (last.no c.if-same_bytes.false) (omega arith) (omega arith))

pub returns-then-same_bytes : goal.returns-then-same_bytes
unfolding ascii part
returns-then-same_bytes c =
    let b = c.same_bytes.ensures in
    let d = c.same_bytes-then-same_bytes.ensures in
    let last = tells_bytes 5 8 _ refl b.yes b.no in
    let first = tells_bytes 0 8 _ refl d.yes d.no in
    told {at = 0} {e = ascii "ImageDataSeq|"} (omega arith) (tells_join first (last.yes c.if-same_bytes.true) (omega arith) (omega arith))
