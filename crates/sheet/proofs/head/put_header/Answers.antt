-- `put_header`: three numbers, one after another.
use Rattle.sheet.proofs.Heads.{header_stored}
use Rattle.sheet.proofs.head.put_header.Goals as goal

pub returns : goal.returns
returns c = rw (c.put-3.ensures, c.put-2.ensures, c.put.ensures) (header_stored _)
