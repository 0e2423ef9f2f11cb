-- `put_one`: two numbers.
use Rattle.sheet.proofs.Heads.{one_stored}
use Rattle.sheet.proofs.head.put_one.Goals as goal

pub returns : goal.returns
returns c = rw (c.put-2.ensures, c.put.ensures) (one_stored _ _)
