-- `put_place`: four bytes, and eight behind them.
use Rattle.register.proofs.Records.{stored_place}
use Rattle.register.proofs.put_place.Goals as goal

pub returns : goal.returns
returns c = stored_place _ _ _ _ c.put.ensures c.put-2.ensures
