-- `put_absent`: the three indices, and the place of an absent frame behind them.
use Rattle.register.proofs.Records.{stored_record}
use Rattle.register.proofs.put_absent.Goals as goal

pub returns : goal.returns
returns c m ls n p t z =
    stored_record m ls n _ _ p t z c.put.ensures c.put-2.ensures c.put-3.ensures c.put_place.ensures
