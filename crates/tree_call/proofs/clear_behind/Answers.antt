-- `tree_call::clear_behind`: the part behind the entries is made zero.
use Rattle.tree_call.proofs.Cleared.{cleared_behind}
use Rattle.tree_call.proofs.clear_behind.Goals as goal

pub returns : goal.returns
returns c = cleared_behind _ _ _ c.requires c.clear.ensures
