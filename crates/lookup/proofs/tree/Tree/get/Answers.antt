-- The value is that of the entry that is found.
use Rattle.lookup.specs.Values.{field_meaning}
use Rattle.lookup.proofs.Fields.{field_none, field_some}
use Rattle.lookup.proofs.tree.Tree.get.Goals as goal

pub returns-in_err-i : goal.returns-in_err-i
unfolding field_meaning
returns-in_err-i c = rw c.from_residual.ensures (field_none _ _ _ _ c.in_err-i.ensures.0, tt)

pub returns : goal.returns
unfolding field_meaning
returns c = (
  field_some _ _ _ _ _ _ c.in_ok-i.ensures.0 c.value_at.ensures.0,
  c.value_at.ensures.1,
)
