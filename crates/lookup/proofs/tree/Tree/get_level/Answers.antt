-- The level is that of the entry that is found.
use Rattle.lookup.proofs.Fields.{level_none, level_some}
use Rattle.lookup.proofs.tree.Tree.get_level.Goals as goal

pub returns-in_err-get_entry : goal.returns-in_err-get_entry
returns-in_err-get_entry c =
    rw c.from_residual.ensures (level_none _ _ _ _ c.in_err-get_entry.ensures.0, tt)

pub returns : goal.returns
returns c = (
  level_some _ _ _ _ _ _ c.in_ok-get_entry.ensures.0 (c.level_at.ensures.0 _),
  c.level_at.ensures.1,
)
