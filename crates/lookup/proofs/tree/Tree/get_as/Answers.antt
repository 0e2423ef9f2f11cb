-- The reading is that of the field's value.
use Rattle.lookup.proofs.Fields.{read_is, read_absent}
use Rattle.lookup.proofs.tree.Tree.get_as.Goals as goal

pub returns-in_err-get : goal.returns-in_err-get
returns-in_err-get g c = rw c.from_residual.ensures (read_absent _ _ g.T.Reading.reading _ _ c.in_err-get.was c.get.ensures.0)

pub returns : goal.returns
returns g c = read_is _ _ g.T.Reading.reading _ _ _ _ c.in_ok-get.was c.get.ensures.0 (c.read.ensures _ _)
