-- `alike`: the names of two entries are compared.
use Rattle.format.specs.Values.{name_of}
use Rattle.lookup.proofs.named.alike.Goals as goal

pub returns : goal.returns
unfolding name_of
returns c = rw (c.name_at.ensures, c.units_at.ensures) at c.same_name.ensures
