-- `spelled`: the name of an entry is compared.
use Rattle.format.specs.Values.{name_of}
use Rattle.lookup.proofs.named.spelled.Goals as goal

pub returns : goal.returns
unfolding name_of
returns c = rw (c.name_at.ensures, c.units_at.ensures) at c.name_is.ensures
