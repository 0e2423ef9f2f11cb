-- `accepted`: the summary is put together.
use mathlib.Core.Path.{refl}
use Rattle.format.specs.Summary.{summary_of}
use Rattle.open.proofs.accepted.Goals as goal

pub returns : goal.returns
unfolding summary_of
returns c ls p = rw p refl
