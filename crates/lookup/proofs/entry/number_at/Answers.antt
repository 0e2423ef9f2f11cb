-- Eight bytes are four and four.
use native.Mathlib.Omega.{arith}
use Rattle.format.proofs.Ground.Bytes.{le_join}
use Rattle.lookup.proofs.entry.number_at.Goals as goal

pub returns : goal.returns
returns c = rw (le_join 4 4) (omega arith)
