-- `channels::planes::no_planes`: the empty record, and nothing left.
use mathlib.Core.Path.{ap}
use Rattle.format.specs.declared.Channel.{Channel}
use Rattle.lookup.specs.declared.Turn.TheVariants.{Over}
use Rattle.channels.proofs.planes.no_planes.Goals as goal

pub returns : goal.returns
returns c = ap (λ (x : Channel). record { channel = x; again = 0; rest = Over; left = 0; used = 0 }) c.no_channel.ensures
