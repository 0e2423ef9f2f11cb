-- `channels::planes::next_component`: the next component of the same plane, or those of the planes behind it.
use mathlib.Core.Path.{refl}
use Rattle.channels.proofs.Rows.{same_plane, next_planes}
use Rattle.channels.proofs.planes.next_component.Goals as goal

pub returns-then-p-eq0 : goal.returns-then-p-eq0
returns-then-p-eq0 c = next_planes _ _ c.if-p-eq0.true c.planes_from.ensures

pub returns : goal.returns
returns c = same_plane _ _ c.requires c.if-p-eq0.false refl
