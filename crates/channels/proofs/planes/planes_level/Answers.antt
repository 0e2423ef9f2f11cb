-- `channels::planes::planes_level`: level by level.
use Rattle.format.specs.Bytes.{ascii}
use Rattle.channels.proofs.Levels.{no_metadata, no_pictures, new_planes, old_planes}
use Rattle.channels.proofs.planes.planes_level.Goals as goal

pub returns-in_err-i : goal.returns-in_err-i
unfolding ascii
returns-in_err-i c = rw c.from_residual.ensures (no_metadata _ _ c.in_err-i.ensures.0, tt)

pub returns-in_err-j : goal.returns-in_err-j
unfolding ascii
returns-in_err-j c = rw c.from_residual-in_err-j.ensures (no_pictures _ _ _ c.in_ok-i.ensures.0 c.in_err-j.ensures.0, tt)

pub returns-in-Some : goal.returns-in-Some
unfolding ascii
returns-in-Some c = (new_planes _ _ _ c.in_ok-i.ensures.0 _ c.in_ok-j.ensures.0 _ c.in-Some.ensures.0, c.in-Some.ensures.1)

pub returns-in-None : goal.returns-in-None
unfolding ascii
returns-in-None c =
    let old = c.get_level-in-None.ensures in
    (old_planes _ _ _ c.in_ok-i.ensures.0 _ c.in_ok-j.ensures.0 c.in-None.ensures.0 old.0, old.1)
