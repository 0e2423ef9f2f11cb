-- `nd2_plane`: the plane call on the summary that the bytes say.
use Rattle.std.proofs.Common.{sym, ◌∙◌}
use Rattle.capi.proofs.OnSummary.{said, where_said, accepted_said}
use Rattle.capi.proofs.nd2_plane.Goals as goal

pub returns-clause-accepted : goal.returns-clause-accepted
returns-clause-accepted c = accepted_said _ _ c.in-Some.ensures _ c.number_of.ensures c.plane.ensures.accepted

pub returns-clause-named : goal.returns-clause-named
returns-clause-named c = rw c.number_of.ensures (where_said _ _ c.in-Some.ensures _ c.plane.ensures.named)
