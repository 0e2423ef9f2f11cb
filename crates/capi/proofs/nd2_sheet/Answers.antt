-- `nd2_sheet`: the sheet call on the summary that the bytes say.
use Rattle.std.proofs.Common.{sym, ◌∙◌}
use Rattle.capi.proofs.OnSummary.{said, where_said, accepted_said}
use Rattle.capi.proofs.nd2_sheet.Goals as goal

pub returns-clause-accepted : goal.returns-clause-accepted
returns-clause-accepted c = accepted_said _ _ c.in-Some.ensures _ c.number_of.ensures c.sheet.ensures.accepted

pub returns-clause-plane : goal.returns-clause-plane
returns-clause-plane c z = said _ _ c.in-Some.ensures _ (c.sheet.ensures.plane (sym c.number_of.ensures ∙ z))

pub returns-clause-named : goal.returns-clause-named
returns-clause-named c = rw c.number_of.ensures (where_said _ _ c.in-Some.ensures _ c.sheet.ensures.named)
