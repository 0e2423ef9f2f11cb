-- `nd2_tree`: the tree call on the summary that the bytes say.
use Rattle.std.proofs.Common.{sym, ◌∙◌}
use Rattle.capi.proofs.OnSummary.{said, where_said, accepted_said}
use Rattle.capi.proofs.nd2_tree.Goals as goal

pub returns-clause-accepted : goal.returns-clause-accepted
returns-clause-accepted c = accepted_said _ _ c.in-Some.ensures _ c.number_of.ensures c.tree.ensures.accepted

pub returns-clause-named : goal.returns-clause-named
returns-clause-named c = rw c.number_of.ensures (where_said _ _ c.in-Some.ensures _ c.tree.ensures.named)
