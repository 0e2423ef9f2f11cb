-- The search goes through the level's run.
use mathlib.Core.Path.{◌∙◌}
use Rattle.lookup.proofs.Search.{find_run, within_more}
use Rattle.lookup.proofs.tree.Tree.get_entry.Goals as goal

pub last_named-requires : goal.last_named-requires
last_named-requires c =
    let r = c.end_of-end.ensures.below in
    (r.low, r.high, tt)

pub returns : goal.returns
returns c =
    let u = c.end_of-end.ensures in (
      c.last_named.ensures.0 ∙ find_run _ _ _ _ _ _ u c.requires.1,
      within_more _ _ c.last_named.result u.below.high c.last_named.ensures.1,
    )
