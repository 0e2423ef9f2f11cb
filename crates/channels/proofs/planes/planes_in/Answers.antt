-- `channels::planes::planes_in`: the child levels of the level, if there is one.
use mathlib.Core.Path.{sym, ap, ◌∙◌}
use mathlib.Core.List.{List, map}
use lib.ListN.{get_or}
use Rattle.format.specs.Channels.{empty_channel, PlaneRecord, plane_record, covered}
use Rattle.lookup.specs.Values.{meaning, field_meaning}
use Rattle.lookup.specs.View.{bytes, entries}
use Rattle.channels.proofs.Levels.{planes_at, planes_none}
use Rattle.channels.proofs.Rows.{none_left}
use Rattle.channels.proofs.planes.planes_in.Goals as goal

pub returns-in_default : goal.returns-in_default
returns-in_default c = none_left _ _ c.args.most c.no_planes.ensures (planes_none _ _ c.in_default.ensures.0)

pub returns : goal.returns
unfolding field_meaning meaning
returns c =
    let a = c.args in
    let s = bytes a.tree in
    let es = entries a.tree in
    let l = planes_at s es _ c.in-Some.ensures.0 ∙ ap (map (plane_record s es)) c.children-turn.ensures.rest in
    let p = c.planes_from.ensures in
    (p.0, λ k. p.1 k ∙ ap (λ (ps : List PlaneRecord). get_or (covered a.most ps) k empty_channel) (sym l))
