-- `frame_of`: the map lies in the file, and the indices are those of frames.
use mathlib.Core.Path.{sym, ◌∙◌}
use Rattle.format.proofs.Files.SummaryTest.{sound_read}
use Rattle.format.proofs.Calls.Plane.{index_read}
use Rattle.plane.proofs.frame_of.Goals as goal

pub data_of-map-requires : goal.data_of-map-requires
data_of-map-requires c =
    let a = c.args in
    (sound_read a.file.now a.u (sym c.bad_summary.ensures ∙ c.if-bad_summary.false)).map_within

pub seq_index-n-requires : goal.seq_index-n-requires
seq_index-n-requires c =
    let a = c.args in
    let g = sound_read a.file.now a.u (sym c.bad_summary.ensures ∙ c.if-bad_summary.false) in
    (g.loops_counted, g.loops_distinct, (index_read a.u a.scene a.t a.c a.z (sym c.bad_index.ensures ∙ c.if-bad_index.false)).0)
