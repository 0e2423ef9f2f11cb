-- `copy_four`: each sample behind the one before it.
use mathlib.Core.Path.{◌∙◌}
use Rattle.plane.proofs.Rows.{four_stored}
use Rattle.plane.proofs.gather.copy_four.Goals as goal

pub returns : goal.returns
returns g c =
    let a = c.args in
    c.copy_sample-4.ensures ∙ rw (c.copy_sample-3.ensures, c.copy_sample-2.ensures, c.copy_sample.ensures)
    (four_stored a.src.now a.dst.now a.from a.step g.row.SIZE a.to c.requires.0)
