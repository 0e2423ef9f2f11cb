-- `copy_rows`: where a pixel has one sample, the samples of a row are its first bytes.
use native.Mathlib.Omega.{arith}
use Rattle.plane.proofs.Samples.{all_in, one_in, one_rows}
use Rattle.plane.proofs.component.copy_rows.Goals as goal

pub overflow_mul-w : goal.overflow_mul-w
overflow_mul-w c = omega (arith, one_in c.requires.1 c.requires.0)

pub copy_whole-requires : goal.copy_whole-requires
copy_whole-requires c =
    let f = c.requires.1 in (one_in f c.requires.0, f.whole, all_in f)

pub returns : goal.returns
returns c =
    rw (← one_rows c.requires.1 c.requires.0 c.args.rows.now) at c.copy_whole.ensures
