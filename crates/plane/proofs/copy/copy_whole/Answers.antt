-- `copy_whole`: one run where the rows have nothing between them; else row by row, or by turns.
use mathlib.Core.Path.{◌≡◌}
use native.Mathlib.Omega.{arith}
use Rattle.format.specs.Bytes.{part}
use Rattle.plane.proofs.Rows.{pieces_once}
use Rattle.plane.proofs.copy.copy_whole.Goals as goal

pub returns-then-w-stride : goal.returns-then-w-stride
unfolding part
returns-then-w-stride c =
    let a = c.args in
    let q = c.copy_with_lead in
    let e : a.w ≡ a.stride = omega arith in
    pieces_once a.src.now a.dst.now q.new.dst a.w a.stride a.count e (rw e c.requires.1) q.ensures
