-- `copy_row`: the row's bytes stand in its place.
use native.Mathlib.Omega.{arith}
use Rattle.plane.proofs.Apart.{row_put}
use Rattle.plane.proofs.copy.copy_row.Goals as goal

pub returns : goal.returns
returns c =
    let a = c.args in
    let q = c.copy_long in
    row_put a.src.now a.dst.now a.stride a.w a.k (omega (arith, c.requires)) c.requires.3 q.new.dst q.ensures
