-- `Cursor::read_clx_bytes` reads bytes as the format does.
use mathlib.Core.Path.{sym}
use Rattle.std.proofs.lemmas.Result.{err_from_is_err_and}
use Rattle.cursor.proofs.Answers.{bytes_unsized, bytes_sized}
use Rattle.cursor.proofs.Cursor.read_clx_bytes.Goals as goal

pub returns-in_err-n : goal.returns-in_err-n
returns-in_err-n c =
    let p = err_from_is_err_and c.from_residual.result c.from_residual.ensures.1 in
    rw (p.1, p.2) (bytes_unsized _ _ c.requires _ (sym c.in_err-n.ensures.0))

pub returns : goal.returns
returns c =
    let w = c.in_ok-n.ensures in
    bytes_sized _ _ c.requires (sym w.0) (c.take.ensures _ w.1.0)
