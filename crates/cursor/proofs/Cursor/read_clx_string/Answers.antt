-- `Cursor::read_clx_string` reads a text as the format does.
use mathlib.Core.Path.{ap}
use Prim.Native.Nat.{ℕ, ◌*◌}
use native.Mathlib.Omega.{arith}
use Rattle.cursor.proofs.Answers.{text_cut, text_ended}
use Rattle.cursor.proofs.Cursor.read_clx_string.Goals as goal

pub returns-then-end-after-lt2 : goal.returns-then-end-after-lt2
returns-then-end-after-lt2 c =
    text_cut _ _ c.requires (ap (λ (n : ℕ). 2 * n) c.text_units-size.ensures.0) (omega arith) c.if-end-after-lt2.true

pub returns : goal.returns
returns c =
    text_ended _ _ c.requires (ap (λ (n : ℕ). 2 * n) c.text_units-size.ensures.0) (omega arith) c.if-end-after-lt2.false
