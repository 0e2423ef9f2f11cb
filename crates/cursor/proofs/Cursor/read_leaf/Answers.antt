-- `Cursor::read_leaf` reads a value that is no level as the format does.
use native.Mathlib.Omega.{arith}
use Rattle.cursor.proofs.Answers.{leaf_same, value_bytes_is, value_text, value_fixed}
use Rattle.cursor.proofs.Cursor.read_leaf.Goals as goal

pub returns-in-9 : goal.returns-in-9
returns-in-9 c = λ children start. leaf_same _ _ (value_bytes_is _ children _ start _ _ c.in-9.is) c.read_clx_bytes.ensures

pub returns-in-8 : goal.returns-in-8
returns-in-8 c = λ children start. leaf_same _ _ (value_text _ children _ start _ _ c.in-8.is) c.read_clx_string.ensures

pub returns-in_default : goal.returns-in_default
returns-in_default c = λ children start.
    let p = c.requires in
    leaf_same _ _ (value_fixed _ children _ start _ _ p.1 (λ h. omega arith) (λ h. omega arith))
    (rw (← c.fixed_len.ensures.0) (c.take.ensures _ p.0))
