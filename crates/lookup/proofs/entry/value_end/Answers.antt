-- Place and size are the fourth and fifth of an entry's six numbers, and their sum is small.
use native.Mathlib.Omega.{arith}
use Rattle.lookup.specs.Table.{entry_in}
use Rattle.lookup.proofs.entry.value_end.Goals as goal

pub overflow_add-result : goal.overflow_add-result
unfolding entry_in
overflow_add-result c =
    let h = c.requires.0.short _ c.requires.1 in omega (arith, h, c.number_at.ensures, c.number_at-2.ensures)

pub returns : goal.returns
unfolding entry_in
returns c = rw (c.number_at.ensures, c.number_at-2.ensures)
