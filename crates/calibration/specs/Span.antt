-- The step that a loop's parameters give where no dZStep counts.
use Rattle.std.specs.Prelude.{ℕ, List, Float}
use Rattle.std.proofs.Math.Option.{Option}
use Rattle.format.specs.Bytes.{ascii}
use Rattle.format.specs.Values.{field_in, bind}
use Rattle.format.specs.Numbers.{float}
use Rattle.format.specs.Loops.{count_field}
use Rattle.format.specs.Calibration.{span_step}
use Rattle.format.specs.declared.Entry.{Entry}

-- the step from dZLow to dZHigh in uiCount values, as the level p has them
abbrev pub span_in : List ℕ → List Entry → ℕ → Option Float
unfolding ascii
span_in s es p = span_step (count_field s es p) (bind (field_in s es p (ascii "dZHigh")) float) (bind (field_in s es p (ascii "dZLow")) float)
