-- The size that a calibration tree has, above 0 or not.
use Rattle.std.specs.Prelude.{ℕ, List, Float}
use Rattle.std.proofs.Math.Option.{Option}
use Rattle.format.specs.Bytes.{ascii}
use Rattle.format.specs.Values.{field, field_in, as_level, bind}
use Rattle.format.specs.Numbers.{float}
use Rattle.format.specs.declared.Entry.{Entry}

-- dCalibration in the level SLxCalibration, as a double
abbrev pub size_in : List ℕ → List Entry → Option Float
unfolding ascii
size_in s es = bind (as_level (field s es 0 (ascii "SLxCalibration"))) λ i. bind (field_in s es i (ascii "dCalibration")) float
