-- Document 01, Calibration and channels: the pixel size and the z step.
use Rattle.std.specs.Prelude.{ℕ, zero, suc, Bool, true, false, cond, ◌&&◌, List, [], ◌∷◌, ltb, eqb, ℤ, pos, negsuc, Float}
use Rattle.std.proofs.Math.Option.{Option, none, some, or_else}
use Rattle.std.specs.Float.{binary32, binary64}
use Rattle.std.specs.Float.Ieee.{round, of_int, ne, lt, sub, div}
use Rattle.format.specs.Bytes.{ascii}
use Rattle.format.specs.Answer.{Answer, given, refused}
use Rattle.format.specs.Refusals as why
use Rattle.format.specs.Map.{MapEntry}
use Rattle.format.specs.Trees.{named_tree}
use Rattle.format.specs.Values.{field, field_in, as_level, bind}
use Rattle.format.specs.Numbers.{signed, float, narrow, magnitude, positive, finite, zero_float, one_float}
use Rattle.format.specs.Loops.{loop_params, child_levels, count_field}
use Rattle.format.specs.declared.Entry.{Entry}
use Rattle.format.specs.declared.Calibration.{Calibration}

-- ---- the z step

unfoldable pub first_of : (ℕ → Option Float) → List ℕ → Option Float
unfolding or_else
first_of f [] = none
first_of f (i ∷ is) = or_else (f i) (first_of f is)

-- whether an eType is that of a loop over z, 4
unfoldable pub is_four : Option ℤ → Bool
is_four none = false
is_four (some (pos n)) = eqb n 4
is_four (some (negsuc n)) = false

-- the step that dZStep states: none where it is 0 or −0, and without a minus sign
unfoldable pub stated_step : Option Float → Option Float
stated_step none = none
stated_step (some x) = cond (ne x zero_float) (some (magnitude x)) none

-- the step of n values from lo to hi: none where n is 1 or 0, else |hi − lo| ÷ (n − 1), each step an operation of f64, with n made a double first
unfoldable pub span_step : ℕ → Option Float → Option Float → Option Float
span_step n none lo = none
span_step n (some hi) none = none
span_step n (some hi) (some lo) =
    cond (ltb 1 n) (some (div binary64 (magnitude (sub binary64 hi lo)) (sub binary64 (of_int binary64 (pos n)) one_float))) none

unfoldable pub own_step : List ℕ → List Entry → Bool → Option ℕ → Option Float
unfolding stated_step span_step or_else ascii
own_step s es false p = none
own_step s es true none = none
own_step s es true (some p) =
    let number : List ℕ → Option Float = λ n. bind (field_in s es p n) float in
    or_else (stated_step (number (ascii "dZStep"))) (span_step (count_field s es p) (number (ascii "dZHigh")) (number (ascii "dZLow")))

-- the step that the level i itself states
unfoldable pub step_at : List ℕ → List Entry → ℕ → Option Float
unfolding own_step is_four ascii
step_at s es i = own_step s es (is_four (bind (field_in s es i (ascii "eType")) signed)) (loop_params s es (field_in s es i (ascii "uLoopPars")))

-- the first step that is stated by the level i or one below it, even if i says no loop: with `levels` depths left
unfoldable pub z_step : ℕ → List ℕ → List Entry → ℕ → Option Float
unfolding step_at first_of ascii or_else
z_step zero s es i = none
z_step (suc levels) s es i =
    or_else (step_at s es i)
    (first_of (z_step levels s es) (child_levels s es (field_in s es i (ascii "ppNextLevelEx"))))

-- the limits of class 1: the f32 nearest to 1 / 1,000,000 and to 1,000
abbrev pub least_step : Float
least_step = round binary32 false 1 1_000_000

abbrev pub most_step : Float
most_step = round binary32 false 1000 1

-- the class of a step in f32: 1 within the limits, 2 below them, 3 above them, and 0 where it is no finite number above 0 or not there
unfoldable pub z_class : Option Float → ℕ
z_class none = 0
z_class (some x) = cond (positive x && finite x) (cond (lt x least_step) 2 (cond (lt most_step x) 3 1)) 0

-- the step in f32
unfoldable pub z_float : Option Float → Option Float
z_float none = none
z_float (some x) = some (narrow x)

-- ---- the pixel size

-- a size that is above 0
unfoldable pub above_zero : Option Float → Option Float
above_zero none = none
above_zero (some x) = cond (positive x) (some x) none

-- the pixel size that a tree states: dCalibration in the level SLxCalibration
unfoldable pub pixel_size : List ℕ → List Entry → Option Float
unfolding above_zero ascii
pixel_size s es =
    above_zero (bind (as_level (field s es 0 (ascii "SLxCalibration"))) λ i. bind (field_in s es i (ascii "dCalibration")) float)

-- ---- what calibration gives

-- a calibration without a pixel size: its state, 0 or 2, and zeros
unfoldable pub unstated : ℕ → Calibration
unstated n = record { state = n; size = zero_float; class = 0; z = zero_float }

-- the z of a step of class n: the step in class 1, and 0 in the others
unfoldable pub kept_z : ℕ → Option Float → Float
kept_z n none = zero_float
kept_z n (some z) = cond (eqb n 1) z zero_float

-- what a tree with this pixel size states, or one without: the size is rounded to f32; z is the step in f32
unfoldable pub stated : Option Float → Option Float → Calibration
unfolding kept_z
stated none z = unstated 0
stated (some c) z = record { state = 1; size = narrow c; class = z_class z; z = kept_z (z_class z) z }

-- 18 is a refusal; a packed record gives state 2, and every other fault, of the chunk or of its tree, state 0
unfoldable pub calibration_by : List ℕ → Option Float → Answer (List Entry) → Answer Calibration
unfolding stated
calibration_by s z (given es) = given (stated (pixel_size s es) z)
calibration_by s z (refused n) = cond (eqb n why.table) (refused why.table) (given (unstated (cond (eqb n why.packed) 2 0)))

-- what the chunk ImageCalibrationLV|0! states, read into a table of `room` entries; z is the step in f32
unfoldable pub calibration : List ℕ → List ℕ → List MapEntry → ℕ → Option Float → Answer Calibration
unfolding calibration_by ascii
calibration s m es room z = calibration_by s z (named_tree s m es room (ascii "ImageCalibrationLV|0!"))
