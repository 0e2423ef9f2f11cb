-- Document 01, The grammar: the z step, and what calibration gives, as rules.
use Rattle.std.specs.Prelude.{ℕ, ◌<◌, ◌≡◌, Bool, true, false, List, [], ◌∷◌, ℤ, pos, Float}
use Rattle.std.proofs.Math.Option.{Option, none, some}
use Rattle.std.specs.Float.{fin, binary64}
use Rattle.std.specs.Float.Ieee.{of_int, ne, lt, sub, div}
use Rattle.format.specs.Bytes.{ascii}
use Rattle.format.specs.Map.{MapEntry}
use Rattle.format.specs.Values.{level}
use Rattle.format.specs.Numbers.{zero_float, one_float, magnitude, narrow}
use Rattle.format.specs.Calibration.{least_step, most_step}
use Rattle.format.specs.Grammar.Map.{Named}
use Rattle.format.specs.Grammar.Trees.{Tree, Faulty}
use Rattle.format.specs.Grammar.Values.{Field}
use Rattle.format.specs.Grammar.Numbers.{Signed, Double}
use Rattle.format.specs.Grammar.Loops.{Parameters, UiCount, Below}
use Rattle.format.specs.Refusals as why
use Rattle.format.specs.declared.Range.{Range}
use Rattle.format.specs.declared.Entry.{Entry}
use Rattle.format.specs.declared.Calibration.{Calibration}

-- ---- the z step

module _ (s : List ℕ) (es : List Entry) where
  -- the level i is a Z loop's, of eType 4, with the parameters p
  pub record Focus (i p : ℕ) : Type 0 where
    pub parameters : Parameters s es i p
    pub kind : Signed s es i (ascii "eType") (pos 4)

  -- dZStep is there, and neither 0 nor −0
  pub record StatedStep (p : ℕ) (x : Float) : Type 0 where
    pub stated : Double s es p (ascii "dZStep") x
    pub not_zero : ne x zero_float ≡ true

  -- The step that the level i states: dZStep without a minus sign. Where there is no such dZStep, and uiCount is over 1: |dZHigh − dZLow| ÷ (uiCount − 1), each
  -- step an operation of f64, with uiCount made a double first.
  pub data StepOf (i : ℕ) : Float → Type 0 where
    stated : {p : ℕ} {x : Float} → Focus i p → StatedStep p x → StepOf i (magnitude x)
    spanned : {p n : ℕ} {high low : Float} → Focus i p → ((x : Float) → StatedStep p x → ⊥) → UiCount s es p n → 1 < n
        → Double s es p (ascii "dZHigh") high → Double s es p (ascii "dZLow") low
        → StepOf i (div binary64 (magnitude (sub binary64 high low)) (sub binary64 (of_int binary64 (pos n)) one_float))

  abbrev pub NoStep : ℕ → Type 0
  NoStep i = (x : Float) → StepOf i x → ⊥

  -- the z step of the experiment levels `is`, the first that one of them states: a level comes before those below it, and these are searched even if it stops
  pub data Steps : List ℕ → Option Float → Type 0 where
    nowhere : Steps [] none
    own : {i : ℕ} {is : List ℕ} {x : Float} → StepOf i x → Steps (i ∷ is) (some x)
    below : {i : ℕ} {is ks : List ℕ} {x : Float} → NoStep i → Below s es i ks → Steps ks (some x) → Steps (i ∷ is) (some x)
    beside : {i : ℕ} {is ks : List ℕ} {z : Option Float} → NoStep i → Below s es i ks → Steps ks none → Steps is z → Steps (i ∷ is) z

-- no NaN and no infinity
pub data Finite : Float → Type 0 where
  number : {sign : Bool} {m : ℕ} {e : ℤ} → Finite (fin sign m e)

-- a step that is a distance: above 0 and finite
pub record Distance (x : Float) : Type 0 where
  pub above_0 : lt zero_float x ≡ true
  pub finite : Finite x

-- The class of the step that was found, rounded to f32, and the z that is kept: only a step within the limits, of class 1, is.
pub data Classed : Option Float → ℕ → Float → Type 0 where
  no_step : Classed none 0 zero_float
  no_distance : {x : Float} → (Distance (narrow x) → ⊥) → Classed (some x) 0 zero_float
  smaller : {x : Float} → Distance (narrow x) → lt (narrow x) least_step ≡ true → Classed (some x) 2 zero_float
  larger : {x : Float} → Distance (narrow x) → lt (narrow x) least_step ≡ false → lt most_step (narrow x) ≡ true → Classed (some x) 3 zero_float
  used : {x : Float} → Distance (narrow x) → lt (narrow x) least_step ≡ false → lt most_step (narrow x) ≡ false → Classed (some x) 1 (narrow x)

-- ---- the calibration

-- the pixel size that a tree states: dCalibration in SLxCalibration, where it is above 0
pub record PixelSize (s : List ℕ) (es : List Entry) (x : Float) : Type 0 where
  pub at_level : ℕ
  pub level_there : Field s es 0 (ascii "SLxCalibration") (level at_level)
  pub stated : Double s es at_level (ascii "dCalibration") x
  pub above_0 : lt zero_float x ≡ true

-- the map has the calibration's chunk, whose data is r
abbrev pub CalibrationAt : List ℕ → List ℕ → List MapEntry → Range → Type 0
CalibrationAt s m es r = Named s m es (ascii "ImageCalibrationLV|0!") r

-- What calibration gives, where z is the step that was found: a pixel size makes state 1, a tree that ends at a packed record state 2, and all else state 0;
-- without a pixel size every other number is zero.
pub data Calibrated (s m : List ℕ) (es : List MapEntry) (z : Option Float) : Calibration → Type 0 where
  sized : {r : Range} {ts : List Entry} {x : Float} {c : ℕ} {y : Float} → CalibrationAt s m es r → Tree s r ts → PixelSize s ts x → Classed z c y
      → Calibrated s m es z (record { state = 1; size = narrow x; class = c; z = y })
  unsized : {r : Range} {ts : List Entry} → CalibrationAt s m es r → Tree s r ts → ((x : Float) → PixelSize s ts x → ⊥)
      → Calibrated s m es z (record { state = 0; size = zero_float; class = 0; z = zero_float })
  ends_packed : {r : Range} → CalibrationAt s m es r → Faulty s r why.packed
      → Calibrated s m es z (record { state = 2; size = zero_float; class = 0; z = zero_float })
  faulty : {r : Range} {n : ℕ} → CalibrationAt s m es r → Faulty s r n → (n ≡ why.packed → ⊥)
      → Calibrated s m es z (record { state = 0; size = zero_float; class = 0; z = zero_float })
  missing : ((r : Range) → CalibrationAt s m es r → ⊥)
      → Calibrated s m es z (record { state = 0; size = zero_float; class = 0; z = zero_float })
