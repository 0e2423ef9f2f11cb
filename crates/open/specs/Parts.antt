-- The parts of an opening, in order, each with all that follows it; and what an answer says of them.
use Rattle.std.specs.Prelude.{ℕ, ◌≡◌, List, ltb, Float}
use Rattle.std.specs.Prelude as std
use Rattle.std.proofs.Math.Option.{Option}
use Rattle.format.specs.Bytes.{ascii, most64}
use Rattle.format.specs.Answer.{Answer, given, refused, refuse_if, and_then, or_refuse}
use Rattle.format.specs.Refusals as why
use Rattle.format.specs.Trees.{most_depth}
use Rattle.format.specs.Values.{field, as_level}
use Rattle.format.specs.Attributes.{attributes, plane_bytes}
use Rattle.format.specs.Loops.{experiment}
use Rattle.format.specs.Calibration.{z_step, z_float, calibration_by}
use Rattle.format.specs.Summary.{summary_of}
use Rattle.format.specs.declared.Range.{Range}
use Rattle.format.specs.declared.Entry.{Entry}
use Rattle.format.specs.declared.Attributes.{Attributes}
use Rattle.format.specs.declared.Loop.{Loop}
use Rattle.format.specs.declared.Summary.{Summary}
use Rattle.format.specs.Given.{number}
use Rattle.format.specs.declared.refusal.Refusal.{Refusal}
use Rattle.number.specs.Readings.{real}
use Rattle.experiment.specs.Kept.{placed}
use Rattle.named_tree.specs.Named.{tree_under}
use Rattle.open.specs.declared.Recorded.{Recorded}

-- ---- the answers

-- what an experiment gives: its loops and its z step
pub record Run : Type 0 where
  pub loops : List Loop
  pub step : Option Float

-- e is the loops and the z step of an experiment
pub record Records (e : Recorded) (x : Run) : Type 0 where
  pub loops : e.loops ≡ placed x.loops
  pub step : real e.z ≡ x.step

-- the loops and the z step of an answer, or its refusal
pub data Tells : std.Result Recorded Refusal → Answer Run → Type 0 where
  accepted : {e : Recorded} {x : Run} → Records e x → Tells (std.Ok e) (given x)
  turned : {e : Refusal} {n : ℕ} → number e ≡ n → Tells (std.Err e) (refused n)

-- ---- the parts

-- the loops and the z step of the experiment in a tree: 11, loops
unfoldable pub run_in : List ℕ → List Entry → Answer Run
unfolding ascii
run_in s es =
    and_then (or_refuse (as_level (field s es 0 (ascii "SLxExperiment"))) why.missing) λ i.
    and_then (experiment s es i) λ ls.
    given (record { loops = ls; step = z_step most_depth s es i })

-- After the experiment: plane product 14, calibration. The map has c under the calibration's name.
unfoldable pub after_run : List ℕ → ℕ → Range → Answer (Option ℕ) → Attributes → Run → Answer Summary
unfolding ascii
after_run s room m c a x =
    refuse_if (ltb most64 (plane_bytes a)) why.frame_shape
    (and_then (calibration_by s (z_float x.step) (tree_under s room (ascii "ImageCalibrationLV|0!") c)) λ k. given (summary_of m a x.loops k))

-- After the attributes: the experiment. The map has b under its name.
unfoldable pub after_attributes : List ℕ → ℕ → Range → Answer (Option ℕ) → Answer (Option ℕ) → Attributes → Answer Summary
unfolding ascii run_in after_run
after_attributes s room m b c a = and_then (tree_under s room (ascii "ImageMetadataLV!") b) λ es. and_then (run_in s es) (after_run s room m c a)

-- After the map: the attributes. The map has a under their name.
unfoldable pub after_map : List ℕ → ℕ → Range → Answer (Option ℕ) → Answer (Option ℕ) → Answer (Option ℕ) → Answer Summary
unfolding ascii after_attributes
after_map s room m a b c = and_then (and_then (tree_under s room (ascii "ImageAttributesLV!") a) (attributes s)) (after_attributes s room m b c)
