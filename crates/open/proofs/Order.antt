-- An opening is its parts in order: the map, and after it the attributes, the experiment and the calibration. Assumes nothing.
use Prim.Native.Nat.{ℕ}
use mathlib.Core.Path.{◌≡◌, refl, sym, ◌∙◌}
use mathlib.Core.Option.{Option}
use mathlib.Core.List.{List}
use lib.Dec.{ltb}
use Rattle.format.specs.Answer.{Answer, given, refused, refuse_if, and_then, or_refuse}
use Rattle.format.specs.Refusals as why
use Rattle.format.specs.Bytes.{ascii, most64}
use Rattle.format.specs.Chunks.{data_in}
use Rattle.format.specs.Map.{MapEntry, map_range, map_entries, offset_of}
use Rattle.format.specs.Trees.{named_tree, most_depth}
use Rattle.format.specs.Values.{field, as_level}
use Rattle.format.specs.Attributes.{attributes, plane_bytes}
use Rattle.format.specs.Loops.{experiment}
use Rattle.format.specs.Calibration.{z_step, z_float, calibration}
use Rattle.format.specs.Summary.{summary_of}
use Rattle.format.specs.Calls.Open.{opened}
use Rattle.format.specs.declared.Range.{Range}
use Rattle.format.specs.declared.Entry.{Entry}
use Rattle.format.specs.declared.Attributes.{Attributes}
use Rattle.format.specs.declared.Loop.{Loop}
use Rattle.format.specs.declared.Summary.{Summary}
use Rattle.format.proofs.Ground.Answers.{go_on, stops}
use Rattle.chunk.specs.Answers.{find_in}
use Rattle.named_tree.specs.Named.{tree_under}
use Rattle.named_tree.proofs.Answers.{under_listed}
use Rattle.open.specs.Parts.{run_in, after_run, after_attributes, after_map}

-- ---- steps in a row

pub then_then : {A B C : Type 0} (x : Answer A) (f : A → Answer B) (g : B → Answer C) → and_then (and_then x f) g ≡ and_then x λ a. and_then (f a) g
unfolding and_then
then_then (refused n) f g = refl
then_then (given a) f g = refl

then_same : {A B : Type 0} (x : Answer A) (f g : A → Answer B) → ((a : A) → f a ≡ g a) → and_then x f ≡ and_then x g
unfolding and_then
then_same (refused n) f g h = refl
then_same (given a) f g h = h a

-- ---- the trees that the map's entries name

module _ (s : List ℕ) (room : ℕ) (r : Range) (map : List MapEntry) where
  -- what `opened` does after the attributes
  abbrev listed_after : Attributes → Answer Summary
  unfolding ascii
  listed_after a =
      and_then (named_tree s (data_in s r) map room (ascii "ImageMetadataLV!")) λ es.
      and_then (or_refuse (as_level (field s es 0 (ascii "SLxExperiment"))) why.missing) λ i.
      and_then (experiment s es i) λ ls.
      refuse_if (ltb most64 (plane_bytes a)) why.frame_shape
      (and_then (calibration s (data_in s r) map room (z_float (z_step most_depth s es i))) λ c.
      given (summary_of r a ls c))

  -- and with the map's entries
  abbrev listed : Answer Summary
  unfolding ascii
  listed = and_then (named_tree s (data_in s r) map room (ascii "ImageAttributesLV!")) λ ts. and_then (attributes s ts) listed_after

  abbrev at : List ℕ → Answer (Option ℕ)
  at name = given (offset_of (data_in s r) name map)

  after_run_is : (a : Attributes) (es : List Entry) (i : ℕ) (ls : List Loop)
      → refuse_if (ltb most64 (plane_bytes a)) why.frame_shape
      (and_then (calibration s (data_in s r) map room (z_float (z_step most_depth s es i))) λ c. given (summary_of r a ls c))
      ≡ after_run s room r (at (ascii "ImageCalibrationLV|0!")) a (record { loops = ls; step = z_step most_depth s es i })
  unfolding after_run calibration
  after_run_is a es i ls = rw (under_listed s room (ascii "ImageCalibrationLV|0!") (data_in s r) map) refl

  after_attributes_is : (a : Attributes) → listed_after a ≡ after_attributes s room r (at (ascii "ImageMetadataLV!")) (at (ascii "ImageCalibrationLV|0!")) a
  unfolding after_attributes run_in
  after_attributes_is a =
      rw (under_listed s room (ascii "ImageMetadataLV!") (data_in s r) map)
      (then_same (named_tree s (data_in s r) map room (ascii "ImageMetadataLV!")) _ _ λ es.
      let o = or_refuse (as_level (field s es 0 (ascii "SLxExperiment"))) why.missing in
      then_same o _ _ (λ i.
      then_same (experiment s es i) _ _ (λ ls. after_run_is a es i ls ∙ sym (go_on _ _ _ refl refl))
      ∙ sym (then_then (experiment s es i) _ _))
      ∙ sym (then_then o _ _))

  after_map_is : listed ≡ after_map s room r (at (ascii "ImageAttributesLV!")) (at (ascii "ImageMetadataLV!")) (at (ascii "ImageCalibrationLV|0!"))
  unfolding after_map
  after_map_is =
      rw (under_listed s room (ascii "ImageAttributesLV!") (data_in s r) map)
      (then_same (named_tree s (data_in s r) map room (ascii "ImageAttributesLV!")) _ _
      (λ ts. then_same (attributes s ts) _ _ after_attributes_is)
      ∙ sym (then_then (named_tree s (data_in s r) map room (ascii "ImageAttributesLV!")) _ _))

-- ---- the map

module _ (s : List ℕ) (room : ℕ) where
  pub map_refused : {n : ℕ} → refused n ≡ map_range s → opened s room ≡ refused n
  unfolding opened
  map_refused q = stops (map_range s) _ (sym q)

  module _ (r : Range) (q : given r ≡ map_range s) where
    map_read : opened s room
        ≡ after_map s room r (find_in (data_in s r) (ascii "ImageAttributesLV!")) (find_in (data_in s r) (ascii "ImageMetadataLV!"))
        (find_in (data_in s r) (ascii "ImageCalibrationLV|0!"))
    unfolding opened find_in
    map_read = go_on (map_range s) _ r (sym q) (go (map_entries (data_in s r)))
      where
        go : (x : Answer (List MapEntry)) → let found : List ℕ → Answer (Option ℕ) = λ name. and_then x λ es. given (offset_of (data_in s r) name es) in
            and_then x (listed s room r)
            ≡ after_map s room r (found (ascii "ImageAttributesLV!")) (found (ascii "ImageMetadataLV!")) (found (ascii "ImageCalibrationLV|0!"))
        go (refused n) = unfold and_then after_map tree_under in refl
        go (given es) = unfold and_then in after_map_is s room r es

    -- with what was looked up in the map's data d
    pub map_looked : {d : List ℕ} {x y z : Answer (Option ℕ)} → d ≡ data_in s r → x ≡ find_in d (ascii "ImageAttributesLV!")
        → y ≡ find_in d (ascii "ImageMetadataLV!") → z ≡ find_in d (ascii "ImageCalibrationLV|0!")
        → opened s room ≡ after_map s room r x y z
    map_looked e f g h = rw (f, g, h, e) map_read

    -- a map that is refused
    pub map_broken : {n : ℕ} (y z : Answer (Option ℕ)) → after_map s room r (refused n) y z ≡ refused n
    unfolding after_map tree_under and_then
    map_broken y z = refl
