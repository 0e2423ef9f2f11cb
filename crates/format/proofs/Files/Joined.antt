-- What is opened is what the grammar joins to the bytes, where the table has entries enough. Assumes nothing.
use Prim.Native.Nat.{ℕ, ◌/◌, ◌≤◌}
use mathlib.Core.Path.{◌≡◌, sym, ap, ◌∙◌}
use mathlib.Core.Logic.{◌↔◌}
use mathlib.Core.Option.{Option, some}
use mathlib.Core.List.{List}
use native.Mathlib.Omega.{arith}
use lib.Dec.{ltb}
use lib.ListN.{length}
use lib.Ieee.{Float}
use borrow.Author.Tests.{ltb-false, le-ltb}
use Rattle.format.proofs.Ground.Answers.{refuse_if_given, and_then_given, or_refuse_given, given_inj, not_refused, go_on, found}
use Rattle.format.proofs.Trees.ByRules.{passed_read, read_passed}
use Rattle.format.proofs.Map.NamedTrees.{mapped_read, read_range, read_mapped, mapped_unique, tree_given, given_tree, all_fit, tree_means}
use Rattle.format.proofs.Stated.Fields.{level_at}
use Rattle.format.proofs.Stated.Attributes.{attributes_read, read_attributes}
use Rattle.format.proofs.Loops.Walks.{loops_read, read_loops}
use Rattle.format.proofs.Stated.ZStep.{step_read, read_step}
use Rattle.format.proofs.Stated.Calibration.{calibration_read, read_calibration}
use Rattle.format.proofs.Trees.MostEntries.{suffices}
use Rattle.format.proofs.Trees.Depths.{tree_depths}
use Rattle.format.proofs.Files.SoundSummary.{distinct_three}
use Rattle.format.proofs.Files.SummaryEquations.{summary_read, read_summary}
use Rattle.format.specs.Answer.{given, or_refuse}
use Rattle.format.specs.Refusals as why
use Rattle.format.specs.Bytes.{ascii, most64}
use Rattle.format.specs.Chunks.{data_in}
use Rattle.format.specs.declared.Range.{Range}
use Rattle.format.specs.Map.{MapEntry, map_entries, map_range}
use Rattle.format.specs.Trees.{tree_in, most_depth, named_tree}
use Rattle.format.specs.Values.{field, level, as_level}
use Rattle.format.specs.declared.Attributes.{Attributes}
use Rattle.format.specs.Attributes.{attributes, plane_bytes}
use Rattle.format.specs.Loops.{experiment}
use Rattle.format.specs.Calibration.{z_step, z_float, calibration}
use Rattle.format.specs.declared.Calibration.{Calibration}
use Rattle.format.specs.Summary.{summary_of}
use Rattle.format.specs.Calls.Open.{opened}
use Rattle.format.specs.Grammar.Map.{Mapped, Named}
use Rattle.format.specs.Grammar.Trees.{PassedIn}
use Rattle.format.proofs.Values.Meaning.{Means}
use Rattle.format.specs.Grammar.Values.{Field}
use Rattle.format.specs.Grammar.Calibration.{Calibrated}
use Rattle.format.specs.Grammar.File.{Joined}
use Rattle.format.specs.Grammar.Table.{TreeRead, attributes as attributesTree, experiment as experimentTree, calibration as calibrationTree, Enough}
use Rattle.format.specs.declared.Entry.{Entry}
use Rattle.format.specs.declared.Loop.{Loop}
use Rattle.format.specs.declared.Summary.{Summary}

-- what each step of an opening gave, where its answer is the summary u
pub record OpenedBy (s : List ℕ) (room : ℕ) (u : Summary) : Type 0 where
  pub place : Range
  pub entries : List MapEntry
  pub attributes_tree : List Entry
  pub sizes : Attributes
  pub experiment_tree : List Entry
  pub outermost : ℕ
  pub loops : List Loop
  pub calibrated : Calibration
  pub range_found : map_range s ≡ given place
  pub map_read : map_entries (data_in s place) ≡ given entries
  pub attributes_read : named_tree s (data_in s place) entries room (ascii "ImageAttributesLV!") ≡ given attributes_tree
  pub sizes_read : attributes s attributes_tree ≡ given sizes
  pub experiment_read : named_tree s (data_in s place) entries room (ascii "ImageMetadataLV!") ≡ given experiment_tree
  pub level_found : as_level (field s experiment_tree 0 (ascii "SLxExperiment")) ≡ some outermost
  pub loops_read : experiment s experiment_tree outermost ≡ given loops
  pub plane_most : plane_bytes sizes ≤ most64
  pub calibration_read : calibration s (data_in s place) entries room (z_float (z_step most_depth s experiment_tree outermost)) ≡ given calibrated
  pub summary_is : u ≡ summary_of place sizes loops calibrated

module _ (s : List ℕ) (room : ℕ) (u : Summary) where
  pub opened_by : opened s room ≡ given u → OpenedBy s room u
  unfolding opened
  opened_by e =
      let (r, f₁, e₁) = and_then_given (map_range s) _ e in
      let m = data_in s r in
      let (es, f₂, e₂) = and_then_given (map_entries m) _ e₁ in
      let (ats, f₃, e₃) = and_then_given (named_tree s m es room (ascii "ImageAttributesLV!")) _ e₂ in
      let (a, f₄, e₄) = and_then_given (attributes s ats) _ e₃ in
      let (ts, f₅, e₅) = and_then_given (named_tree s m es room (ascii "ImageMetadataLV!")) _ e₄ in
      let (i, f₆, e₆) = and_then_given (or_refuse (as_level (field s ts 0 (ascii "SLxExperiment"))) why.missing) _ e₅ in
      let (ls, f₇, e₇) = and_then_given (experiment s ts i) _ e₆ in
      let (f₈, e₈) = refuse_if_given (ltb most64 (plane_bytes a)) why.frame_shape _ e₇ in
      let (c, f₉, e₉) = and_then_given (calibration s m es room (z_float (z_step most_depth s ts i))) _ e₈ in
      record {
        place = r;
        entries = es;
        attributes_tree = ats;
        sizes = a;
        experiment_tree = ts;
        outermost = i;
        loops = ls;
        calibrated = c;
        range_found = f₁;
        map_read = f₂;
        attributes_read = f₃;
        sizes_read = f₄;
        experiment_read = f₅;
        level_found = or_refuse_given _ why.missing f₆;
        loops_read = f₇;
        plane_most = ltb-false most64 (plane_bytes a) f₈;
        calibration_read = f₉;
        summary_is = sym (given_inj e₉);
      }

  joined : (r : Range) (es : List MapEntry) (ats : List Entry) (a : Attributes) (ts : List Entry) (i : ℕ) (ls : List Loop) (z : Calibration) → Mapped s r es
      → named_tree s (data_in s r) es room (ascii "ImageAttributesLV!") ≡ given ats → attributes s ats ≡ given a
      → named_tree s (data_in s r) es room (ascii "ImageMetadataLV!") ≡ given ts
      → as_level (field s ts 0 (ascii "SLxExperiment")) ≡ some i → experiment s ts i ≡ given ls → plane_bytes a ≤ most64
      → Calibrated s (data_in s r) es (z_step most_depth s ts i) z
      × ((q : Range) → Named s (data_in s r) es (ascii "ImageCalibrationLV|0!") q → length (tree_in s q).entries ≤ room)
      → u ≡ summary_of r a ls z → Joined s u × Enough s room
  joined r es ats a ts i ls z mp n₁ ao n₂ lv lo pm (cal, fit) su =
      let (p₁, x₁, y₁, h₁) = tree_given s (data_in s r) es (ascii "ImageAttributesLV!") room ats n₁ in
      let (p₂, x₂, y₂, h₂) = tree_given s (data_in s r) es (ascii "ImageMetadataLV!") room ts n₂ in
      let (D, R) = tree_depths s p₂ ts y₂ in
      let M = tree_means s p₂ ts y₂ in
      let there = experiment_at ts i M lv in
      let loops = loops_read s ts D R M i there ls lo in (
        record {
          map_place = r;
          map_entries_is = es;
          mapped = mp;
          attributes_place = p₁;
          attributes_named = x₁;
          attributes_tree = ats;
          attributes_formed = y₁;
          attributes = a;
          attributes_of_is = attributes_read s ats (tree_means s p₁ ats y₁) a ao;
          experiment_place = p₂;
          experiment_named = x₂;
          experiment_tree = ts;
          experiment_formed = y₂;
          experiment_level = i;
          experiment_there = there;
          loops = ls;
          loops_of_is = loops;
          plane_most = pm;
          step = z_step most_depth s ts i;
          step_found = step_read s ts D R M i there;
          size = z;
          calibrated = cal;
          summary = rw su (summary_read r a ls z (distinct_three ls loops.distinct));
        },
        enough,
      )
    where
      experiment_at : (ts : List Entry) (i : ℕ) → Means s ts → as_level (field s ts 0 (ascii "SLxExperiment")) ≡ some i
          → Field s ts 0 (ascii "SLxExperiment") (level i)
      experiment_at ts i M e = unfold ascii in (level_at s ts M 0).holds i e

      fits : (name : List ℕ) (q : Range) → TreeRead name → Named s (data_in s r) es name q → length (tree_in s q).entries ≤ room
      fits name q attributesTree x = all_fit s (data_in s r) es name room ats n₁ q x
      fits name q experimentTree x = all_fit s (data_in s r) es name room ts n₂ q x
      fits name q calibrationTree x = fit q x

      enough : (r' : Range) (es' : List MapEntry) (name : List ℕ) (q : Range) → Mapped s r' es' → TreeRead name → Named s (data_in s r') es' name q
          → (n : ℕ) → PassedIn s q n → n ≤ room
      enough r' es' name q mp' tr x n y =
          let (p, e) = mapped_unique s r' r es' es mp' mp in
          let h = fits name q tr (rw (p, e) at x) in
          omega (arith, read_passed s q n y)

  joined_opened : opened s room ≡ given u → Joined s u × Enough s room
  joined_opened e =
      let x = opened_by e in
      let m = data_in s x.place in
      joined x.place x.entries x.attributes_tree x.sizes x.experiment_tree x.outermost x.loops x.calibrated
      (mapped_read s x.place x.entries x.range_found x.map_read) x.attributes_read x.sizes_read x.experiment_read x.level_found
      x.loops_read x.plane_most
      (calibration_read s m x.entries room (z_step most_depth s x.experiment_tree x.outermost) x.calibrated x.calibration_read) x.summary_is

  length_fits : Enough s room → (r : Range) (es : List MapEntry) (name : List ℕ) (q : Range) → Mapped s r es → TreeRead name → Named s (data_in s r) es name q
      → length (tree_in s q).entries ≤ room
  length_fits fit r es name q mp tr x = fit r es name q mp tr x (length (tree_in s q).entries) (passed_read s q)

  opened_joined : Joined s u → Enough s room → opened s room ≡ given u
  unfolding opened
  opened_joined x fit =
      let r = x.map_place in
      let es = x.map_entries_is in
      let m = data_in s r in
      let a = x.attributes in
      let ts = x.experiment_tree in
      let i = x.experiment_level in
      let (D, R) = tree_depths s x.experiment_place ts x.experiment_formed in
      let M = tree_means s x.experiment_place ts x.experiment_formed in
      go_on (map_range s) _ r (read_range s r es x.mapped)
      (go_on (map_entries m) _ es (read_mapped s r es x.mapped)
      (go_on (named_tree s m es room (ascii "ImageAttributesLV!")) _ x.attributes_tree
      (given_tree s m es (ascii "ImageAttributesLV!") room x.attributes_tree x.attributes_place x.attributes_named x.attributes_formed
      (length_fits fit r es (ascii "ImageAttributesLV!") x.attributes_place x.mapped attributesTree x.attributes_named))
      (go_on (attributes s x.attributes_tree) _ a
      (read_attributes s x.attributes_tree (tree_means s x.attributes_place x.attributes_tree x.attributes_formed) a
      x.attributes_of_is)
      (go_on (named_tree s m es room (ascii "ImageMetadataLV!")) _ ts
      (given_tree s m es (ascii "ImageMetadataLV!") room ts x.experiment_place x.experiment_named x.experiment_formed
      (length_fits fit r es (ascii "ImageMetadataLV!") x.experiment_place x.mapped experimentTree x.experiment_named))
      (go_on (or_refuse (as_level (field s ts 0 (ascii "SLxExperiment"))) why.missing) _ i
      (found _ why.missing i ((level_at s ts M 0).only i x.experiment_there))
      (go_on (experiment s ts i) _ x.loops (read_loops s ts D R M i x.experiment_there x.loops x.loops_of_is)
      (not_refused (ltb most64 (plane_bytes a)) why.frame_shape _ _ (le-ltb _ _ x.plane_most)
      (go_on (calibration s m es room (z_float (z_step most_depth s ts i))) _ x.size
      (ap (λ (z : Option Float). calibration s m es room (z_float z)) (read_step s ts D R M i x.experiment_there x.step x.step_found)
      ∙ read_calibration s m es room x.step x.size x.calibrated
      (λ q y. length_fits fit r es (ascii "ImageCalibrationLV|0!") q x.mapped calibrationTree y))
      (ap given (sym (read_summary r a x.loops x.size u x.summary)))))))))))

  -- (b) what is opened is what the grammar joins to the bytes, where the table has entries enough
  pub opened_iff_joined : (opened s room ≡ given u) ↔ (Joined s u × Enough s room)
  opened_iff_joined = (joined_opened, λ (x, fit). opened_joined x fit)

-- a table of one entry for every two bytes of the file has always enough
pub enough_always : (s : List ℕ) (room : ℕ) → length s / 2 ≤ room → Enough s room
enough_always s room h r es name q mp tr x n y =
    let c = x.chunk in
    let l : q.len ≤ length s = omega (arith, c.data_within, c.data_len) in
    omega (arith, suffices s q, read_passed s q n y)

-- (a) a file is joined to one summary at most
pub joined_unique : (s : List ℕ) (u v : Summary) → Joined s u → Joined s v → u ≡ v
joined_unique s u v x y =
    let fit = enough_always s (length s) (omega arith) in
    given_inj (sym (opened_joined s (length s) u x fit) ∙ opened_joined s (length s) v y fit)
