-- What the grammar says of the calibration is what opening makes of it. Assumes nothing.
use Prim.Native.Nat.{ℕ, ◌≤◌, ◌<◌}
use mathlib.Core.Path.{◌≡◌, refl, sym, ap, ◌∙◌, subst}
use mathlib.Core.Bool.{Bool, true, false, cond, ◌&&◌, true≢false, false≢true}
use mathlib.Core.Option.{Option, none, some}
use mathlib.Core.List.{List}
use native.Mathlib.Omega.{arith}
use lib.Dec.{eqb, leb}
use lib.ListN.{length, take}
use lib.Ieee.{Float, nan, inf, fin, lt}
use borrow.Author.Tests.{leb-true, leb-false, eqb-true, eqb-false, ne_eqb}
use Rattle.format.proofs.Ground.Tests.{and_left, and_right}
use Rattle.format.proofs.Ground.Answers.{refused≢given, refused_inj, none≢some, given_inj, Numbered, refusal}
use Rattle.format.proofs.Trees.ByRules.{tree_read, fault_read, read_fault}
use Rattle.format.proofs.Ground.Agreement.{States, no_such, none_of, bind_some, some_bind, cond_some}
use Rattle.format.proofs.Values.Meaning.{Means}
use Rattle.format.proofs.Stated.Fields.{level_at, double_in}
use Rattle.format.proofs.Map.NamedTrees.{Missing, no_entry, no_chunk, wrong_name, named_read, read_named, named_numbered, named_unique, given_tree}
use Rattle.format.proofs.Map.NamedTrees.{refused_tree, refused_chunk, tree_means}
use Rattle.format.proofs.Trees.MostEntries.{fault_low}
use Rattle.format.specs.Answer.{Answer, refused, given, and_then}
use Rattle.format.specs.Refusals as why
use Rattle.format.specs.Bytes.{ascii}
use Rattle.format.specs.declared.Range.{Range}
use Rattle.format.specs.Map.{MapEntry, named_chunk}
use Rattle.format.specs.Trees.{Stop, at, fault, tree_in, within, whole_tree as whole_tree, tree_entries, named_tree}
use Rattle.format.specs.Values.{field, field_in, as_level, bind}
use Rattle.format.specs.Numbers.{float, positive, finite, narrow, zero_float}
use Rattle.format.specs.Calibration.{least_step, most_step, z_class, z_float, kept_z, above_zero, pixel_size, unstated, stated, calibration_by, calibration}
use Rattle.format.specs.declared.Calibration.{Calibration}
use Rattle.format.specs.Grammar.Map.{Named}
use Rattle.format.specs.Grammar.Trees.{Tree}
use Rattle.format.specs.Grammar.Calibration.{Finite, number, Distance, Classed, no_step, no_distance, smaller, larger, used, PixelSize}
use Rattle.format.specs.Grammar.Calibration.{Calibrated, sized, unsized, ends_packed, faulty, missing}
use Rattle.format.specs.declared.Entry.{Entry}

-- ---- the pixel size

module _ (s : List ℕ) (es : List Entry) (M : Means s es) where
  pub pixel_in : States (pixel_size s es) (PixelSize s es)
  unfolding pixel_size positive ascii
  pixel_in =
      record {
        holds = λ x e.
            let (q, h) = above _ x e in
            let (i, e₁, e₂) = bind_some (as_level (field s es 0 (ascii "SLxCalibration"))) (λ i. bind (field_in s es i (ascii "dCalibration")) float) x q in
            record { at_level = i; level_there = (level_at s es M 0).holds i e₁; stated = (double_in s es M i).holds x e₂; above_0 = h };
        only =
            λ x z. some_above _ x
            (some_bind _ _ z.at_level x ((level_at s es M 0).only z.at_level z.level_there)
            ((double_in s es M z.at_level).only x z.stated)) z.above_0;
      }
    where
      above : (o : Option Float) (x : Float) → above_zero o ≡ some x → (o ≡ some x) × (lt zero_float x ≡ true)
      above none x e = absurd (none≢some e)
      above (some y) x e = let (q, z) = cond_some (positive y) y x e in (ap some z, rw (← z) q)

      some_above : (o : Option Float) (x : Float) → o ≡ some x → lt zero_float x ≡ true → above_zero o ≡ some x
      some_above o x q h = rw (q, h) refl

-- ---- the class of the step

-- a positive finite number
module _ (x : Float) where
  distance_read : (positive x && finite x) ≡ true → Distance x
  unfolding positive finite
  distance_read e = record { above_0 = and_left (positive x) (finite x) e; finite = go x (and_right (positive x) (finite x) e) }
    where
      go : (x : Float) → finite x ≡ true → Finite x
      go nan e = absurd (false≢true e)
      go (inf s) e = absurd (false≢true e)
      go (fin s m e) q = number

  read_distance : Distance x → (positive x && finite x) ≡ true
  unfolding positive finite
  read_distance d = rw (d.above_0, go x d.finite) refl
    where
      go : (x : Float) → Finite x → finite x ≡ true
      go x number = refl

  no_distance_read : (positive x && finite x) ≡ false → Distance x → ⊥
  no_distance_read e d = true≢false (sym (read_distance d) ∙ e)

  read_no_distance : (Distance x → ⊥) → (positive x && finite x) ≡ false
  read_no_distance f = go (positive x && finite x) refl
    where
      go : (b : Bool) → (positive x && finite x) ≡ b → b ≡ false
      go true q = absurd (f (distance_read q))
      go false q = refl

-- the class and the z of the step that was found
abbrev class_of : Option Float → ℕ
class_of z = z_class (z_float z)

abbrev z_of : Option Float → Float
z_of z = kept_z (class_of z) (z_float z)

classed : (z : Option Float) → Classed z (class_of z) (z_of z)
unfolding z_float z_class kept_z
classed none = no_step
classed (some x) = go (positive (narrow x) && finite (narrow x)) refl (lt (narrow x) least_step) refl (lt most_step (narrow x)) refl
  where
    class : Bool → Bool → Bool → ℕ
    class n a b = cond n (cond a 2 (cond b 3 1)) 0

    go : (n : Bool) → (positive (narrow x) && finite (narrow x)) ≡ n → (a : Bool) → lt (narrow x) least_step ≡ a → (b : Bool) → lt most_step (narrow x) ≡ b
        → Classed (some x) (class n a b) (cond (eqb (class n a b) 1) (narrow x) zero_float)
    go false h a p b q = no_distance (no_distance_read (narrow x) h)
    go true h true p b q = smaller (distance_read (narrow x) h) p
    go true h false p true q = larger (distance_read (narrow x) h) p q
    go true h false p false q = used (distance_read (narrow x) h) p q

class_is : (z : Option Float) (c : ℕ) (y : Float) → Classed z c y → (class_of z ≡ c) × (z_of z ≡ y)
unfolding z_float z_class kept_z
class_is z c y no_step = (refl, refl)
class_is z c y (no_distance {x = x} h) = rw (read_no_distance (narrow x) h) (refl, refl)
class_is z c y (smaller {x = x} h p) = rw (read_distance (narrow x) h, p) (refl, refl)
class_is z c y (larger {x = x} h p q) = rw (read_distance (narrow x) h, p, q) (refl, refl)
class_is z c y (used {x = x} h p q) = rw (read_distance (narrow x) h, p, q) (refl, refl)

-- ---- what calibration gives

abbrev pub calibration_name : List ℕ
calibration_name = ascii "ImageCalibrationLV|0!"

module _ (s m : List ℕ) (es : List MapEntry) (room : ℕ) (z : Option Float) where
  abbrev name : List ℕ
  name = calibration_name

  -- what opening makes of a tree of the calibration
  size_tree : (r : Range) (size : Calibration) → Named s m es name r → calibration_by s (z_float z) (tree_entries (within room (tree_in s r))) ≡ given size
      → Calibrated s m es z size × (length (tree_in s r).entries ≤ room)
  unfolding calibration_by unstated within whole_tree
  size_tree r size x e = go (leb (length (tree_in s r).entries) room) refl e
    where
      pixel : (ts : List Entry) → Tree s r ts → (o : Option Float) → pixel_size s ts ≡ o → Calibrated s m es z (stated o (z_float z))
      pixel ts y none q = unsized x y (no_such _ (pixel_in s ts (tree_means s r ts y)) q)
      pixel ts y (some c) q = sized x y ((pixel_in s ts (tree_means s r ts y)).holds c q) (classed z)

      number : (n : ℕ) → (tree_in s r).stop ≡ fault n → (b : Bool) → eqb n why.packed ≡ b → Calibrated s m es z (unstated (cond b 2 0))
      number n q true h = ends_packed x (rw (eqb-true n why.packed h) at (fault_read s r n q))
      number n q false h = faulty x (fault_read s r n q) (eqb-false n why.packed h)

      end : (t : Stop) → (tree_in s r).stop ≡ t → calibration_by s (z_float z) (whole_tree t (tree_in s r).entries) ≡ given size → Calibrated s m es z size
      end (at p) q e = subst (Calibrated s m es z) (given_inj e) (pixel (tree_in s r).entries (tree_read s r p q) _ refl)
      end (fault n) q e =
          let low = fault_low s r n q in
          let e₂ : cond (eqb n why.table) (refused why.table) (given (unstated (cond (eqb n why.packed) 2 0))) ≡ given size = e in
          subst (Calibrated s m es z) (given_inj (rw (ne_eqb n why.table (λ z. omega arith)) at e₂)) (number n q (eqb n why.packed) refl)

      go : (b : Bool) → leb (length (tree_in s r).entries) room ≡ b
          → calibration_by s (z_float z)
          (tree_entries (cond b (tree_in s r) (record { entries = take room (tree_in s r).entries; stop = fault why.table }))) ≡ given size
          → Calibrated s m es z size × (length (tree_in s r).entries ≤ room)
      go true q e = (end (tree_in s r).stop refl e, leb-true _ _ q)
      go false q e = absurd (refused≢given e)

  pub calibration_read : (size : Calibration) → calibration s m es room (z_float z) ≡ given size
      → Calibrated s m es z size × ((r : Range) → Named s m es name r → length (tree_in s r).entries ≤ room)
  unfolding calibration named_tree and_then calibration_by unstated
  calibration_read size e = go (named_chunk s m es name) refl (named_numbered s m es name) e
    where
      go : (x : Answer Range) → named_chunk s m es name ≡ x → Numbered Missing x
          → calibration_by s (z_float z) (and_then x λ r. tree_entries (within room (tree_in s r))) ≡ given size
          → Calibrated s m es z size × ((r : Range) → Named s m es name r → length (tree_in s r).entries ≤ room)
      go (refused n) q (refusal h) e = (number n h e, λ r x. absurd (no_chunk_there r x))
        where
          no_chunk_there : (r : Range) → Named s m es name r → ⊥
          no_chunk_there r x = refused≢given (sym q ∙ read_named s m es name r x)

          number : (n : ℕ) → Missing n → calibration_by s (z_float z) (refused n) ≡ given size → Calibrated s m es z size
          number n no_entry e = subst (Calibrated s m es z) (given_inj e) (missing no_chunk_there)
          number n no_chunk e = subst (Calibrated s m es z) (given_inj e) (missing no_chunk_there)
          number n wrong_name e = subst (Calibrated s m es z) (given_inj e) (missing no_chunk_there)
      go (given r) q h e =
          let x = named_read s m es name r q in
          let (c, l) = size_tree r size x e in
          (c, λ p y. rw (named_unique s m es name p r y x) l)

  -- it is refused with 18 alone, where the table is too short for its tree
  pub record Overfull : Type 0 where
    pub place : Range
    pub named : Named s m es name place
    pub over : room < length (tree_in s place).entries

  pub calibration_stops : (n : ℕ) → calibration s m es room (z_float z) ≡ refused n → (n ≡ why.table) × Overfull
  unfolding calibration named_tree and_then calibration_by within whole_tree
  calibration_stops n e = go (named_chunk s m es name) refl (named_numbered s m es name) e
    where
      end : (r : Range) (t : Stop) → (tree_in s r).stop ≡ t → calibration_by s (z_float z) (whole_tree t (tree_in s r).entries) ≡ refused n → ⊥
      end r (at p) q e = refused≢given (sym e)
      end r (fault k) q e =
          let low = fault_low s r k q in
          let e₂ : cond (eqb k why.table) (refused why.table) (given (unstated (cond (eqb k why.packed) 2 0))) ≡ refused n = e in
          refused≢given (sym (rw (ne_eqb k why.table (λ z. omega arith)) at e₂))

      tree : (r : Range) → Named s m es name r → (b : Bool) → leb (length (tree_in s r).entries) room ≡ b
          → calibration_by s (z_float z) (tree_entries (cond b (tree_in s r) (record { entries = take room (tree_in s r).entries; stop = fault why.table })))
          ≡ refused n → (n ≡ why.table) × Overfull
      tree r x true q e = absurd (end r (tree_in s r).stop refl e)
      tree r x false q e = (sym (refused_inj e), record { place = r; named = x; over = leb-false (length (tree_in s r).entries) room q })

      go : (x : Answer Range) → named_chunk s m es name ≡ x → Numbered Missing x
          → calibration_by s (z_float z) (and_then x λ r. tree_entries (within room (tree_in s r))) ≡ refused n → (n ≡ why.table) × Overfull
      go (refused k) q (refusal no_entry) e = absurd (refused≢given (sym e))
      go (refused k) q (refusal no_chunk) e = absurd (refused≢given (sym e))
      go (refused k) q (refusal wrong_name) e = absurd (refused≢given (sym e))
      go (given r) q h e = tree r (named_read s m es name r q) (leb (length (tree_in s r).entries) room) refl e

  -- and the other way round
  pub read_calibration : (size : Calibration) → Calibrated s m es z size → ((r : Range) → Named s m es name r → length (tree_in s r).entries ≤ room)
      → calibration s m es room (z_float z) ≡ given size
  unfolding calibration unstated
  read_calibration size (sized {r = r} {ts = ts} {x = c} x y p k) fit =
      let (e₁, e₂) = class_is z _ _ k in
      rw (given_tree s m es name room ts r x y (fit r x), (pixel_in s ts (tree_means s r ts y)).only c p, e₂, e₁) refl
  read_calibration size (unsized {r = r} {ts = ts} x y n) fit =
      rw (given_tree s m es name room ts r x y (fit r x), none_of _ (pixel_in s ts (tree_means s r ts y)) n) refl
  read_calibration size (ends_packed {r = r} x y) fit =
      rw (refused_tree s m es name room why.packed r x (read_fault s r why.packed y) (fit r x)) refl
  read_calibration size (faulty {r = r} {n = n} x y h) fit =
      let q = read_fault s r n y in
      let low = fault_low s r n q in
      rw (refused_tree s m es name room n r x q (fit r x), ne_eqb n why.table (λ e. omega arith), ne_eqb n why.packed h) refl
  read_calibration size (missing f) fit = go (named_chunk s m es name) refl (named_numbered s m es name)
    where
      go : (x : Answer Range) → named_chunk s m es name ≡ x → Numbered Missing x → calibration_by s (z_float z) (named_tree s m es room name)
          ≡ given (unstated 0)
      go (given r) q h = absurd (f r (named_read s m es name r q))
      go (refused n) q (refusal no_entry) = rw (refused_chunk s m es name room why.missing q) refl
      go (refused n) q (refusal no_chunk) = rw (refused_chunk s m es name room why.chunk q) refl
      go (refused n) q (refusal wrong_name) = rw (refused_chunk s m es name room why.chunk_name q) refl
