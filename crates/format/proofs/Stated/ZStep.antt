-- The grammar's z step is the one that is found. Assumes nothing.
use Prim.Native.Nat.{ℕ, zero, suc}
use mathlib.Core.Path.{◌≡◌, refl, sym, ap, ◌∙◌, subst}
use mathlib.Core.Bool.{Bool, true, false, cond, false≢true}
use mathlib.Core.Option.{Option, none, some, or_else}
use mathlib.Core.List.{List, [], ◌∷◌}
use lib.Dec.{ltb}
use lib.IntN.{ℤ, pos, negsuc}
use lib.Ieee.{Float, ne}
use borrow.Author.Tests.{ltb-true, lt-ltb, eqb-true}
use Rattle.format.proofs.Ground.Answers.{none≢some}
use Rattle.format.proofs.Ground.Agreement.{States, no_such, none_of, cond_some}
use Rattle.format.proofs.Values.Meaning.{Means}
use Rattle.format.proofs.Stated.Fields.{double_in}
use Rattle.format.proofs.Loops.OneLevel.{parameters_in, count_in, kind_in, below_in}
use Rattle.format.proofs.Trees.Depths.{Ranked}
use Rattle.format.proofs.Loops.LevelsBelow.{Fine, not_deepest, kids_fine, top_fine}
use Rattle.format.specs.Bytes.{ascii}
use Rattle.format.specs.Trees.{most_depth}
use Rattle.format.specs.Values.{level, field_in, bind}
use Rattle.format.specs.Numbers.{signed, float, magnitude, zero_float}
use Rattle.format.specs.Loops.{loop_params, child_levels, count_field}
use Rattle.format.specs.Calibration.{first_of, is_four, stated_step, span_step, own_step, step_at, z_step}
use Rattle.format.specs.Grammar.Lists.{All, more}
use Rattle.format.specs.Grammar.Values.{Field}
use Rattle.format.specs.Grammar.Calibration.{Focus, StatedStep, StepOf, stated, spanned, Steps, nowhere, own, below, beside}
use Rattle.format.specs.declared.Entry.{Entry}

-- ---- the step of one level

four_is : (o : Option ℤ) → is_four o ≡ true → o ≡ some (pos 4)
unfolding is_four
four_is none e = absurd (false≢true e)
four_is (some (pos n)) e = ap (λ (n : ℕ). some (pos n)) (eqb-true n 4 e)
four_is (some (negsuc n)) e = absurd (false≢true e)

module _ (s : List ℕ) (es : List Entry) where
  abbrev number : ℕ → List ℕ → Option Float
  number p name = bind (field_in s es p name) float

  -- what `stated_step` makes of dZStep
  data StatedBy (p : ℕ) : Option Float → Type 0 where
    by_step : {x : Float} → StatedStep s es p x → StatedBy p (some (magnitude x))
    by_none : ((x : Float) → StatedStep s es p x → ⊥) → StatedBy p none

module _ (s : List ℕ) (es : List Entry) (M : Means s es) where
  stated_by : (p : ℕ) → StatedBy s es p (stated_step (number s es p (ascii "dZStep")))
  unfolding stated_step ascii
  stated_by p = go (number s es p (ascii "dZStep")) refl
    where
      at_zero : (x : Float) → ne x zero_float ≡ false → number s es p (ascii "dZStep") ≡ some x → (y : Float) → StatedStep s es p y → ⊥
      at_zero x h q y z =
          let e : some x ≡ some y = sym q ∙ (double_in s es M p).only y z.stated in
          let k : x ≡ y = cc in
          false≢true (sym h ∙ (ap (λ (x : Float). ne x zero_float) k ∙ z.not_zero))

      cases : (x : Float) (b : Bool) → ne x zero_float ≡ b → number s es p (ascii "dZStep") ≡ some x → StatedBy s es p (cond b (some (magnitude x)) none)
      cases x true h q = by_step (record { stated = (double_in s es M p).holds x q; not_zero = h })
      cases x false h q = by_none (at_zero x h q)

      go : (o : Option Float) → number s es p (ascii "dZStep") ≡ o → StatedBy s es p (stated_step o)
      go none q = by_none (λ x z. no_such _ (double_in s es M p) q x z.stated)
      go (some x) q = cases x (ne x zero_float) refl q

  -- a Z loop's level
  focus_in : (i p : ℕ) → is_four (bind (field_in s es i (ascii "eType")) signed) ≡ true → loop_params s es (field_in s es i (ascii "uLoopPars")) ≡ some p
      → Focus s es i p
  focus_in i p q r = record { parameters = (parameters_in s es M i).holds p r; kind = (kind_in s es M i).holds (pos 4) (four_is _ q) }

  in_focus : (i p : ℕ) → Focus s es i p → step_at s es i ≡ own_step s es true (some p)
  unfolding step_at is_four
  in_focus i p f = rw ((kind_in s es M i).only (pos 4) f.kind, (parameters_in s es M i).only p f.parameters) refl

  span_in_is : (i p : ℕ) → Focus s es i p → ((x : Float) → StatedStep s es p x → ⊥) → (x : Float)
      → span_step (count_field s es p) (number s es p (ascii "dZHigh")) (number s es p (ascii "dZLow")) ≡ some x → StepOf s es i x
  unfolding span_step ascii
  span_in_is i p f n x e = go (number s es p (ascii "dZHigh")) refl (number s es p (ascii "dZLow")) refl e
    where
      go : (hi : Option Float) → number s es p (ascii "dZHigh") ≡ hi → (lo : Option Float) → number s es p (ascii "dZLow") ≡ lo
          → span_step (count_field s es p) hi lo ≡ some x → StepOf s es i x
      go none q lo r e = absurd (none≢some e)
      go (some hi) q none r e = absurd (none≢some e)
      go (some hi) q (some lo) r e =
          let (h, z) = cond_some (ltb 1 (count_field s es p)) _ x e in
          subst (StepOf s es i) z
          (spanned f n (count_in s es M p).holds (ltb-true 1 (count_field s es p) h) ((double_in s es M p).holds hi q) ((double_in s es M p).holds lo r))

  pub step_in : (i : ℕ) → States (step_at s es i) (StepOf s es i)
  unfolding step_at own_step
  step_in i =
      record {
        holds = λ x e. go x (is_four (bind (field_in s es i (ascii "eType")) signed)) refl (loop_params s es (field_in s es i (ascii "uLoopPars")))
            refl e;
        only = back;
      }
    where
      by : (p : ℕ) (x : Float) → Focus s es i p → (o : Option Float) → StatedBy s es p o
          → or_else o (span_step (count_field s es p) (number s es p (ascii "dZHigh")) (number s es p (ascii "dZLow"))) ≡ some x → StepOf s es i x
      by p x f o (by_step {x = y} z) e = let k : magnitude y ≡ x = cc in rw k at (stated f z)
      by p x f o (by_none n) e = span_in_is i p f n x e

      go : (x : Float) (b : Bool) → is_four (bind (field_in s es i (ascii "eType")) signed) ≡ b → (o : Option ℕ)
          → loop_params s es (field_in s es i (ascii "uLoopPars")) ≡ o
          → own_step s es b o ≡ some x → StepOf s es i x
      go x false q o r e = absurd (none≢some e)
      go x true q none r e = absurd (none≢some e)
      go x true q (some p) r e = by p x (focus_in i p q r) _ (stated_by p) e

      no_step : (p : ℕ) (o : Option Float) → ((x : Float) → StatedStep s es p x → ⊥) → StatedBy s es p o → o ≡ none
      no_step p o n (by_step z) = absurd (n _ z)
      no_step p o n (by_none m) = refl

      back : (x : Float) → StepOf s es i x → step_at s es i ≡ some x
      back x (stated {p = p} {x = y} f z) = unfold ascii stated_step in
          in_focus i p f ∙ rw ((double_in s es M p).only y z.stated, z.not_zero) refl
      back x (spanned {p = p} {n = n} {high = hi} {low = lo} f m u h y z) = unfold ascii span_step in
          in_focus i p f ∙ rw (
            no_step p _ m (stated_by p),
            (double_in s es M p).only hi y,
            (double_in s es M p).only lo z,
            (count_in s es M p).only n u,
            lt-ltb 1 n h,
          ) refl

-- ---- the first step in tree order

module _ (s : List ℕ) (es : List Entry) (D : ℕ → ℕ) (R : Ranked D 0 es) (M : Means s es) where
  steps_first : (left : ℕ) (is : List ℕ) (z : Option Float) → All (Fine D left) is → Steps s es is z → first_of (z_step left s es) is ≡ z
  unfolding z_step first_of or_else
  steps_first left is z a nowhere = refl
  steps_first zero is z (more f a) (own x) = absurd (not_deepest f)
  steps_first (suc m) is z (more f a) (own {i = i} {x = y} x) = rw ((step_in s es M i).only y x) refl
  steps_first zero is z (more f a) (below n b k) = absurd (not_deepest f)
  steps_first (suc m) is z (more f a) (below {i = i} {ks = ks} {x = y} n b k) =
      let q = (below_in s es M i).only ks b in
      rw (none_of _ (step_in s es M i) n, q, steps_first m ks (some y) (rw q at (kids_fine s es D R m i f)) k) refl
  steps_first zero is z (more f a) (beside n b k w) = absurd (not_deepest f)
  steps_first (suc m) is z (more f a) (beside {i = i} {is = js} {ks = ks} n b k w) =
      let q = (below_in s es M i).only ks b in
      rw (none_of _ (step_in s es M i) n, q, steps_first m ks none (rw q at (kids_fine s es D R m i f)) k) (steps_first (suc m) js z a w)

  steps_more : (m : ℕ) → ((is : List ℕ) → All (Fine D m) is → Steps s es is (first_of (z_step m s es) is)) → (is : List ℕ) → All (Fine D (suc m)) is
      → Steps s es is (first_of (z_step (suc m) s es) is)
  unfolding z_step first_of or_else
  steps_more m ih [] a = nowhere
  steps_more m ih (i ∷ is) (more f a) = go (step_at s es i) refl (first_of (z_step m s es) ks) refl (steps_more m ih is a)
    where
      ks : List ℕ
      ks = child_levels s es (field_in s es i (ascii "ppNextLevelEx"))

      rest : Steps s es ks (first_of (z_step m s es) ks)
      rest = ih ks (kids_fine s es D R m i f)

      go : (x : Option Float) → step_at s es i ≡ x → (y : Option Float) → first_of (z_step m s es) ks ≡ y → Steps s es is (first_of (z_step (suc m) s es) is)
          → Steps s es (i ∷ is) (or_else (or_else x y) (first_of (z_step (suc m) s es) is))
      go (some x) p y q w = own ((step_in s es M i).holds x p)
      go none p (some y) q w = below (no_such _ (step_in s es M i) p) (below_in s es M i).holds (rw q at rest)
      go none p none q w = beside (no_such _ (step_in s es M i) p) (below_in s es M i).holds (rw q at rest) w

  first_steps : (left : ℕ) (is : List ℕ) → All (Fine D left) is → Steps s es is (first_of (z_step left s es) is)
  unfolding first_of
  first_steps zero [] a = nowhere
  first_steps zero (i ∷ is) (more f a) = absurd (not_deepest f)
  first_steps (suc m) is a = steps_more m (first_steps m) is a

module _ (s : List ℕ) (es : List Entry) (D : ℕ → ℕ) (R : Ranked D 0 es) (M : Means s es) (i : ℕ) (there : Field s es 0 (ascii "SLxExperiment") (level i)) where
  fine : All (Fine D most_depth) (i ∷ [])
  unfolding ascii
  fine = top_fine s es D R (ascii "SLxExperiment") i (M.of_field 0 _ _ (level i) there)

  one_step : first_of (z_step most_depth s es) (i ∷ []) ≡ z_step most_depth s es i
  unfolding first_of
  one_step = go (z_step most_depth s es i)
    where
      go : (z : Option Float) → or_else z none ≡ z
      go none = refl
      go (some x) = refl

  pub step_read : Steps s es (i ∷ []) (z_step most_depth s es i)
  step_read = subst (Steps s es (i ∷ [])) one_step (first_steps s es D R M most_depth (i ∷ []) fine)

  pub read_step : (z : Option Float) → Steps s es (i ∷ []) z → z_step most_depth s es i ≡ z
  read_step z x = sym one_step ∙ steps_first s es D R M most_depth (i ∷ []) z fine x
