-- A picometres call's number is what its first stage that refuses gives, and its size is the rules'. Assumes nothing.
use Prim.Native.Nat.{ℕ, ◌<◌}
use mathlib.Core.Path.{◌≡◌, refl, sym, ap, ◌∙◌, subst}
use mathlib.Core.Logic.{inl, inr}
use mathlib.Core.Option.{Option, none, some, some_inj}
use mathlib.Core.List.{List, [], ◌∷◌, map}
use lib.Dec.{lit<}
use lib.ListN.{length}
use lib.Ieee.{Float}
use native.Mathlib.Omega.{arith}
use Rattle.format.proofs.Ground.Answers.{none≢some, and_then_given, or_refuse_given, no_given, found, Numbered, refusal, answer, or_refuse_numbered}
use Rattle.format.proofs.Ground.Agreement.{States, only_one, bind_some, some_bind}
use Rattle.format.proofs.Numbers.Wholes.{no_u64, none_u64}
use Rattle.format.proofs.Values.Meaning.{Means}
use Rattle.format.proofs.Stated.Fields.{field_in_is, level_at}
use Rattle.format.proofs.Map.NamedTrees.{tree_means}
use Rattle.format.proofs.Map.LookedUp.{tree_once}
use Rattle.format.proofs.Stated.Calibration.{calibration_name}
use Rattle.format.proofs.Ground.Lists.{in_left, in_right, in_map}
use Rattle.format.proofs.Ground.Stages.{DecidesAt, stage_one, decides_then, decides_first, decides_numbered, decides_map, accepted_at, first_once}
use Rattle.format.proofs.Calls.Tree.{tree_staged, tree_stage_once, tree_decides, tree_whole}
use Rattle.format.proofs.Numbers.Picometres.{size_of, size_read, read_size, size_is, endless_read, above_read, read_above, in_picometres_once}
use Rattle.format.specs.Answer.{Answer, refused, given, or_refuse, number_of}
use Rattle.format.specs.Bytes.{ascii, zeros}
use Rattle.format.specs.Refusals as why
use Rattle.format.specs.Trees.{room_in}
use Rattle.format.specs.Values.{Value, field, field_in, as_level, bind}
use Rattle.format.specs.Numbers.{float}
use Rattle.format.specs.Calibration.{above_zero, pixel_size}
use Rattle.format.specs.Picometres.{picometres}
use Rattle.format.specs.Calls.Tree.{tree_named}
use Rattle.format.specs.Calls.Picometres.{picometres_in, picometres_of, size_or_zero, picometres_call}
use Rattle.format.specs.Grammar.Lists.{In, here, behind}
use Rattle.format.specs.Grammar.Picometres.{SizeStated}
use Rattle.format.specs.Refused.Order.{FirstAt}
use Rattle.format.specs.Refused.Tree.{TreeStage, TreeRefusal, tree_order}
use Rattle.format.specs.Refused.Picometres as stages
use Rattle.format.specs.Refused.Picometres.{PicometresStage, reading, picometres_order, CalibrationTree, SizeAt, SizeIs}
use Rattle.format.specs.Refused.Picometres.{PicometresRefusal, tree_refused, no_size, endless, too_large}
use Rattle.format.specs.Sentences.{AtSome, AcceptedUnless}
use Rattle.format.specs.declared.Entry.{Entry}
use Rattle.format.specs.declared.Summary.{Summary}

-- ---- what a tree states

module _ (s : List ℕ) (es : List Entry) (M : Means s es) where
  -- the value of the field, of any kind
  abbrev value : Option Value
  value = bind (as_level (field s es 0 (ascii "SLxCalibration"))) λ i. field_in s es i (ascii "dCalibration")

  value_in : States value (SizeStated s es)
  unfolding ascii
  value_in =
      record {
        holds = λ v e.
            let (i, p, q) = bind_some (as_level (field s es 0 (ascii "SLxCalibration"))) (λ i. field_in s es i (ascii "dCalibration")) v e in
            record { at_level = i; level_there = (level_at s es M 0).holds i p; stated = (field_in_is s es M i).holds v q };
        only = λ v z.
            some_bind (as_level (field s es 0 (ascii "SLxCalibration"))) (λ i. field_in s es i (ascii "dCalibration")) z.at_level v
            ((level_at s es M 0).only z.at_level z.level_there) ((field_in_is s es M z.at_level).only v z.stated);
      }

  pixel_is : pixel_size s es ≡ above_zero (bind value float)
  unfolding pixel_size
  pixel_is = ap above_zero (sym (go (as_level (field s es 0 (ascii "SLxCalibration"))) λ i. field_in s es i (ascii "dCalibration")))
    where
      go : (o : Option ℕ) (f : ℕ → Option Value) → bind (bind o f) float ≡ bind o λ i. bind (f i) float
      go none f = unfold bind in refl
      go (some i) f = unfold bind in refl

  -- the size that is read is that of the value, and the value has no other
  pub size_found : (x : Float) → pixel_size s es ≡ some x → (v : Value) × SizeStated s es v × (size_of v ≡ some x)
  size_found x e = go value refl (sym pixel_is ∙ e)
    where
      go : (o : Option Value) → value ≡ o → above_zero (bind o float) ≡ some x → (v : Value) × SizeStated s es v × (size_of v ≡ some x)
      go none q e = let z : none ≡ some x = unfold above_zero bind in e in absurd (none≢some z)
      go (some v) q e = (v, value_in.holds v q, unfold bind in e)

  found_size : (v : Value) (x : Float) → SizeStated s es v → size_of v ≡ some x → pixel_size s es ≡ some x
  found_size v x z e = pixel_is ∙ ap (λ (o : Option Value). above_zero (bind o float)) (value_in.only v z) ∙ (unfold bind in e)

-- ---- the stages

module _ (s : List ℕ) (u : Summary) where
  pub means : {es : List Entry} → CalibrationTree s u es → Means s es
  means {es} t = tree_means s t.place es t.tree

  -- a file has one such tree, and one value in it
  same_tree : {es fs : List Entry} → CalibrationTree s u es → CalibrationTree s u fs → es ≡ fs
  same_tree x y = tree_once s u calibration_name x.chunk x.tree y.chunk y.tree

  same_value : {v w : Value} → SizeAt s u v → SizeAt s u w → v ≡ w
  same_value {v} {w} x y =
      only_one (value_in s x.entries (means x.tree)) v w x.stated (rw (same_tree y.tree x.tree) at y.stated)

  -- no bytes have two sizes
  pub size_once : (n m : ℕ) → SizeIs s u n → SizeIs s u m → n ≡ m
  size_once n m x y = in_picometres_once x.in_picometres (rw (same_value y.there x.there) at y.in_picometres)

  module _ (room : ℕ) where
    abbrev Q : PicometresStage → ℕ → Type 0
    Q = PicometresRefusal s u room

    says_tree : (a : TreeStage) (n : ℕ) → Q (reading a) n → TreeRefusal s u calibration_name room a n
    says_tree a n (tree_refused x) = x

    module _ (es : List Entry) (t : CalibrationTree s u es) where
      size_decides : DecidesAt Q (stages.size ∷ []) (or_refuse (pixel_size s es) why.missing)
      size_decides =
          stage_one why.missing (or_refuse (pixel_size s es) why.missing) (or_refuse_numbered _ why.missing refl)
          (λ f. no_size t λ v z a. let (x, e) = above_read v a in f x (found _ why.missing x (found_size s es (means t) v x z e)))
          λ x q m w. says m w x (or_refuse_given _ why.missing q)
        where
          says : (m : ℕ) → Q stages.size m → (x : Float) → pixel_size s es ≡ some x → ⊥
          says m (no_size y f) x q =
              let (v, z, e) = size_found s es (means t) x q in
              f v (subst (λ (l : List Entry). SizeStated s l v) (same_tree t y) z) (read_above v x e)

      -- v is the value, and x its size
      module _ (v : Value) (z : SizeStated s es v) (x : Float) (e : size_of v ≡ some x) where
        there : SizeAt s u v
        there = record { entries = es; tree = t; stated = z }

        -- a size that no u64 holds
        over : picometres x ≡ none → Q stages.range why.size_range
        over q = elim (read_size v x e) [
          | inl i ↦ endless there i.0
          | inr (n, r, p) ↦ let h = none_u64 n (sym p ∙ q) in too_large (record { value = v; there = there; in_picometres = r }) (omega arith)
        ]

        -- and one that a u64 holds is not refused
        held_size : (n : ℕ) → picometres x ≡ some n → (m : ℕ) → Q stages.range m → ⊥
        held_size n q m (endless {v = w} a i) =
            let (y, f, p) = endless_read v (rw (same_value a there) at i) in
            none≢some (sym p ∙ ap picometres (some_inj.0 (sym f ∙ e)) ∙ q)
        held_size n q m (too_large {n = k} a h) =
            let (y, f, p) = size_read v k (rw (same_value a.there there) at a.in_picometres) in
            none≢some (sym (no_u64 k h) ∙ sym p ∙ ap picometres (some_inj.0 (sym f ∙ e)) ∙ q)

        range_decides : DecidesAt Q (stages.range ∷ []) (or_refuse (picometres x) why.size_range)
        range_decides =
            stage_one why.size_range (or_refuse (picometres x) why.size_range) (or_refuse_numbered _ why.size_range refl)
            (λ f. over (no_given (picometres x) why.size_range f)) λ n q. held_size n (or_refuse_given _ why.size_range q)

      in_decides : DecidesAt Q (stages.size ∷ stages.range ∷ []) (picometres_in s es)
      unfolding picometres_in
      in_decides =
          decides_then {front = stages.size ∷ []} (or_refuse (pixel_size s es) why.missing) _ size_decides λ x q.
          let (v, z, e) = size_found s es (means t) x (or_refuse_given _ why.missing q) in
          range_decides v z x e

    picometres_decides : DecidesAt Q picometres_order (picometres_of s u room)
    unfolding picometres_of
    picometres_decides =
        decides_then {front = map reading tree_order} (tree_named s u calibration_name room) (picometres_in s)
        (decides_map reading (λ a n. tree_refused) says_tree (tree_decides s u calibration_name room)) λ es e.
        let (r, c, t, h) = tree_whole s u calibration_name room es e in
        in_decides es (record { place = r; chunk = c; tree = t })

    -- every refusal is of a stage in the order, and has a number
    staged : (a : PicometresStage) (k : ℕ) → Q a k → In a picometres_order × (0 < k)
    staged a k (tree_refused {a = b} x) = let (i, h) = tree_staged s u calibration_name room b k x in (in_left _ (in_map reading i), h)
    staged a k (no_size t f) = (in_right (map reading tree_order) here, lit< tt)
    staged a k (endless t i) = (in_right (map reading tree_order) (behind here), lit< tt)
    staged a k (too_large t h) = (in_right (map reading tree_order) (behind here), lit< tt)

    once : (a : PicometresStage) (n m : ℕ) → Q a n → Q a m → n ≡ m
    once a n m (tree_refused {a = b} x) (tree_refused y) = tree_stage_once s u calibration_name room b n m x y
    once a n m (no_size t f) (no_size v g) = refl
    once a n m (endless t i) (endless v j) = refl
    once a n m (endless t i) (too_large v j) = refl
    once a n m (too_large t i) (endless v j) = refl
    once a n m (too_large t i) (too_large v j) = refl

    -- No other number is that of the first stage that refuses.
    pub picometres_number_only : (n m : ℕ) → FirstAt Q picometres_order n → FirstAt Q picometres_order m → n ≡ m
    picometres_number_only n m x y = first_once once x y

    -- the size of an accepted call
    given_size : (n : ℕ) → picometres_of s u room ≡ given n → SizeIs s u n
    unfolding picometres_of picometres_in
    given_size n e =
        let (es, e₁, e₂) = and_then_given (tree_named s u calibration_name room) _ e in
        let (x, e₃, e₄) = and_then_given (or_refuse (pixel_size s es) why.missing) _ e₂ in
        let (r, c, t, h) = tree_whole s u calibration_name room es e₁ in
        let tree : CalibrationTree s u es = record { place = r; chunk = c; tree = t } in
        let (v, z, f) = size_found s es (means tree) x (or_refuse_given _ why.missing e₃) in
        let is = (size_is v n).1 (x, f, or_refuse_given _ why.size_range e₄) in
        record { value = v; there = record { entries = es; tree = tree; stated = z }; in_picometres = is.0 }

-- ---- the call

module _ (s : List ℕ) (u : Summary) (bytes : List ℕ) where
  -- The picometres call's number is what its first stage that refuses gives.
  pub picometres_number : FirstAt (PicometresRefusal s u (room_in (length bytes))) picometres_order (picometres_call s u bytes).number
  unfolding picometres_call
  picometres_number = decides_first (picometres_decides s u (room_in (length bytes)))

  -- It is 0 exactly when no stage refuses.
  pub picometres_accepted : AcceptedUnless (AtSome (PicometresRefusal s u (room_in (length bytes)))) (picometres_call s u bytes).number
  picometres_accepted = accepted_at (staged s u (room_in (length bytes))) picometres_number

  -- The table is zero afterwards.
  pub picometres_table : (picometres_call s u bytes).table ≡ zeros (length bytes)
  unfolding picometres_call
  picometres_table = refl

  -- A refused call answers 0, and an accepted one the size by the rules.
  pub picometres_refused : ((picometres_call s u bytes).number ≡ 0 → ⊥) → (picometres_call s u bytes).picometres ≡ 0
  unfolding picometres_call number_of size_or_zero
  picometres_refused f = go (picometres_of s u (room_in (length bytes))) f
    where
      go : (x : Answer ℕ) → (number_of x ≡ 0 → ⊥) → size_or_zero x ≡ 0
      go (refused n) f = refl
      go (given n) f = absurd (f refl)

  pub picometres_size : (picometres_call s u bytes).number ≡ 0 → SizeIs s u (picometres_call s u bytes).picometres
  unfolding picometres_call number_of size_or_zero
  picometres_size e = go (picometres_of s u room) refl (decides_numbered (λ a n q. (staged s u room a n q).1) (picometres_decides s u room)) e
    where
      room : ℕ
      room = room_in (length bytes)

      go : (x : Answer ℕ) → picometres_of s u room ≡ x → Numbered (λ n. 0 < n) x → number_of x ≡ 0 → SizeIs s u (size_or_zero x)
      go x q (refusal h) e = absurd (omega arith)
      go x q (answer {a = n}) e = given_size s u room n q
