-- The levels below an experiment level are deeper than it, so that a walk of 64 levels is never cut. Assumes nothing.
use Prim.Native.Nat.{ℕ, suc, ◌+◌, ◌≤◌, ◌<◌}
use mathlib.Core.Path.{◌≡◌, refl}
use mathlib.Core.Option.{Option, none, some}
use mathlib.Core.List.{List, [], ◌∷◌}
use native.Mathlib.Omega.{arith}
use Rattle.format.proofs.Trees.Depths.{Ranked, level_depth}
use Rattle.format.proofs.Ground.Lists.{all_map, all_in, just_first}
use Rattle.format.proofs.Values.ByRules.{leaf_level, Deeper, bears_deep, list_deeper, field_of, means}
use Rattle.format.specs.Bytes.{ascii}
use Rattle.format.specs.Trees.{most_depth}
use Rattle.format.specs.Values.{Value, level, list, field, field_in}
use Rattle.format.specs.Loops.{child_levels}
use Rattle.format.specs.Grammar.Lists.{All, over, more, In, here, behind}
use Rattle.format.specs.Grammar.Values.{Levels, none as no_levels, one, other, ValueOf, is_leaf, is_level, is_list, Field, PlaceValue, of_name}
use Rattle.format.specs.Grammar.Values.{of_one, LevelsIn, of_level, of_list, of_other}
use Rattle.format.specs.declared.Entry.{Entry}

levels_all : {Has : ℕ → Value → Type 0} {P : ℕ → Type 0} {js is : List ℕ} → ((j i : ℕ) → In j js → Has j (level i) → P i) → Levels Has js is → All P is
levels_all h no_levels = over
levels_all h (one {i} {j} d t) = more (h j i here d) (levels_all (λ j i x. h j i (behind x)) t)
levels_all h (other d n t) = levels_all (λ j i x. h j i (behind x)) t

-- a level for which `left` levels are enough
pub record Fine (D : ℕ → ℕ) (left i : ℕ) : Type 0 where
  pub shallow : D i < most_depth
  pub enough : most_depth ≤ left + D i

pub not_deepest : {D : ℕ → ℕ} {i : ℕ} → Fine D 0 i → ⊥
not_deepest f = omega (arith, f.shallow, f.enough)

module _ (s : List ℕ) (es : List Entry) (D : ℕ → ℕ) (R : Ranked D 0 es) where
  -- a value that is a level is its entry's
  level_own : (j i : ℕ) (v : Value) → ValueOf s es j v → v ≡ level i → (j ≡ i) × (D j < most_depth)
  level_own j i v (is_leaf {e = e} q k) z = absurd (leaf_level s e v k i z)
  level_own j i v (is_level {e = e} q k n) z = (cc, level_depth D es R j e q k)
  level_own j i v (is_list q k n a d x) z = absurd (let z : ◌≡◌ {A = ℕ} 0 1 = cc in omega arith)

  -- a level that is deeper than i
  pub record Next (i j : ℕ) : Type 0 where
    pub deeper : D i < D j
    pub shallow : D j < most_depth

  next_of : (i j k : ℕ) → Deeper s es D R i j → ValueOf s es j (level k) → Next i k
  next_of i j k x d =
      let (own, shallow) = level_own j k (level k) d refl in
      let h : D i < D j = x.deeper in
      record { deeper = rw own at h; shallow = rw own at shallow }

  place_next : (i j k : ℕ) → PlaceValue s es (suc i) j (level k) → Next i k
  place_next i j k (of_name b f) = next_of i f.place k (bears_deep s es D R i _ f.place f.last.bears) f.value
  place_next i j k (of_one a d) = next_of i j k (bears_deep s es D R i [] j (just_first a)) d

  levels_next : (k : ℕ) (v : Value) (is : List ℕ) → ValueOf s es k v → LevelsIn s es v is → All (Next k) is
  levels_next k v is d (of_level {i = i} a t) =
      let own = (level_own k i (level i) d refl).0 in
      rw (← own) at (levels_all (λ j m x h. place_next i j m h) t)
  levels_next k v is d (of_list {js = js} t) = levels_all (λ j m x h. next_of k j m (all_in x (list_deeper s es D R k (list js) js d refl)) h) t
  levels_next k v is d (of_other n m) = over

  field_next : (i : ℕ) (name : List ℕ) (v : Value) → Field s es (suc i) name v → All (Next i) (child_levels s es (some v))
  field_next i name v f =
      let x = bears_deep s es D R i name f.place f.last.bears in
      let h : D i < D f.place = x.deeper in
      all_map (Next f.place) (Next i) (λ j n. record { deeper = omega (arith, n.deeper); shallow = n.shallow }) (child_levels s es (some v))
      (levels_next f.place v (child_levels s es (some v)) f.value ((means s es D R).levels_of_is f.place v f.value))

  -- the levels among a field's elements or entries are deeper than its level
  pub below_next : (i : ℕ) (name : List ℕ) → All (Next i) (child_levels s es (field_in s es i name))
  unfolding child_levels
  below_next i name = let p : i + 1 ≡ suc i = omega arith in rw p (go (field s es (suc i) name) refl)
    where
      go : (o : Option Value) → field s es (suc i) name ≡ o → All (Next i) (child_levels s es o)
      go none q = over
      go (some v) q = field_next i name v (field_of s es D R (suc i) name v q)

  pub level_shallow : (name : List ℕ) (i : ℕ) → field s es 0 name ≡ some (level i) → D i < most_depth
  level_shallow name i e =
      let f = field_of s es D R 0 name (level i) e in
      let (own, shallow) = level_own f.place i (level i) f.value refl in
      rw own at shallow

  -- ---- levels that a walk goes down to

  pub kids_fine : (m i : ℕ) → Fine D (suc m) i → All (Fine D m) (child_levels s es (field_in s es i (ascii "ppNextLevelEx")))
  kids_fine m i f = all_map (Next i) (Fine D m) step _ (below_next i (ascii "ppNextLevelEx"))
    where
      step : (j : ℕ) → Next i j → Fine D m j
      step j x = record { shallow = x.shallow; enough = omega (arith, x.deeper, f.enough) }

  pub top_fine : (name : List ℕ) (i : ℕ) → field s es 0 name ≡ some (level i) → All (Fine D most_depth) (i ∷ [])
  top_fine name i e = more (record { shallow = level_shallow name i e; enough = omega arith }) over
