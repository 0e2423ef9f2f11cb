-- Laws of the value of a place, as the code finds it, and of a walk over child levels. Assumes nothing.
use Prim.Native.Nat.{ℕ, zero, suc, ◌+◌, ◌≤◌, ◌<◌}
use mathlib.Core.Path.{◌≡◌, refl, sym, ap, ◌∙◌, subst}
use mathlib.Core.Bool.{true, false}
use mathlib.Core.Option.{Option, none, some}
use mathlib.Core.List.{List, [], ◌∷◌}
use native.Mathlib.Numerals.{add-one}
use native.Mathlib.Omega.{arith}
use lib.ListN.{length, drop, get_elem?}
use denote.Enum.Declared.{tag_of}
use types.Run.{OneOf, miss}
use Rattle.format.specs.Loops.{add_level, levels_of, levels_in, child_levels, size_of}
use Rattle.format.specs.Text.{units, lossy}
use Rattle.format.specs.Values.{level, list, Slot, unnamed, name_of, slots_of, find, slot_value, value_at, as_level}
use Rattle.format.specs.declared.Entry.{Entry}
use Rattle.lookup.specs.Table.{firsts, Ordered, Run, last_named}
use Rattle.lookup.specs.Values.{kids, head_of, elements_of, meaning, field_meaning}
use Rattle.lookup.specs.Walks.{leads, leads_in, Knows, named_or, slot_for, slot_at, slots_at, place_levels, rest_of, Standing, Walk, left_of, Behind}
use Rattle.lookup.specs.declared.ClxValue.{ClxValue}
use Rattle.lookup.specs.declared.ClxValue.TheVariants as clx
use Rattle.std.specs.Prelude as std
use Rattle.lookup.specs.declared.Level.{Level}
use Rattle.lookup.specs.declared.Turn.{Turn}
use Rattle.lookup.specs.declared.Turn.TheVariants as turn
use Rattle.lookup.specs.contracts.ClxValue.{the_type}
use Rattle.lookup.proofs.Lists.{no_name, some_name}
use Rattle.lookup.proofs.Search.{find_run}
use Rattle.lookup.proofs.Elements.{kids_split, kid_rest, unnamed_kids, head_kids, none_kids, get_drop, get_less}
use Rattle.lookup.proofs.Places.{slots_at_is, leads_low, leads_past, leads_here, leads_skip, leads_hop}

-- ---- the only unnamed child

module _ (s : List ℕ) (e : ℕ → Entry) (n p : ℕ) where
  rest_of_is : (j : ℕ) (js : List ℕ) → kids e p 0 n ≡ j ∷ js → js ≡ kids e p (j + 1) n
  rest_of_is j js h = kid_rest e p n j js (kids_split e p n j [] js h)

  pub only_none : none ≡ head_of (kids e p 0 n) → none ≡ as_level (some (slot_value s (firsts n e) (unnamed (kids e p 0 n))))
  unfolding slot_value as_level
  only_none h = sym (rw (none_kids (kids e p 0 n) h))

  pub only_one : (j : ℕ) (o : Option ℕ) → some j ≡ head_of (kids e p 0 n) → none ≡ head_of (kids e p (j + 1) n)
      → o ≡ as_level (some (value_at s (firsts n e) j)) → o ≡ as_level (some (slot_value s (firsts n e) (unnamed (kids e p 0 n))))
  unfolding slot_value
  only_one j o h k q =
      let a = head_kids (kids e p 0 n) j h in
      rw (a.1, rest_of_is j a.0 a.1, none_kids (kids e p (j + 1) n) k) q

  pub only_many : (j b : ℕ) → some j ≡ head_of (kids e p 0 n) → some b ≡ head_of (kids e p (j + 1) n)
      → none ≡ as_level (some (slot_value s (firsts n e) (unnamed (kids e p 0 n))))
  unfolding slot_value as_level
  only_many j b h k =
      let a = head_kids (kids e p 0 n) j h in
      let d = head_kids (kids e p (j + 1) n) b k in
      sym (rw (a.1, rest_of_is j a.0 a.1, d.1))

-- ---- the value of a place: r is its entry

module _ (s : List ℕ) (e : ℕ → Entry) (n p i : ℕ) (r : Entry) (q : r ≡ e i) where
  pub place_unnamed : (o : Option ℕ) → r.units ≡ 0 → o ≡ as_level (some (slot_value s (firsts n e) (unnamed (kids e p 0 n))))
      → o ≡ as_level (some (slot_value s (firsts n e) (slot_at s e n p i)))
  unfolding slot_for
  place_unnamed o z h = rw (← q, no_name s r z, unnamed_kids) h

  slot_named : (to : ℕ) (o : Option ℕ) → Run e n p to → (r.units ≡ 0 → ⊥) → o ≡ last_named s e p (lossy (units r.units s r.name)) to
      → slot_at s e n p i ≡ named_or (name_of s r) o
  unfolding name_of slot_for
  slot_named to o u z h = rw (← q) (go (name_of s r) (some_name s r z) (h ∙ find_run s e p (name_of s r) n to u (some_name s r z)))
    where
      go : (m : List ℕ) → 0 < length m → o ≡ find m (slots_of s (firsts n e) p) → slot_for (slots_of s (firsts n e) p) m ≡ named_or m o
      go [] l h = absurd (omega arith)
      go (a ∷ m) l h = ap (named_or (a ∷ m)) (sym h)

  pub place_named : (to k : ℕ) (o : Option ℕ) → Run e n p to → (r.units ≡ 0 → ⊥) → some k ≡ last_named s e p (lossy (units r.units s r.name)) to
      → o ≡ as_level (some (value_at s (firsts n e) k)) → o ≡ as_level (some (slot_value s (firsts n e) (slot_at s e n p i)))
  unfolding slot_value
  place_named to k o u z h w = w ∙ sym (ap (λ (x : Slot). as_level (some (slot_value s (firsts n e) x))) (slot_named to (some k) u z h))

  pub place_absent : (to : ℕ) → Run e n p to → (r.units ≡ 0 → ⊥) → none ≡ last_named s e p (lossy (units r.units s r.name)) to
      → none ≡ as_level (some (slot_value s (firsts n e) (slot_at s e n p i)))
  unfolding slot_value as_level
  place_absent to u z h = sym (ap (λ (x : Slot). as_level (some (slot_value s (firsts n e) x))) (slot_named to none u z h))

-- ---- the child levels of a level, place by place

module _ (s : List ℕ) (e : ℕ → Entry) (n p : ℕ) where
  levels_at : (i : ℕ) (is : List ℕ) → leads_in s e p i n ≡ is → place_levels s e n p i ≡ levels_in s (firsts n e) (slots_at s e n p is)
  levels_at i is h = ap (λ (x : List ℕ). levels_in s (firsts n e) (slots_at s e n p x)) h

  pub levels_skip : (i : ℕ) → i < n → leads s e p i ≡ false → place_levels s e n p i ≡ place_levels s e n p (i + 1)
  levels_skip i l h = levels_at i _ (leads_skip s e p i n l h)

  pub levels_none : (i : ℕ) → i < n → leads s e p i ≡ true → none ≡ as_level (some (slot_value s (firsts n e) (slot_at s e n p i)))
      → place_levels s e n p i ≡ place_levels s e n p (i + 1)
  unfolding levels_in add_level
  levels_none i l h k = levels_at i _ (leads_here s e p i n l h) ∙ ap (λ (o : Option ℕ). add_level o (place_levels s e n p (i + 1))) (sym k)

  levels_some : (i j : ℕ) → i < n → leads s e p i ≡ true → some j ≡ as_level (some (slot_value s (firsts n e) (slot_at s e n p i)))
      → place_levels s e n p i ≡ j ∷ place_levels s e n p (i + 1)
  unfolding levels_in add_level
  levels_some i j l h k = levels_at i _ (leads_here s e p i n l h) ∙ ap (λ (o : Option ℕ). add_level o (place_levels s e n p (i + 1))) (sym k)

  pub levels_hop : (i j : ℕ) → p ≤ i → Run e n (i + 1) j → place_levels s e n p (i + 1) ≡ place_levels s e n p j
  levels_hop i j l r = levels_at (i + 1) _ (leads_hop s e p n i j l r)

  pub levels_found : (i j m : ℕ) → i < n → leads s e p i ≡ true → some j ≡ as_level (some (slot_value s (firsts n e) (slot_at s e n p i))) → p ≤ i
      → Run e n (i + 1) m → place_levels s e n p i ≡ j ∷ place_levels s e n p m
  levels_found i j m l h k a r = levels_some i j l h k ∙ ap (λ (x : List ℕ). j ∷ x) (levels_hop i m a r)

  pub levels_past : (r i : ℕ) → Run e n p r → r ≤ i → place_levels s e n p i ≡ []
  unfolding levels_in
  levels_past r i q l = levels_at i _ (leads_past s e p n r i q l)

  -- those of the whole level
  pub levels_all : Ordered e n → p ≤ n → levels_in s (firsts n e) (slots_of s (firsts n e) p) ≡ place_levels s e n p p
  levels_all o l =
      ap (levels_in s (firsts n e)) (slots_at_is s e n p) ∙ ap (λ (x : List ℕ). levels_in s (firsts n e) (slots_at s e n p x)) (leads_low s e p n o l)

-- ---- element by element

module _ (s : List ℕ) (es : List Entry) (l : List ℕ) (k i : ℕ) (h : get_elem? l k ≡ some i) where
  pub items_none : none ≡ as_level (some (value_at s es i)) → levels_of s es (drop k l) ≡ levels_of s es (drop (k + 1) l)
  unfolding levels_of add_level
  items_none q = rw (get_drop l k i h, add-one) (ap (λ (o : Option ℕ). add_level o (levels_of s es (drop (suc k) l))) (sym q))

  pub items_some : (j : ℕ) → some j ≡ as_level (some (value_at s es i)) → levels_of s es (drop k l) ≡ j ∷ levels_of s es (drop (k + 1) l)
  unfolding levels_of add_level
  items_some j q = rw (get_drop l k i h, add-one) (ap (λ (o : Option ℕ). add_level o (levels_of s es (drop (suc k) l))) (sym q))

pub items_past : (s : List ℕ) (es : List Entry) (l : List ℕ) (k : ℕ) → none ≡ get_elem? l k → levels_of s es (drop k l) ≡ []
unfolding levels_of
items_past s es l k h = ap (levels_of s es) (go l k h)
  where
    go : (l : List ℕ) (k : ℕ) → none ≡ get_elem? l k → drop k l ≡ []
    go [] zero h = refl
    go [] (suc k) h = refl
    go (x ∷ l) zero h = absurd (let z : ◌≡◌ {A = ℕ} 0 1 = cc in omega arith)
    go (x ∷ l) (suc k) h = go l k h

-- ---- what a field's elements or entries are, where a match took it apart

module _ (s : List ℕ) (es : List Entry) (f : std.Option ClxValue) where
  absent_of : f ≡ std.None → field_meaning s es f ≡ none
  unfolding field_meaning
  absent_of h = rw h refl

  level_of_is : (v : ClxValue) (i : ℕ) → f ≡ std.Some v → v ≡ clx.Level i → field_meaning s es f ≡ some (level i)
  unfolding field_meaning meaning
  level_of_is v i h k = rw (h, k) refl

  list_of : (v : ClxValue) (i : ℕ) → f ≡ std.Some v → v ≡ clx.List i → field_meaning s es f ≡ some (list (elements_of s es (i + 1)))
  unfolding field_meaning meaning
  list_of v i h k = rw (h, k, add-one) refl

  -- any other kind has none
  other_of : (v : ClxValue) → f ≡ std.Some v → OneOf (0 ∷ 1 ∷ 2 ∷ 3 ∷ 4 ∷ 5 ∷ []) (tag_of the_type v)
      → (child_levels s es (field_meaning s es f) ≡ []) × (size_of s es (field_meaning s es f) ≡ 0)
  unfolding field_meaning meaning child_levels size_of
  other_of v h k = rw h (go v k)
    where
      go : (v : ClxValue) → OneOf (0 ∷ 1 ∷ 2 ∷ 3 ∷ 4 ∷ 5 ∷ []) (tag_of the_type v)
          → (child_levels s es (some (meaning s es v)) ≡ []) × (size_of s es (some (meaning s es v)) ≡ 0)
      go (clx.Flag b) k = (refl, refl)
      go (clx.Whole n) k = (refl, refl)
      go (clx.Below n) k = (refl, refl)
      go (clx.Double x) k = (refl, refl)
      go (clx.Text a n) k = (refl, refl)
      go (clx.Bytes a n) k = (refl, refl)
      go (clx.Level i) k = absurd (miss (0 ∷ 1 ∷ 2 ∷ 3 ∷ 4 ∷ 5 ∷ []) 6 tt k)
      go (clx.List i) k = absurd (miss (0 ∷ 1 ∷ 2 ∷ 3 ∷ 4 ∷ 5 ∷ []) 7 tt k)

  -- ---- how many there are

  pub size_absent : f ≡ std.None → 0 ≡ size_of s es (field_meaning s es f)
  unfolding size_of
  size_absent h = sym (ap (size_of s es) (absent_of h))

  pub size_level : (v : ClxValue) (i k : ℕ) → f ≡ std.Some v → v ≡ clx.Level i → k ≡ length (slots_of s es (i + 1)) → k ≡ size_of s es (field_meaning s es f)
  unfolding size_of
  size_level v i k h q z = z ∙ rw add-one (sym (ap (size_of s es) (level_of_is v i h q)))

  pub size_list : (v : ClxValue) (i k : ℕ) → f ≡ std.Some v → v ≡ clx.List i → k ≡ length (elements_of s es (i + 1)) → k ≡ size_of s es (field_meaning s es f)
  unfolding size_of
  size_list v i k h q z = z ∙ sym (ap (size_of s es) (list_of v i h q))

  pub size_other : (v : ClxValue) → f ≡ std.Some v → OneOf (0 ∷ 1 ∷ 2 ∷ 3 ∷ 4 ∷ 5 ∷ []) (tag_of the_type v) → 0 ≡ size_of s es (field_meaning s es f)
  size_other v h k = sym (other_of v h k).1

-- ---- a walk's start

module _ (s : List ℕ) (e : ℕ → Entry) (n : ℕ) (f : std.Option ClxValue) where
  pub walk_absent : f ≡ std.None → Walk s e n (child_levels s (firsts n e) (field_meaning s (firsts n e) f)) turn.Over
  unfolding child_levels
  walk_absent h = record { good = tt; rest = ap (child_levels s (firsts n e)) (absent_of s (firsts n e) f h) }

  pub walk_level : (v : ClxValue) (i : ℕ) (b : Level) → f ≡ std.Some v → v ≡ clx.Level i → Ordered e n → b.parent ≡ i + 1 → Knows s e n b
      → Walk s e n (child_levels s (firsts n e) (field_meaning s (firsts n e) f)) (turn.Places b (i + 1))
  unfolding child_levels
  walk_level v i b h k o q a =
      record {
        good = (a, omega arith);
        rest =
            ap (child_levels s (firsts n e)) (level_of_is s (firsts n e) f v i h k)
            ∙ ap (λ (p : ℕ). levels_in s (firsts n e) (slots_of s (firsts n e) p)) (sym (add-one i))
            ∙ levels_all s e n (i + 1) o (omega (arith, q, a.run.below.low, a.run.below.high))
            ∙ ap (λ (p : ℕ). place_levels s e n p (i + 1)) (sym q);
      }

  pub walk_empty : (v : ClxValue) (i : ℕ) → f ≡ std.Some v → v ≡ clx.List i → none ≡ head_of (elements_of s (firsts n e) (i + 1))
      → Walk s e n (child_levels s (firsts n e) (field_meaning s (firsts n e) f)) turn.Over
  unfolding child_levels levels_of
  walk_empty v i h k q =
      record {
        good = tt;
        rest = ap (child_levels s (firsts n e)) (list_of s (firsts n e) f v i h k) ∙ items_past s (firsts n e) (elements_of s (firsts n e) (i + 1)) 0 q;
      }

  pub walk_list : (v : ClxValue) (i at : ℕ) → f ≡ std.Some v → v ≡ clx.List i → at < n → ((s : List ℕ) → some at ≡ head_of (elements_of s (firsts n e) (i + 1)))
      → Walk s e n (child_levels s (firsts n e) (field_meaning s (firsts n e) f)) (turn.Elements (i + 1) 0 at)
  unfolding child_levels
  walk_list v i at h k l q =
      record { good = (l, λ s. sym (q s)); rest = ap (child_levels s (firsts n e)) (list_of s (firsts n e) f v i h k) }

  pub walk_other : (v : ClxValue) → f ≡ std.Some v → OneOf (0 ∷ 1 ∷ 2 ∷ 3 ∷ 4 ∷ 5 ∷ []) (tag_of the_type v)
      → Walk s e n (child_levels s (firsts n e) (field_meaning s (firsts n e) f)) turn.Over
  walk_other v h k = record { good = tt; rest = (other_of s (firsts n e) f v h k).0 }

-- ---- a walk's next step

-- after element number k: none, or the next
module _ (s : List ℕ) (e : ℕ → Entry) (n p k : ℕ) where
  pub behind_end : none ≡ get_elem? (elements_of s (firsts n e) p) (k + 1) → Behind s e n p k turn.Over
  behind_end h = record { walk = record { good = tt; rest = items_past s (firsts n e) (elements_of s (firsts n e) p) (k + 1) h }; less = omega arith }

module _ (s : List ℕ) (e : ℕ → Entry) (n : ℕ) (t : Turn) where
  pub standing_elements : (p k i : ℕ) → t ≡ turn.Elements p k i → Standing s e n t
      → (i < n) × ((s : List ℕ) → get_elem? (elements_of s (firsts n e) p) k ≡ some i)
  standing_elements p k i h g = subst (Standing s e n) h g

module _ (s : List ℕ) (e : ℕ → Entry) (n : ℕ) (t : Turn) where
  pub rest_is : (l : List ℕ) (u : Turn) → l ≡ rest_of s e n t → t ≡ u → l ≡ rest_of s e n u
  rest_is l u h k = h ∙ ap (rest_of s e n) k

  -- from element number k on
  module _ (l : List ℕ) (p k i : ℕ) (h : t ≡ turn.Elements p k i) (r : l ≡ rest_of s e n t) (g : get_elem? (elements_of s (firsts n e) p) k ≡ some i) (u : Turn)
      (b : Behind s e n p k u) where
    pub element_some : (j : ℕ) → some j ≡ as_level (some (value_at s (firsts n e) i)) → l ≡ j ∷ rest_of s e n u
    element_some j q = rest_is l _ r h ∙ items_some s (firsts n e) (elements_of s (firsts n e) p) k i g j q ∙ ap (λ (m : List ℕ). j ∷ m) b.walk.rest

    pub element_none : none ≡ as_level (some (value_at s (firsts n e) i)) → l ≡ rest_of s e n u
    element_none q = rest_is l _ r h ∙ items_none s (firsts n e) (elements_of s (firsts n e) p) k i g q ∙ b.walk.rest

    pub element_less : left_of s e n u < left_of s e n t
    element_less =
        let x = get_less (elements_of s (firsts n e) p) k i g in
        let y = ap (left_of s e n) h in
        omega (arith, b.less, x, y)
