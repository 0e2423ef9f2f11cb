-- The values that are computed are those that the grammar's rules give. Assumes nothing.
use Prim.Native.Nat.{ℕ, zero, suc, ◌+◌, ◌<◌}
use mathlib.Core.Path.{◌≡◌, refl, sym, ap, ◌∙◌}
use mathlib.Core.Bool.{Bool, true, false, true≢false}
use mathlib.Core.Option.{Option, none, some, some_inj}
use mathlib.Core.List.{List, [], ◌∷◌, ◌++◌, nil≢cons}
use native.Mathlib.Omega.{arith}
use lib.Dec.{eqb}
use lib.ListN.{length, get_elem?}
use borrow.Author.Tests.{eqb-true, eqb-false}
use Rattle.format.proofs.Ground.Answers.{none≢some}
use Rattle.format.proofs.Values.LevelOrLeaf.{as_level_is, level_as, leaf_by}
use Rattle.format.proofs.Values.Leaves.{Typed, leaf_read, read_leaf, leaf_kind}
use Rattle.format.proofs.Trees.Depths.{Ranked, level_depth, child_depth, entry_typed}
use Rattle.format.proofs.Text.Mended.{read_name}
use Rattle.format.proofs.Ground.Lists.{all_append, all_map, all_rest, all_in, rising_above, just_first, just_unique}
use Rattle.format.proofs.Values.Slots.{Latest, SlotAt, a_name, no_name, Slots, empty, slot, Holds, Kept, holds_empty, holds_rest, slot_first}
use Rattle.format.proofs.Values.Slots.{slots_of_is, first_unique, latest_unique, holds_place, slots_length, slots_all, find_latest, find_holds}
use Rattle.format.proofs.Values.Meaning.{Means}
use Rattle.format.specs.Trees.{most_depth}
use Rattle.format.specs.Values.{Value, flag, whole, double, text, bytes, level, list, Slot, unnamed, name_of, slots_of, spread, elements}
use Rattle.format.specs.Values.{collapse, leaf, value_if, value_from, value_at, slot_value, find, map_option, field, as_level}
use Rattle.format.specs.Loops.{add_level, levels_of, levels_in, child_levels, size_of}
use Rattle.format.specs.Grammar.Lists.{All, over, more, In, here, Rising, Just}
use Rattle.format.specs.Grammar.Values.{LeafOf, NoList, NoLevel, Elements, Levels, Bears, Place, ValueOf, is_leaf, is_level, is_list, Field}
use Rattle.format.specs.Grammar.Values.{PlaceValue, of_name, of_one, of_several, LevelsIn, SizeOf}
use Rattle.format.specs.declared.Entry.{Entry}

-- ---- kinds of values

-- neither a level nor a list
abbrev is_plain : Value → Bool
is_plain (flag b) = true
is_plain (whole z) = true
is_plain (double b) = true
is_plain (text i n) = true
is_plain (bytes i n) = true
is_plain (level i) = false
is_plain (list l) = false

plain_level : (v : Value) → is_plain v ≡ true → NoLevel v
plain_level v p i e = true≢false (sym p ∙ ap is_plain e)

plain_list : (v : Value) → is_plain v ≡ true → NoList v
plain_list v p l e = true≢false (sym p ∙ ap is_plain e)

leaf_plain : (s : List ℕ) (e : Entry) → is_plain (leaf s e) ≡ true
leaf_plain s e = leaf_by (λ v. is_plain v ≡ true) (λ b. refl) (λ z. refl) (λ x. refl) (λ a n. refl) (λ a n. refl) s e

pub leaf_level : (s : List ℕ) (e : Entry) (v : Value) → LeafOf s e v → NoLevel v
leaf_level s e v x i z = plain_level (leaf s e) (leaf_plain s e) i (read_leaf s e v x ∙ z)

leaf_list : (s : List ℕ) (e : Entry) (v : Value) → LeafOf s e v → NoList v
leaf_list s e v x l z = plain_list (leaf s e) (leaf_plain s e) l (read_leaf s e v x ∙ z)

-- the three kinds of values
data Kind : Value → Type 0 where
  plain : {v : Value} → is_plain v ≡ true → Kind v
  a_level : {i : ℕ} → Kind (level i)
  a_list : {l : List ℕ} → Kind (list l)

kind : (v : Value) → Kind v
kind (flag b) = plain refl
kind (whole z) = plain refl
kind (double b) = plain refl
kind (text i n) = plain refl
kind (bytes i n) = plain refl
kind (level i) = a_level
kind (list l) = a_list

-- the elements of a list are its first entry's, or that entry, and the others
spread_elements : (j : ℕ) (v : Value) (js : List ℕ) → Elements j v js (spread v j ++ js)
unfolding spread
spread_elements j (flag b) js = Elements.first (plain_list (flag b) refl)
spread_elements j (whole z) js = Elements.first (plain_list (whole z) refl)
spread_elements j (double b) js = Elements.first (plain_list (double b) refl)
spread_elements j (text i n) js = Elements.first (plain_list (text i n) refl)
spread_elements j (bytes i n) js = Elements.first (plain_list (bytes i n) refl)
spread_elements j (level i) js = Elements.first (λ l e. let z : ◌≡◌ {A = ℕ} 0 1 = cc in omega arith)
spread_elements j (list l) js = Elements.appended refl

-- there are no others
elements_unique : {j k : ℕ} {v w : Value} {js ks l m : List ℕ} → j ∷ js ≡ k ∷ ks → v ≡ w → Elements j v js l → Elements k w ks m → l ≡ m
elements_unique p q (Elements.first f) (Elements.first g) = p
elements_unique p q (Elements.first f) (Elements.appended {l = m} e) = absurd (f m (q ∙ e))
elements_unique p q (Elements.appended {l = l} e) (Elements.first g) = absurd (g l (sym q ∙ e))
elements_unique p q (Elements.appended e) (Elements.appended f) = cc

-- ---- a value among elements or entries

add_level_is : (Has : ℕ → Value → Type 0) (j : ℕ) (v : Value) (js is : List ℕ) → Has j v → Levels Has js is
    → Levels Has (j ∷ js) (add_level (as_level (some v)) is)
unfolding add_level
add_level_is Has j v js is h t = go (as_level (some v)) refl
  where
    go : (o : Option ℕ) → as_level (some v) ≡ o → Levels Has (j ∷ js) (add_level o is)
    go none q = Levels.other h (λ i e. none≢some (sym q ∙ level_as (some v) i (ap some e))) t
    go (some i) q = Levels.one (rw (some_inj.0 (as_level_is (some v) i q)) at h) t

level_added : (v : Value) (i : ℕ) (is : List ℕ) → v ≡ level i → add_level (as_level (some v)) is ≡ i ∷ is
unfolding add_level
level_added v i is e = rw (level_as (some v) i (ap some e)) refl

other_added : (v : Value) (is : List ℕ) → NoLevel v → add_level (as_level (some v)) is ≡ is
unfolding add_level
other_added v is n = go (as_level (some v)) refl
  where
    go : (o : Option ℕ) → as_level (some v) ≡ o → add_level o is ≡ is
    go none q = refl
    go (some i) q = absurd (n i (some_inj.0 (as_level_is (some v) i q)))

same_kind : {o : Option Entry} {e f : Entry} → o ≡ some e → o ≡ some f → e.kind ≡ 11 → f.kind ≡ 11
same_kind p q k = rw (some_inj.0 (sym p ∙ q)) at k

rest_inj : {i j : ℕ} {is js : List ℕ} → i ∷ is ≡ j ∷ js → is ≡ js
rest_inj e = cc

module _ (s : List ℕ) (es : List Entry) where
  -- ---- values with no elements or entries

  plain_levels : (v : Value) → is_plain v ≡ true → child_levels s es (some v) ≡ []
  unfolding child_levels
  plain_levels (flag b) p = refl
  plain_levels (whole z) p = refl
  plain_levels (double b) p = refl
  plain_levels (text i n) p = refl
  plain_levels (bytes i n) p = refl
  plain_levels (level i) p = absurd (true≢false (sym p))
  plain_levels (list l) p = absurd (true≢false (sym p))

  plain_size : (v : Value) → is_plain v ≡ true → size_of s es (some v) ≡ 0
  unfolding size_of
  plain_size (flag b) p = refl
  plain_size (whole z) p = refl
  plain_size (double b) p = refl
  plain_size (text i n) p = refl
  plain_size (bytes i n) p = refl
  plain_size (level i) p = absurd (true≢false (sym p))
  plain_size (list l) p = absurd (true≢false (sym p))

  -- ---- names and places

  one_name : (p j : ℕ) {n m : List ℕ} → Bears s es p n j → Bears s es p m j → n ≡ m
  one_name p j {n} {m} b c =
      let z = some_inj.0 (sym b.there ∙ c.there) in
      sym (read_name s b.entry n b.name_is) ∙ (ap (name_of s) z ∙ read_name s c.entry m c.name_is)

  places_just : (p : ℕ) → Just (Place s es p) (slots_of_is s es p).places
  places_just p =
      record {
        rising = k.rising;
        each = slots_all (λ n j f. record { name = n; bears = f.bears; none_earlier = f.none_earlier }) k.slots;
        every = every;
      }
    where
      k : Kept (Bears s es p) (slots_of s es p)
      k = slots_of_is s es p

      every : (j : ℕ) → Place s es p j → In j k.places
      every j x =
          let (i, there, f) = holds_place (Bears s es p) k.slots (k.every x.name j x.bears) in
          let z : i ≡ j = first_unique (Bears s es p) f (record { bears = x.bears; none_earlier = x.none_earlier }) in
          rw z at there

  -- ---- an entry has one value

  value_unique : {i : ℕ} {v w : Value} → ValueOf s es i v → ValueOf s es i w → v ≡ w
  value_unique (is_leaf {e = e} {v = v} p k) (is_leaf {e = f} {v = w} q l) =
      sym (read_leaf s e v k) ∙ (ap (leaf s) (some_inj.0 (sym p ∙ q)) ∙ read_leaf s f w l)
  value_unique (is_leaf {e = e} {v = v} p k) (is_level q l n) = absurd (leaf_kind s e v k (same_kind q p l))
  value_unique (is_leaf {e = e} {v = v} p k) (is_list q l n a d x) = absurd (leaf_kind s e v k (same_kind q p l))
  value_unique (is_level p k m) (is_leaf {e = e} {v = v} q l) = absurd (leaf_kind s e v l (same_kind p q k))
  value_unique (is_level p k m) (is_level q l n) = refl
  value_unique (is_level p k m) (is_list q l n a d x) = absurd (m n)
  value_unique (is_list p k m a d x) (is_leaf {e = e} {v = v} q l) = absurd (leaf_kind s e v l (same_kind p q k))
  value_unique (is_list p k m a d x) (is_level q l n) = absurd (n m)
  value_unique (is_list {j = j} {js = js} p k m a d x) (is_list {j = h} {js = hs} q l n b c y) =
      let same : j ∷ js ≡ h ∷ hs = just_unique a b in
      let z : h ≡ j = cc in
      ap list (elements_unique same (value_unique d (rw z at c)) x y)

  value_entry : {i : ℕ} {v : Value} → ValueOf s es i v → (e : Entry) × (get_elem? es i ≡ some e)
  value_entry (is_leaf {e = e} p k) = (e, p)
  value_entry (is_level {e = e} p k m) = (e, p)
  value_entry (is_list {e = e} p k m a d x) = (e, p)

  -- ---- the value of a level

  -- the value of the level of entry i, whose slots are r
  collapse_value : (i : ℕ) (e : Entry) → get_elem? es i ≡ some e → e.kind ≡ 11 → (val : ℕ → Value)
      → ((j : ℕ) → Bears s es (suc i) [] j → ValueOf s es j (val j))
      → (js : List ℕ) (r : List Slot) → Rising js → ((n : List ℕ) (j : ℕ) → Bears s es (suc i) n j → Holds n r) → Slots (Bears s es (suc i)) js r
      → ValueOf s es i (collapse val i r)
  unfolding collapse elements
  collapse_value i e q k val h js r up every empty = is_level q k λ n. holds_empty (every [] n.one n.unnamed)
  collapse_value i e q k val h js r up every (slot {j} (a_name {u} {n = m} f l) t) = is_level q k λ n. n.none_named j u m f.bears
  collapse_value i e q k val h js r up every (slot {j} (no_name {js = is} a) empty) =
      is_list q k
      (record {
        one = j;
        unnamed = just_first a;
        none_named = λ x u n b. only u n (every (u ∷ n) x b);
      })
      a (h j (just_first a)) (spread_elements j (val j) is)
    where
      only : (u : ℕ) (n : List ℕ) → Holds (u ∷ n) (unnamed (j ∷ is) ∷ []) → ⊥
      only u n x = holds_empty (holds_rest nil≢cons x)
  collapse_value i e q k val h js r up every (slot (no_name a) (slot {j} (a_name {u} {n = m} f l) t)) = is_level q k λ n. n.none_named j u m f.bears
  collapse_value i e q k val h js r up every (slot {j} {js = ks} (no_name {js = is} a) (slot {j = x} (no_name b) t)) =
      absurd ((slot_first {B = Bears s es (suc i)} (no_name b)).none_earlier j (all_in here (rising_above j ks up)) (just_first a))

  -- the value of an entry from those of a level's unnamed entries
  kind_value : (i : ℕ) (e : Entry) → Typed e → get_elem? es i ≡ some e → (val : ℕ → Value)
      → (e.kind ≡ 11 → (j : ℕ) → Bears s es (suc i) [] j → ValueOf s es j (val j))
      → ValueOf s es i (value_if (eqb e.kind 11) (λ _. collapse val i (slots_of s es (suc i))) (leaf s e))
  unfolding value_if
  kind_value i e t q val h = go (eqb e.kind 11) refl
    where
      k : Kept (Bears s es (suc i)) (slots_of s es (suc i))
      k = slots_of_is s es (suc i)

      go : (b : Bool) → eqb e.kind 11 ≡ b → ValueOf s es i (value_if b (λ _. collapse val i (slots_of s es (suc i))) (leaf s e))
      go true z =
          let own = eqb-true e.kind 11 z in
          collapse_value i e q own val (h own) k.places (slots_of s es (suc i)) k.rising k.every k.slots
      go false z = is_leaf q (leaf_read s e t (eqb-false e.kind 11 z))

-- ---- the entries of a tree have values

module _ (s : List ℕ) (es : List Entry) (D : ℕ → ℕ) (R : Ranked D 0 es) where
  bears_deeper : (i j : ℕ) (n : List ℕ) → Bears s es (suc i) n j → D i < D j
  bears_deeper i j n b = child_depth D es R j b.entry b.there i b.child

  value_from_is : (levels i : ℕ) (e : Entry) → get_elem? es i ≡ some e → most_depth < D i + suc levels
      → ValueOf s es i (value_from (suc levels) s es i (some e))
  unfolding value_from
  value_from_is zero i e q h =
      kind_value s es i e (entry_typed D es R i e q) q (λ j. value_from 0 s es j (get_elem? es j)) λ k. absurd (omega (arith, level_depth D es R i e q k))
  value_from_is (suc levels) i e q h =
      kind_value s es i e (entry_typed D es R i e q) q (λ j. value_from (suc levels) s es j (get_elem? es j))
      λ k j b. rw b.there (value_from_is levels j b.entry b.there (omega (arith, bears_deeper i j [] b)))

  value_of : (i : ℕ) (e : Entry) → get_elem? es i ≡ some e → ValueOf s es i (value_at s es i)
  unfolding value_at
  value_of i e q = rw q (value_from_is most_depth i e q (omega arith))

  of_value : (i : ℕ) (v : Value) → ValueOf s es i v → value_at s es i ≡ v
  of_value i v d = let (e, q) = value_entry s es d in value_unique s es (value_of i e q) d

  bears_value : (p : ℕ) (n : List ℕ) (j : ℕ) → Bears s es p n j → ValueOf s es j (value_at s es j)
  bears_value p n j b = value_of j b.entry b.there

  -- ---- names

  latest_field : (p l : ℕ) (n : List ℕ) → Latest (Bears s es p) n l → Field s es p n (value_at s es l)
  latest_field p l n a = record { place = l; last = record { bears = a.bears; none_later = a.none_later }; value = bears_value p n l a.bears }

  field_latest : (p l : ℕ) (n : List ℕ) (v : Value) → Latest (Bears s es p) n l → Field s es p n v → value_at s es l ≡ v
  field_latest p l n v a f =
      let x : Latest (Bears s es p) n f.place = record { bears = f.last.bears; none_later = f.last.none_later } in
      rw (latest_unique (Bears s es p) a x) (of_value f.place v f.value)

  pub field_of : (p : ℕ) (n : List ℕ) (v : Value) → field s es p n ≡ some v → Field s es p n v
  unfolding field
  field_of p n v e = go (find n (slots_of s es p)) refl e
    where
      go : (o : Option ℕ) → find n (slots_of s es p) ≡ o → map_option (value_at s es) o ≡ some v → Field s es p n v
      go none q e = absurd (none≢some e)
      go (some l) q e = rw (some_inj.0 e) at (latest_field p l n (find_latest (Bears s es p) n l (slots_of_is s es p).slots q))

  of_field : (p u : ℕ) (n : List ℕ) (v : Value) → Field s es p (u ∷ n) v → field s es p (u ∷ n) ≡ some v
  unfolding field
  of_field p u n v f =
      let k = slots_of_is s es p in
      let (l, q) = find_holds u n (slots_of s es p) (k.every (u ∷ n) f.place f.last.bears) in
      rw q (ap some (field_latest p l (u ∷ n) v (find_latest (Bears s es p) (u ∷ n) l k.slots q) f))

  -- ---- the elements of lists

  -- an entry that is deeper than i
  pub record Deeper (i j : ℕ) : Type 0 where
    pub entry : Entry
    pub there : get_elem? es j ≡ some entry
    pub deeper : D i < D j

  pub bears_deep : (i : ℕ) (n : List ℕ) (j : ℕ) → Bears s es (suc i) n j → Deeper i j
  bears_deep i n j b = record { entry = b.entry; there = b.there; deeper = bears_deeper i j n b }

  -- those of a list are deeper than the list's entry
  elements_deeper : (i j : ℕ) (v : Value) (js l : List ℕ) → Deeper i j → All (Deeper i) js → ((m : List ℕ) → v ≡ list m → All (Deeper j) m) → Elements j v js l
      → All (Deeper i) l
  elements_deeper i j v js l d a h (Elements.first f) = more d a
  elements_deeper i j v js l d a h (Elements.appended {l = m} e) =
      let x : D i < D j = d.deeper in
      all_append (Deeper i) m js
      (all_map (Deeper j) (Deeper i) (λ k y. record { entry = y.entry; there = y.there; deeper = omega (arith, y.deeper) }) m (h m e)) a

  pub list_deeper : (i : ℕ) (v : Value) (l : List ℕ) → ValueOf s es i v → v ≡ list l → All (Deeper i) l
  list_deeper i v l (is_leaf {e = e} q k) z = absurd (leaf_list s e v k l z)
  list_deeper i v l (is_level q k n) z = absurd (let z : ◌≡◌ {A = ℕ} 0 1 = cc in omega arith)
  list_deeper i v l (is_list {j = j} {v = w} {js = js} {l = m} q k n a d x) z =
      let same : m ≡ l = cc in
      let deep = all_map (Bears s es (suc i) []) (Deeper i) (bears_deep i []) (j ∷ js) a.each in
      rw same at (elements_deeper i j w js m (all_in here deep) (all_rest deep) (λ m e. list_deeper j w m d e) x)

  elements_of_is : (i : ℕ) (l : List ℕ) → ValueOf s es i (list l) → All (λ j. ValueOf s es j (value_at s es j)) l
  elements_of_is i l d =
      all_map (Deeper i) (λ j. ValueOf s es j (value_at s es j)) (λ j x. value_of j x.entry x.there) l (list_deeper i (list l) l d refl)

  -- ---- the values of places

  slot_value_is : (p j : ℕ) (x : Slot) → SlotAt (Bears s es p) j x → PlaceValue s es p j (slot_value s es x)
  unfolding slot_value elements
  slot_value_is p j x (a_name {u} {l} {n} f a) = of_name f.bears (latest_field p l (u ∷ n) a)
  slot_value_is p j x (no_name {js = []} a) = of_one a (bears_value p [] j (just_first a))
  slot_value_is p j x (no_name {js = k ∷ js} a) =
      of_several a (bears_value p [] j (just_first a)) (spread_elements j (value_at s es j) (k ∷ js))

  value_slot : (p j : ℕ) (x : Slot) (v : Value) → SlotAt (Bears s es p) j x → PlaceValue s es p j v → slot_value s es x ≡ v
  unfolding slot_value elements
  value_slot p j x v (a_name {u} {l} {n} f a) (of_name b g) = field_latest p l (u ∷ n) v a (rw (one_name s es p j b f.bears) at g)
  value_slot p j x v (a_name f a) (of_one b d) = absurd (nil≢cons (one_name s es p j (just_first b) f.bears))
  value_slot p j x v (a_name f a) (of_several b d y) = absurd (nil≢cons (one_name s es p j (just_first b) f.bears))
  value_slot p j x v (no_name a) (of_name b g) = absurd (nil≢cons (one_name s es p j (just_first a) b))
  value_slot p j x v (no_name {js = js} a) (of_one {v = w} b d) = let z : js ≡ [] = rest_inj (just_unique a b) in rw z (of_value j w d)
  value_slot p j x v (no_name {js = js} a) (of_several {k = k} {v = w} {js = ks} b d y) =
      let z : js ≡ k ∷ ks = rest_inj (just_unique a b) in
      rw z (ap list (elements_unique refl (of_value j w d) (spread_elements j (value_at s es j) (k ∷ ks)) y))

  -- ---- elements or entries

  levels_list : (js : List ℕ) → All (λ j. ValueOf s es j (value_at s es j)) js → Levels (ValueOf s es) js (levels_of s es js)
  unfolding levels_of
  levels_list js over = Levels.none
  levels_list js (more {i = j} {is = ks} d a) = add_level_is (ValueOf s es) j (value_at s es j) ks (levels_of s es ks) d (levels_list ks a)

  list_levels : (js is : List ℕ) → Levels (ValueOf s es) js is → levels_of s es js ≡ is
  unfolding levels_of
  list_levels js is Levels.none = refl
  list_levels js is (Levels.one {i = i} {j = j} {is = ms} {js = ks} d t) =
      rw (list_levels ks ms t) (level_added (value_at s es j) i ms (of_value j (level i) d))
  list_levels js is (Levels.other {j = j} {v = v} {is = ms} {js = ks} d n t) = rw (list_levels ks ms t, of_value j v d) (other_added v ms n)

  levels_slots : (p : ℕ) (js : List ℕ) (r : List Slot) → Slots (Bears s es p) js r → Levels (PlaceValue s es p) js (levels_in s es r)
  unfolding levels_in
  levels_slots p js r empty = Levels.none
  levels_slots p js r (slot {j} {js = ks} {x} {r = q} a t) =
      add_level_is (PlaceValue s es p) j (slot_value s es x) ks (levels_in s es q) (slot_value_is p j x a) (levels_slots p ks q t)

  slots_levels : (p : ℕ) (js : List ℕ) (r : List Slot) (is : List ℕ) → Slots (Bears s es p) js r → Levels (PlaceValue s es p) js is → levels_in s es r ≡ is
  unfolding levels_in
  slots_levels p js r is empty Levels.none = refl
  slots_levels p js r is (slot {j} {js = ks} {x} {r = q} a t) (Levels.one {i = i} {is = ms} d l) =
      rw (slots_levels p ks q ms t l) (level_added (slot_value s es x) i ms (value_slot p j x (level i) a d))
  slots_levels p js r is (slot {j} {js = ks} {x} {r = q} a t) (Levels.other {v = v} {is = ms} d n l) =
      rw (slots_levels p ks q ms t l, value_slot p j x v a d) (other_added v ms n)

  levels_of_is : (i : ℕ) (v : Value) → ValueOf s es i v → Kind v → LevelsIn s es v (child_levels s es (some v))
  unfolding child_levels
  levels_of_is i v d (plain p) = rw (plain_levels s es v p) (LevelsIn.of_other (plain_level v p) (plain_list v p))
  levels_of_is i v d (a_level {i = j}) =
      LevelsIn.of_level (places_just s es (suc j)) (levels_slots (suc j) (slots_of_is s es (suc j)).places (slots_of s es (suc j))
      (slots_of_is s es (suc j)).slots)
  levels_of_is i v d (a_list {l}) = LevelsIn.of_list (levels_list l (elements_of_is i l d))

  of_levels : (v : Value) (is : List ℕ) → LevelsIn s es v is → Kind v → child_levels s es (some v) ≡ is
  unfolding child_levels
  of_levels v is (LevelsIn.of_level {i = i} {js = js} a t) k =
      let z = just_unique a (places_just s es (suc i)) in
      slots_levels (suc i) (slots_of_is s es (suc i)).places (slots_of s es (suc i)) is (slots_of_is s es (suc i)).slots (rw z at t)
  of_levels v is (LevelsIn.of_list {js = js} t) k = list_levels js is t
  of_levels v is (LevelsIn.of_other n m) (plain p) = plain_levels s es v p
  of_levels v is (LevelsIn.of_other n m) (a_level {i}) = absurd (n i refl)
  of_levels v is (LevelsIn.of_other n m) (a_list {l}) = absurd (m l refl)

  size_of_is : (v : Value) → Kind v → SizeOf s es v (size_of s es (some v))
  unfolding size_of
  size_of_is v (plain p) = rw (plain_size s es v p) (SizeOf.of_other (plain_level v p) (plain_list v p))
  size_of_is v (a_level {i}) = rw (← slots_length (Bears s es (suc i)) (slots_of_is s es (suc i)).slots) (SizeOf.of_level (places_just s es (suc i)))
  size_of_is v (a_list {l}) = SizeOf.of_list

  of_size : (v : Value) (n : ℕ) → SizeOf s es v n → Kind v → size_of s es (some v) ≡ n
  unfolding size_of
  of_size v n (SizeOf.of_level {i = i} {js = js} a) k =
      sym (slots_length (Bears s es (suc i)) (slots_of_is s es (suc i)).slots) ∙ ap length (just_unique (places_just s es (suc i)) a)
  of_size v n SizeOf.of_list k = refl
  of_size v n (SizeOf.of_other l m) (plain p) = plain_size s es v p
  of_size v n (SizeOf.of_other l m) (a_level {i}) = absurd (l i refl)
  of_size v n (SizeOf.of_other l m) (a_list {l = k}) = absurd (m k refl)

-- the entries of a tree mean what the rules say
pub means : (s : List ℕ) (es : List Entry) (D : ℕ → ℕ) → Ranked D 0 es → Means s es
means s es D R =
    record {
      value_of = value_of s es D R;
      of_value = of_value s es D R;
      field_of = λ p u n v e. field_of s es D R p (u ∷ n) v e;
      of_field = of_field s es D R;
      elements_of_is = elements_of_is s es D R;
      levels_of_is = λ i v d. levels_of_is s es D R i v d (kind v);
      of_levels = λ v is d. of_levels s es D R v is d (kind v);
      size_of_is = λ i v d. size_of_is s es D R v (kind v);
      of_size = λ v n d. of_size s es D R v n d (kind v);
    }
