-- The slots of a level are the names that its entries bear, in order of their first places: a name with its last entry, or all the unnamed entries.
-- Assumes nothing.
use Prim.Native.Nat.{ℕ, suc, ◌+◌, ◌-◌, ◌<◌}
use mathlib.Core.Path.{◌≡◌, refl, sym, ap, ◌∙◌}
use mathlib.Core.Bool.{Bool, true, false, cond, true≢false}
use mathlib.Core.Option.{none, some, some_inj}
use mathlib.Core.List.{List, [], ◌∷◌, ◌++◌, nil≢cons, cons≢nil}
use mathlib.Core.Logic.{◌⊎◌, inl, inr, ⊎_elim}
use native.Mathlib.Nat.{eq-or-lt_of_le}
use native.Mathlib.Omega.{arith}
use lib.Dec.{eqb, ltb}
use lib.ListN.{length, get_elem?}
use borrow.Author.Tests.{eqb-true, eqb-false, ltb-true, ltb-false}
use Rattle.format.proofs.Ground.Answers.{none≢some}
use Rattle.format.proofs.Ground.Tests.{same_true, true_same}
use Rattle.format.proofs.Text.Mended.{name_read, read_name}
use Rattle.format.proofs.Ground.Lists.{all_append, all_map, all_in, just_first, in_left, in_last, rising_rest, rising_above, rising_least, rising_append}
use Rattle.format.specs.Bytes.{same}
use Rattle.format.specs.Values.{Slot, named, unnamed, put_named, put_unnamed, name_of, put, slots_from, slots_of, find}
use Rattle.format.specs.Grammar.Lists.{All, over, more, In, here, behind, Rising, none as no_number, one, Just}
use Rattle.format.specs.Grammar.Values.{Bears}
use Rattle.format.specs.declared.Entry.{Entry}

-- ---- what slots say of the entries that bear names, as B tells

abbrev pub name_in : Slot → List ℕ
name_in (named n l) = n
name_in (unnamed js) = []

pub record First (B : List ℕ → ℕ → Type 0) (n : List ℕ) (j : ℕ) : Type 0 where
  pub bears : B n j
  pub none_earlier : (k : ℕ) → k < j → B n k → ⊥

pub record Latest (B : List ℕ → ℕ → Type 0) (n : List ℕ) (j : ℕ) : Type 0 where
  pub bears : B n j
  pub none_later : (k : ℕ) → j < k → B n k → ⊥

-- the slot of the place j
pub data SlotAt (B : List ℕ → ℕ → Type 0) (j : ℕ) : Slot → Type 0 where
  a_name : {u l : ℕ} {n : List ℕ} → First B (u ∷ n) j → Latest B (u ∷ n) l → SlotAt B j (named (u ∷ n) l)
  no_name : {js : List ℕ} → Just (B []) (j ∷ js) → SlotAt B j (unnamed (j ∷ js))

-- the slots of these places
pub data Slots (B : List ℕ → ℕ → Type 0) : List ℕ → List Slot → Type 0 where
  empty : Slots B [] []
  slot : {j : ℕ} {js : List ℕ} {x : Slot} {r : List Slot} → SlotAt B j x → Slots B js r → Slots B (j ∷ js) (x ∷ r)

-- one of the slots has the name
pub data Holds (n : List ℕ) : List Slot → Type 0 where
  first : {x : Slot} {r : List Slot} → name_in x ≡ n → Holds n (x ∷ r)
  later : {x : Slot} {r : List Slot} → Holds n r → Holds n (x ∷ r)

-- the slots are those of all the names, in order
pub record Kept (B : List ℕ → ℕ → Type 0) (r : List Slot) : Type 0 where
  pub places : List ℕ
  pub rising : Rising places
  pub slots : Slots B places r
  pub every : (n : List ℕ) (j : ℕ) → B n j → Holds n r

pub holds_empty : {n : List ℕ} → Holds n [] → ⊥
holds_empty = elim [ ]

pub holds_rest : {n : List ℕ} {x : Slot} {r : List Slot} → (name_in x ≡ n → ⊥) → Holds n (x ∷ r) → Holds n r
holds_rest f (first e) = absurd (f e)
holds_rest f (later h) = h

pub slot_first : {B : List ℕ → ℕ → Type 0} {j : ℕ} {x : Slot} → SlotAt B j x → First B (name_in x) j
slot_first (a_name f l) = f
slot_first (no_name a) =
    record { bears = just_first a; none_earlier = λ k h b. let z = rising_least a.rising (a.every k b) in omega arith }

pub slots_all : {B : List ℕ → ℕ → Type 0} {P : ℕ → Type 0} {js : List ℕ} {r : List Slot} → ((n : List ℕ) (j : ℕ) → First B n j → P j) → Slots B js r → All P js
slots_all h empty = over
slots_all h (slot {j} {x = x} a t) = more (h (name_in x) j (slot_first a)) (slots_all h t)

-- ---- one more entry, i, of a name of which N tells, if there is one

record Grows (B C : List ℕ → ℕ → Type 0) (N : List ℕ → Type 0) (i : ℕ) : Type 0 where
  old : (n : List ℕ) (j : ℕ) → B n j → C n j
  back : (n : List ℕ) (j : ℕ) → C n j → B n j ⊎ (N n × (j ≡ i))
  above : (n : List ℕ) (j : ℕ) → B n j → j < i

module _ (B C : List ℕ → ℕ → Type 0) (N : List ℕ → Type 0) (i : ℕ) (g : Grows B C N i) where
  first_grows : (n : List ℕ) (j : ℕ) → First B n j → First C n j
  first_grows n j f =
      record {
        bears = g.old n j f.bears;
        none_earlier = λ k h c. ⊎_elim (f.none_earlier k h) (λ (e : N n × (k ≡ i)). let z = g.above n j f.bears in omega (arith, e.1)) (g.back n k c);
      }

  slot_grows : (j : ℕ) (x : Slot) → (N (name_in x) → ⊥) → SlotAt B j x → SlotAt C j x
  slot_grows j x h (a_name {u} {l} {n} f e) =
      a_name (first_grows (u ∷ n) j f)
      (record {
        bears = g.old (u ∷ n) l e.bears;
        none_later = λ k z c. ⊎_elim (e.none_later k z) (λ (e : N (u ∷ n) × (k ≡ i)). h e.0) (g.back (u ∷ n) k c);
      })
  slot_grows j x h (no_name {js} a) =
      no_name
      (record {
        rising = a.rising;
        each = all_map (B []) (C []) (g.old []) (j ∷ js) a.each;
        every = λ k c. ⊎_elim (a.every k) (λ (e : N [] × (k ≡ i)). absurd (h e.0)) (g.back [] k c);
      })

  slots_grow : (js : List ℕ) (r : List Slot) → ((j : ℕ) (n : List ℕ) → In j js → First B n j → N n → ⊥) → Slots B js r → Slots C js r
  slots_grow js r h empty = empty
  slots_grow js r h (slot {j} {js = ks} {x} {r = q} a t) =
      slot (slot_grows j x (h j (name_in x) here (slot_first a)) a) (slots_grow ks q (λ k n z. h k n (behind z)) t)

-- ---- put

data Put (C : List ℕ → ℕ → Type 0) (i : ℕ) (js : List ℕ) (r : List Slot) : Type 0 where
  again : Slots C js r → Put C i js r
  new : Slots C (js ++ i ∷ []) r → Put C i js r

put_behind : {C : List ℕ → ℕ → Type 0} {i j : ℕ} {js : List ℕ} {x : Slot} {r : List Slot} → SlotAt C j x → Put C i js r → Put C i (j ∷ js) (x ∷ r)
put_behind a (again t) = again (slot a t)
put_behind a (new t) = new (slot a t)

module _ (B C : List ℕ → ℕ → Type 0) (n : List ℕ) (i : ℕ) (g : Grows B C (λ m. m ≡ n) i) (c : C n i) where
  -- of a name, i is the last entry; and the first, if there was none
  now_last : Latest C n i
  now_last =
      record {
        bears = c;
        none_later = λ k h d. ⊎_elim (λ b. let z = g.above n k b in omega arith) (λ (e : (n ≡ n) × (k ≡ i)). omega (arith, e.1))
            (g.back n k d);
      }

  now_first : ((k : ℕ) → B n k → Holds n []) → First C n i
  now_first none_yet =
      record { bears = c; none_earlier = λ k h d. ⊎_elim (λ b. holds_empty (none_yet k b)) (λ (e : (n ≡ n) × (k ≡ i)). omega (arith, e.1)) (g.back n k d) }

  -- the slots behind that of the name are of other names
  others_grow : (j : ℕ) (js : List ℕ) (r : List Slot) → B n j → Rising (j ∷ js) → Slots B js r → Slots C js r
  others_grow j js r b up t =
      slots_grow B C (λ m. m ≡ n) i g js r (λ k m x f e. f.none_earlier j (all_in x (rising_above j js up)) (rw (← e) at b)) t

module _ (B C : List ℕ → ℕ → Type 0) (u : ℕ) (m : List ℕ) (i : ℕ) (g : Grows B C (λ n. n ≡ u ∷ m) i) (c : C (u ∷ m) i) where
  named_kept : (js : List ℕ) (r : List Slot) → Rising js → Slots B js r → ((k : ℕ) → B (u ∷ m) k → Holds (u ∷ m) r) → Put C i js (put_named (u ∷ m) i r)
  unfolding put_named
  named_kept js r up empty h = new (slot (a_name (now_first B C (u ∷ m) i g c h) (now_last B C (u ∷ m) i g c)) empty)
  named_kept js r up (slot {j} {js = ks} {r = q} (a_name {u = v} {l = l} {n = n} f e) t) h = go (same (u ∷ m) (v ∷ n)) refl (named_kept ks q (rising_rest up) t)
    where
      other : same (u ∷ m) (v ∷ n) ≡ false → v ∷ n ≡ u ∷ m → ⊥
      other z e = true≢false (sym (true_same (u ∷ m) (v ∷ n) (sym e)) ∙ z)

      go : (b : Bool) → same (u ∷ m) (v ∷ n) ≡ b → (((k : ℕ) → B (u ∷ m) k → Holds (u ∷ m) q) → Put C i ks (put_named (u ∷ m) i q))
          → Put C i (j ∷ ks) (cond b (named (v ∷ n) i ∷ q) (named (v ∷ n) l ∷ put_named (u ∷ m) i q))
      go true z rest =
          let w = same_true (u ∷ m) (v ∷ n) z in
          again
          (slot (a_name (first_grows B C (λ n. n ≡ u ∷ m) i g (v ∷ n) j f) (rw w at (now_last B C (u ∷ m) i g c)))
          (others_grow B C (u ∷ m) i g c j ks q (rw (← w) at f.bears) up t))
      go false z rest =
          put_behind (slot_grows B C (λ n. n ≡ u ∷ m) i g j (named (v ∷ n) l) (other z) (a_name f e))
          (rest λ k b. holds_rest (other z) (h k b))
  named_kept js r up (slot {j} {js = ks} {r = q} (no_name {js = is} a) t) h =
      put_behind (slot_grows B C (λ n. n ≡ u ∷ m) i g j (unnamed (j ∷ is)) nil≢cons (no_name a))
      (named_kept ks q (rising_rest up) t λ k b. holds_rest nil≢cons (h k b))

module _ (B C : List ℕ → ℕ → Type 0) (i : ℕ) (g : Grows B C (λ n. n ≡ []) i) (c : C [] i) where
  unnamed_kept : (js : List ℕ) (r : List Slot) → Rising js → Slots B js r → ((k : ℕ) → B [] k → Holds [] r) → Put C i js (put_unnamed i r)
  unfolding put_unnamed
  unnamed_kept js r up empty h = new (slot (no_name alone) empty)
    where
      alone : Just (C []) (i ∷ [])
      alone =
          record {
            rising = one;
            each = more c over;
            every = λ k d. ⊎_elim (λ b. absurd (holds_empty (h k b))) (λ (e : ([] ≡ []) × (k ≡ i)). rw e.1 here) (g.back [] k d);
          }
  unnamed_kept js r up (slot {j} {js = ks} {r = q} (a_name {u = v} {l = l} {n = n} f e) t) h =
      put_behind (slot_grows B C (λ n. n ≡ []) i g j (named (v ∷ n) l) cons≢nil (a_name f e))
      (unnamed_kept ks q (rising_rest up) t λ k b. holds_rest cons≢nil (h k b))
  unnamed_kept js r up (slot {j} {js = ks} {r = q} (no_name {js = is} a) t) h =
      again (slot (no_name longer) (others_grow B C [] i g c j ks q (just_first a) up t))
    where
      longer : Just (C []) (j ∷ is ++ i ∷ [])
      longer =
          record {
            rising = rising_append i (j ∷ is) a.rising (all_map (B []) (λ k. k < i) (g.above []) (j ∷ is) a.each);
            each = all_append (C []) (j ∷ is) (i ∷ []) (all_map (B []) (C []) (g.old []) (j ∷ is) a.each) (more c over);
            every = λ k d. ⊎_elim (λ b. in_left (i ∷ []) (a.every k b)) (λ (e : ([] ≡ []) × (k ≡ i)). rw e.1 (in_last i (j ∷ is))) (g.back [] k d);
          }

put_slots : (B C : List ℕ → ℕ → Type 0) (n : List ℕ) (i : ℕ) → Grows B C (λ m. m ≡ n) i → C n i → (js : List ℕ) (r : List Slot) → Rising js → Slots B js r
    → ((k : ℕ) → B n k → Holds n r) → Put C i js (put n i r)
unfolding put
put_slots B C [] i g c = unnamed_kept B C i g c
put_slots B C (u ∷ m) i g c = named_kept B C u m i g c

-- ---- put keeps the names, and adds one

holds_found : {n m : List ℕ} {x y : Slot} {r : List Slot} → name_in x ≡ n → name_in y ≡ name_in x → (m ≡ n) ⊎ Holds m (x ∷ r) → Holds m (y ∷ r)
holds_found e f (inl h) = first (f ∙ (e ∙ sym h))
holds_found e f (inr (first h)) = first (f ∙ h)
holds_found e f (inr (later h)) = later h

holds_behind : {n m : List ℕ} {x : Slot} {r t : List Slot} → ((m ≡ n) ⊎ Holds m r → Holds m t) → (m ≡ n) ⊎ Holds m (x ∷ r) → Holds m (x ∷ t)
holds_behind f (inl h) = later (f (inl h))
holds_behind f (inr (first h)) = first h
holds_behind f (inr (later h)) = later (f (inr h))

named_holds : (n m : List ℕ) (i : ℕ) (r : List Slot) → (m ≡ n) ⊎ Holds m r → Holds m (put_named n i r)
unfolding put_named
named_holds n m i [] h = ⊎_elim (λ e. first (sym e)) (λ x. absurd (holds_empty x)) h
named_holds n m i (named k l ∷ r) h = go (same n k) refl (named_holds n m i r)
  where
    go : (b : Bool) → same n k ≡ b → ((m ≡ n) ⊎ Holds m r → Holds m (put_named n i r)) → Holds m (cond b (named k i ∷ r) (named k l ∷ put_named n i r))
    go true e rest = holds_found (sym (same_true n k e)) refl h
    go false e rest = holds_behind rest h
named_holds n m i (unnamed js ∷ r) h = holds_behind (named_holds n m i r) h

unnamed_holds : (m : List ℕ) (i : ℕ) (r : List Slot) → (m ≡ []) ⊎ Holds m r → Holds m (put_unnamed i r)
unfolding put_unnamed
unnamed_holds m i [] h = ⊎_elim (λ e. first (sym e)) (λ x. absurd (holds_empty x)) h
unnamed_holds m i (named k l ∷ r) h = holds_behind (unnamed_holds m i r) h
unnamed_holds m i (unnamed js ∷ r) h = holds_found refl refl h

put_holds : (n m : List ℕ) (i : ℕ) (r : List Slot) → (m ≡ n) ⊎ Holds m r → Holds m (put n i r)
unfolding put
put_holds [] m i r h = unnamed_holds m i r h
put_holds (u ∷ n) m i r h = named_holds (u ∷ n) m i r h

-- ---- one entry more, of the level or of another

module _ (B C : List ℕ → ℕ → Type 0) where
  put_kept : (n : List ℕ) (i : ℕ) (r : List Slot) → Grows B C (λ m. m ≡ n) i → C n i → Kept B r → Kept C (put n i r)
  put_kept n i r g c k = go (put_slots B C n i g c k.places r k.rising k.slots (k.every n))
    where
      every : (m : List ℕ) (j : ℕ) → C m j → Holds m (put n i r)
      every m j d = ⊎_elim (λ b. put_holds n m i r (inr (k.every m j b))) (λ (e : (m ≡ n) × (j ≡ i)). put_holds n m i r (inl e.0)) (g.back m j d)

      go : Put C i k.places (put n i r) → Kept C (put n i r)
      go (again t) = record { places = k.places; rising = k.rising; slots = t; every = every }
      go (new t) =
          record {
            places = k.places ++ i ∷ [];
            rising = rising_append i k.places k.rising (slots_all (λ m j f. g.above m j f.bears) k.slots);
            slots = t;
            every = every;
          }

  same_kept : (i : ℕ) (r : List Slot) → Grows B C (λ m. ⊥) i → Kept B r → Kept C r
  same_kept i r g k =
      record {
        places = k.places;
        rising = k.rising;
        slots = slots_grow B C (λ m. ⊥) i g k.places r (λ j n x f e. e) k.slots;
        every = λ n j c. ⊎_elim (k.every n j) (λ (e : ⊥ × (j ≡ i)). absurd e.0) (g.back n j c);
      }

-- ---- what is found in the slots

module _ (B : List ℕ → ℕ → Type 0) where
  pub first_unique : {n : List ℕ} {j k : ℕ} → First B n j → First B n k → j ≡ k
  first_unique {n} {j} {k} f g =
      let a : j < k → ⊥ = λ h. g.none_earlier j h f.bears in
      let b : k < j → ⊥ = λ h. f.none_earlier k h g.bears in
      omega arith

  pub latest_unique : {n : List ℕ} {j k : ℕ} → Latest B n j → Latest B n k → j ≡ k
  latest_unique {n} {j} {k} f g =
      let a : j < k → ⊥ = λ h. f.none_later k h g.bears in
      let b : k < j → ⊥ = λ h. g.none_later j h f.bears in
      omega arith

  -- the slot of a name stands at the name's place
  pub holds_place : {n : List ℕ} {js : List ℕ} {r : List Slot} → Slots B js r → Holds n r → (j : ℕ) × In j js × First B n j
  holds_place empty h = elim h [ ]
  holds_place (slot {j} {x = x} a t) (first e) = (j, here, rw e at (slot_first a))
  holds_place (slot a t) (later h) = let (j, x, f) = holds_place t h in (j, behind x, f)

  pub slots_length : {js : List ℕ} {r : List Slot} → Slots B js r → length js ≡ length r
  slots_length empty = refl
  slots_length (slot a t) = ap suc (slots_length t)

  -- what is found of a name is its last entry
  pub find_latest : (n : List ℕ) (l : ℕ) {js : List ℕ} {r : List Slot} → Slots B js r → find n r ≡ some l → Latest B n l
  unfolding find
  find_latest n l empty e = absurd (none≢some e)
  find_latest n l (slot {r = r} (a_name {u = v} {l = k} {n = m} f a) t) e = go (same n (v ∷ m)) refl e (find_latest n l t)
    where
      go : (b : Bool) → same n (v ∷ m) ≡ b → cond b (some k) (find n r) ≡ some l → (find n r ≡ some l → Latest B n l) → Latest B n l
      go true q e rest = let z : k ≡ l = some_inj.0 e in let w = same_true n (v ∷ m) q in rw (z, ← w) at a
      go false q e rest = rest e
  find_latest n l (slot (no_name a) t) e = find_latest n l t e

pub find_holds : (u : ℕ) (n : List ℕ) (r : List Slot) → Holds (u ∷ n) r → (l : ℕ) × (find (u ∷ n) r ≡ some l)
unfolding find
find_holds u n [] h = absurd (holds_empty h)
find_holds u n (named m l ∷ r) h = go (same (u ∷ n) m) refl (find_holds u n r)
  where
    go : (b : Bool) → same (u ∷ n) m ≡ b → (Holds (u ∷ n) r → (k : ℕ) × (find (u ∷ n) r ≡ some k)) → (k : ℕ) × (cond b (some l) (find (u ∷ n) r) ≡ some k)
    go true q rest = (l, refl)
    go false q rest = rest (holds_rest (λ (e : m ≡ u ∷ n). true≢false (sym (true_same (u ∷ n) m (sym e)) ∙ q)) h)
find_holds u n (unnamed js ∷ r) h = find_holds u n r (holds_rest nil≢cons h)

-- ---- the slots of a level

module _ (s : List ℕ) (es : List Entry) (p : ℕ) where
  -- an entry before i that bears the name
  record Seen (i : ℕ) (n : List ℕ) (j : ℕ) : Type 0 where
    before : j < i
    bears : Bears s es p n j

  all_seen : (i : ℕ) → ((x : ℕ) → get_elem? es (i + x) ≡ none) → Grows (Seen i) (Bears s es p) (λ n. ⊥) i
  all_seen i past = record { old = λ n j b. b.bears; back = λ n j b. inl (record { before = go n j b (ltb j i) refl; bears = b }); above = λ n j b. b.before }
    where
      go : (n : List ℕ) (j : ℕ) → Bears s es p n j → (b : Bool) → ltb j i ≡ b → j < i
      go n j b true q = ltb-true j i q
      go n j b false q =
          let h = ltb-false j i q in
          let z : i + (j - i) ≡ j = omega arith in
          absurd (none≢some (sym (rw z at (past (j - i))) ∙ b.there))

  more_seen : (N : List ℕ → Type 0) (i : ℕ) (e : Entry) → get_elem? es i ≡ some e → (e.parent ≡ p → N (name_of s e)) → Grows (Seen i) (Seen (suc i)) N i
  more_seen N i e at_i named-so =
      record { old = λ n j b. record { before = omega (arith, b.before); bears = b.bears }; back = back; above = λ n j b. b.before }
    where
      back : (n : List ℕ) (j : ℕ) → Seen (suc i) n j → Seen i n j ⊎ (N n × (j ≡ i))
      back n j b = ⊎_elim own (λ h. inl (record { before = h; bears = b.bears })) (eq-or-lt_of_le {n = j} {m = i} (omega (arith, b.before)))
        where
          own : j ≡ i → Seen i n j ⊎ (N n × (j ≡ i))
          own q =
              let z : b.bears.entry ≡ e = some_inj.0 (sym b.bears.there ∙ rw q at_i) in
              inr (rw (read_name s b.bears.entry n b.bears.name_is) at (rw (← z) at (named-so (rw z at b.bears.child))), q)

  slots_from_is : (i : ℕ) (fs : List Entry) (r : List Slot) → ((x : ℕ) → get_elem? es (i + x) ≡ get_elem? fs x) → Kept (Seen i) r
      → Kept (Bears s es p) (slots_from s p i fs r)
  unfolding slots_from
  slots_from_is i [] r same k = same_kept (Seen i) (Bears s es p) i r (all_seen i same) k
  slots_from_is i (e ∷ fs) r same k =
      slots_from_is (suc i) fs (cond (eqb e.parent p) (put (name_of s e) i r) r)
      (λ x. let z : i + suc x ≡ suc i + x = omega arith in rw z at (same (suc x))) (go (eqb e.parent p) refl)
    where
      at_i : get_elem? es i ≡ some e
      at_i = let z : i + 0 ≡ i = omega arith in rw z at (same 0)

      go : (b : Bool) → eqb e.parent p ≡ b → Kept (Seen (suc i)) (cond b (put (name_of s e) i r) r)
      go true q =
          put_kept (Seen i) (Seen (suc i)) (name_of s e) i r (more_seen (λ n. n ≡ name_of s e) i e at_i (λ _. refl))
          (record { before = omega arith; bears = record { entry = e; there = at_i; child = eqb-true _ _ q; name_is = name_read s e } }) k
      go false q = same_kept (Seen i) (Seen (suc i)) i r (more_seen (λ n. ⊥) i e at_i (λ z. eqb-false e.parent p q z)) k

  pub slots_of_is : Kept (Bears s es p) (slots_of s es p)
  unfolding slots_of
  slots_of_is =
      slots_from_is 0 es [] (λ x. let k : 0 + x ≡ x = omega arith in rw k refl)
      (record { places = []; rising = no_number; slots = empty; every = λ n j b. absurd (omega (arith, b.before)) })
