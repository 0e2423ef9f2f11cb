-- Laws of a level's places: its slots are those of the first children of each name, in order. Assumes nothing.
use Prim.Native.Nat.{ℕ, zero, suc, ◌+◌, ◌≤◌, ◌<◌}
use mathlib.Core.Path.{◌≡◌, refl, sym, ap, ◌∙◌, subst}
use mathlib.Core.Bool.{Bool, true, false, not, ◌&&◌, ◌||◌, cond}
use mathlib.Core.Option.{Option, some}
use mathlib.Core.List.{List, [], ◌∷◌, ◌++◌, append-nil}
use native.Mathlib.Omega.{arith}
use lib.Dec.{eqb}
use lib.ListN.{length}
use borrow.Author.Tests.{eq-eqb, ne_eqb}
use Rattle.format.proofs.Ground.Bytes.{same_sym}
use Rattle.format.proofs.Ground.Tests.{or_left, or_right, same_true, same_refl}
use Rattle.format.specs.Bytes.{same}
use Rattle.format.specs.Values.{Slot, named, unnamed, put_named, put_unnamed, put, name_of, slots_of, find}
use Rattle.format.specs.declared.Entry.{Entry}
use Rattle.lookup.specs.Table.{firsts, Ordered, Run, last_named, is_none}
use Rattle.lookup.specs.Values.{unnamed_in}
use Rattle.lookup.specs.Walks.{leads, leads_in, slot_for, slot_at, slots_at}
use Rattle.lookup.proofs.Between.{between_here, between_skip, between_none, between_hop, between_last, between_zero}
use Rattle.lookup.proofs.Rows.{slots_start, slots_more, child_after, hop}

-- ---- Bool

or_swap : (a b c : Bool) → (a || (b || c)) ≡ (b || (a || c))
or_swap true true c = refl
or_swap true false c = refl
or_swap false b c = refl

or_twice : (a c : Bool) → (a || c) ≡ (a || (a || c))
or_twice true c = refl
or_twice false c = refl

-- ---- well-formed slots

-- a slot's name, empty for the unnamed one
abbrev key : Slot → List ℕ
key (named n i) = n
key (unnamed is) = []

-- whether a slot bears the name
taken : List ℕ → List Slot → Bool
taken n [] = false
taken n (x ∷ r) = same n (key x) || taken n r

-- a named slot has a name
abbrev Proper : Slot → Type 0
Proper (named [] i) = ⊥
Proper (named (a ∷ n) i) = Unit
Proper (unnamed is) = Unit

-- names are proper, and no two slots have one
abbrev Good : List Slot → Type 0
Good [] = Unit
Good (x ∷ r) = Proper x × (taken (key x) r ≡ false) × Good r

-- ---- what is taken after one more

taken_named : (x n : List ℕ) (i : ℕ) (r : List Slot) → taken x (put_named n i r) ≡ (same x n || taken x r)
unfolding taken put_named
taken_named x n i [] = refl
taken_named x n i (unnamed js ∷ r) = rw (taken_named x n i r) (or_swap (same x []) (same x n) (taken x r))
taken_named x n i (named m j ∷ r) = go (taken_named x n i r) (same n m) refl
  where
    go : taken x (put_named n i r) ≡ (same x n || taken x r) → (b : Bool) → same n m ≡ b
        → taken x (cond b (named m i ∷ r) (named m j ∷ put_named n i r)) ≡ (same x n || (same x m || taken x r))
    go ih true h = rw (same_true n m h) (or_twice (same x m) (taken x r))
    go ih false h = rw ih (or_swap (same x m) (same x n) (taken x r))

taken_unnamed : (x : List ℕ) (i : ℕ) (r : List Slot) → taken x (put_unnamed i r) ≡ (same x [] || taken x r)
unfolding taken put_unnamed
taken_unnamed x i [] = refl
taken_unnamed x i (named m j ∷ r) = rw (taken_unnamed x i r) (or_swap (same x m) (same x []) (taken x r))
taken_unnamed x i (unnamed js ∷ r) = or_twice (same x []) (taken x r)

taken_put : (x m : List ℕ) (i : ℕ) (r : List Slot) → taken x (put m i r) ≡ (same x m || taken x r)
unfolding put
taken_put x [] i r = taken_unnamed x i r
taken_put x (a ∷ m) i r = taken_named x (a ∷ m) i r

-- ---- one more keeps slots well formed

proper_any : (m : List ℕ) (i j : ℕ) → Proper (named m i) → Proper (named m j)
proper_any [] i j h = h
proper_any (a ∷ m) i j h = tt

good_named : (a : ℕ) (n : List ℕ) (i : ℕ) (r : List Slot) → Good r → Good (put_named (a ∷ n) i r)
unfolding put_named taken same
good_named a n i [] g = (tt, refl, tt)
good_named a n i (unnamed js ∷ r) g = (tt, taken_named [] (a ∷ n) i r ∙ g.1, good_named a n i r g.2)
good_named a n i (named m j ∷ r) g = go (good_named a n i r g.2) (same (a ∷ n) m) refl
  where
    go : Good (put_named (a ∷ n) i r) → (b : Bool) → same (a ∷ n) m ≡ b → Good (cond b (named m i ∷ r) (named m j ∷ put_named (a ∷ n) i r))
    go ih true h = (proper_any m j i g.0, g.1, g.2)
    go ih false h = (g.0, taken_named m (a ∷ n) i r ∙ rw (same_sym m (a ∷ n), h) g.1, ih)

good_unnamed : (i : ℕ) (r : List Slot) → Good r → Good (put_unnamed i r)
unfolding put_unnamed taken same
good_unnamed i [] g = (tt, refl, tt)
good_unnamed i (named [] j ∷ r) g = absurd g.0
good_unnamed i (named (a ∷ m) j ∷ r) g = (tt, taken_unnamed (a ∷ m) i r ∙ g.1, good_unnamed i r g.2)
good_unnamed i (unnamed js ∷ r) g = g

good_put : (m : List ℕ) (i : ℕ) (r : List Slot) → Good r → Good (put m i r)
unfolding put
good_put [] i r g = good_unnamed i r g
good_put (a ∷ m) i r g = good_named a m i r g

good_slots : (s : List ℕ) (e : ℕ → Entry) (p n : ℕ) → Good (slots_of s (firsts n e) p)
good_slots s e p zero = subst Good (sym (slots_start s p e)) tt
good_slots s e p (suc n) = subst Good (sym (slots_more s p n e)) (go (eqb (e n).parent p) (good_slots s e p n))
  where
    go : (b : Bool) → Good (slots_of s (firsts n e) p) → Good (cond b (put (name_of s (e n)) n (slots_of s (firsts n e) p)) (slots_of s (firsts n e) p))
    go true g = good_put (name_of s (e n)) n _ g
    go false g = g

-- ---- the names in order

abbrev keys : List Slot → List (List ℕ)
keys [] = []
keys (x ∷ r) = key x ∷ keys r

cons_cond : (b : Bool) (k : List ℕ) (l m : List (List ℕ)) → (k ∷ cond b l (l ++ m)) ≡ cond b (k ∷ l) ((k ∷ l) ++ m)
cons_cond true k l m = refl
cons_cond false k l m = refl

keys_named : (a : ℕ) (n : List ℕ) (i : ℕ) (r : List Slot)
    → keys (put_named (a ∷ n) i r) ≡ cond (taken (a ∷ n) r) (keys r) (keys r ++ (a ∷ n) ∷ [])
unfolding put_named taken same
keys_named a n i [] = refl
keys_named a n i (unnamed js ∷ r) = rw (keys_named a n i r) (cons_cond (taken (a ∷ n) r) [] (keys r) _)
keys_named a n i (named m j ∷ r) = go (keys_named a n i r) (same (a ∷ n) m)
  where
    go : keys (put_named (a ∷ n) i r) ≡ cond (taken (a ∷ n) r) (keys r) (keys r ++ (a ∷ n) ∷ []) → (b : Bool)
        → keys (cond b (named m i ∷ r) (named m j ∷ put_named (a ∷ n) i r)) ≡ cond (b || taken (a ∷ n) r) (m ∷ keys r) ((m ∷ keys r) ++ (a ∷ n) ∷ [])
    go ih true = refl
    go ih false = rw ih (cons_cond (taken (a ∷ n) r) m (keys r) ((a ∷ n) ∷ []))

keys_unnamed : (i : ℕ) (r : List Slot) → Good r → keys (put_unnamed i r) ≡ cond (taken [] r) (keys r) (keys r ++ [] ∷ [])
unfolding put_unnamed taken same
keys_unnamed i [] g = refl
keys_unnamed i (named [] j ∷ r) g = absurd g.0
keys_unnamed i (named (a ∷ m) j ∷ r) g = rw (keys_unnamed i r g.2) (cons_cond (taken [] r) (a ∷ m) (keys r) ([] ∷ []))
keys_unnamed i (unnamed js ∷ r) g = refl

keys_put : (m : List ℕ) (i : ℕ) (r : List Slot) → Good r → keys (put m i r) ≡ cond (taken m r) (keys r) (keys r ++ m ∷ [])
unfolding put
keys_put [] i r g = keys_unnamed i r g
keys_put (a ∷ m) i r g = keys_named a m i r

-- ---- the places' names

abbrev names_of : List ℕ → (ℕ → Entry) → List ℕ → List (List ℕ)
names_of s e [] = []
names_of s e (j ∷ js) = name_of s (e j) ∷ names_of s e js

names_append : (s : List ℕ) (e : ℕ → Entry) (xs ys : List ℕ) → names_of s e (xs ++ ys) ≡ names_of s e xs ++ names_of s e ys
names_append s e [] ys = refl
names_append s e (x ∷ xs) ys = ap (λ (l : List (List ℕ)). name_of s (e x) ∷ l) (names_append s e xs ys)

-- the name is taken where a child before has it
taken_last : (s : List ℕ) (e : ℕ → Entry) (p : ℕ) (m : List ℕ) (k : ℕ) → is_none (last_named s e p m k) ≡ not (taken m (slots_of s (firsts k e) p))
unfolding last_named taken
taken_last s e p m zero = sym (ap (λ (r : List Slot). not (taken m r)) (slots_start s p e))
taken_last s e p m (suc k) = go (eqb (e k).parent p) (taken_last s e p m k) ∙ sym (ap (λ (r : List Slot). not (taken m r)) (slots_more s p k e))
  where
    r : List Slot
    r = slots_of s (firsts k e) p

    one : (b : Bool) (o : Option ℕ) (t : Bool) → is_none o ≡ not t → is_none (cond b (some k) o) ≡ not (b || t)
    one true o t h = refl
    one false o t h = h

    go : (b : Bool) → is_none (last_named s e p m k) ≡ not (taken m r)
        → is_none (cond (b && same m (name_of s (e k))) (some k) (last_named s e p m k)) ≡ not (taken m (cond b (put (name_of s (e k)) k r) r))
    go true h = one (same m (name_of s (e k))) _ _ h ∙ ap not (sym (taken_put m (name_of s (e k)) k r))
    go false h = h

keys_leads : (s : List ℕ) (e : ℕ → Entry) (p n : ℕ) → keys (slots_of s (firsts n e) p) ≡ names_of s e (leads_in s e p 0 n)
unfolding leads_in leads
keys_leads s e p zero = ap keys (slots_start s p e) ∙ ap (names_of s e) (sym (between_zero _))
keys_leads s e p (suc n) =
    ap keys (slots_more s p n e) ∙ go (eqb (e n).parent p)
    ∙ ap (λ (l : List (List ℕ)). l ++ names_of s e (cond (leads s e p n) (n ∷ []) [])) (keys_leads s e p n)
    ∙ sym (names_append s e (leads_in s e p 0 n) (cond (leads s e p n) (n ∷ []) [])) ∙ ap (names_of s e) (sym (between_last (leads s e p) n))
  where
    r : List Slot
    r = slots_of s (firsts n e) p

    pick : (b : Bool) → cond b (keys r) (keys r ++ name_of s (e n) ∷ []) ≡ keys r ++ names_of s e (cond (not b) (n ∷ []) [])
    pick true = sym (append-nil (keys r))
    pick false = refl

    go : (b : Bool)
        → keys (cond b (put (name_of s (e n)) n r) r) ≡ keys r ++ names_of s e (cond (b && is_none (last_named s e p (name_of s (e n)) n)) (n ∷ []) [])
    go true = keys_put (name_of s (e n)) n r (good_slots s e p n) ∙ pick (taken (name_of s (e n)) r) ∙ rw taken_last
    go false = sym (append-nil (keys r))

-- ---- slots by their names

abbrev slots_for : List Slot → List (List ℕ) → List Slot
slots_for q [] = []
slots_for q (m ∷ ms) = slot_for q m ∷ slots_for q ms

slot_skip : (x : Slot) (q : List Slot) (m : List ℕ) → same (key x) m ≡ false → slot_for (x ∷ q) m ≡ slot_for q m
unfolding slot_for unnamed_in find same
slot_skip (named n i) q [] h = refl
slot_skip (named n i) q (b ∷ m) h = rw (same_sym (b ∷ m) n, h)
slot_skip (unnamed is) q [] h = cc
slot_skip (unnamed is) q (b ∷ m) h = refl

slots_skip : (x : Slot) (q r : List Slot) → taken (key x) r ≡ false → slots_for (x ∷ q) (keys r) ≡ slots_for q (keys r)
unfolding taken
slots_skip x q [] h = refl
slots_skip x q (y ∷ r) h =
    let a = slot_skip x q (key y) (or_left (same (key x) (key y)) (taken (key x) r) h) in
    let b = slots_skip x q r (or_right (same (key x) (key y)) (taken (key x) r) h) in
    cc

slot_own : (x : Slot) (r : List Slot) → Proper x → slot_for (x ∷ r) (key x) ≡ x
unfolding slot_for unnamed_in find
slot_own (named [] i) r h = absurd h
slot_own (named (a ∷ n) i) r h = rw (same_refl (a ∷ n))
slot_own (unnamed is) r h = refl

slots_own : (r : List Slot) → Good r → r ≡ slots_for r (keys r)
slots_own [] g = refl
slots_own (x ∷ r) g =
    let a = slot_own x r g.0 in
    let b = slots_skip x r r g.1 in
    let d = slots_own r g.2 in
    cc

-- a level's slots are those of its places, in order
slots_places : (s : List ℕ) (e : ℕ → Entry) (p n : ℕ)
    → slots_of s (firsts n e) p ≡ slots_for (slots_of s (firsts n e) p) (names_of s e (leads_in s e p 0 n))
slots_places s e p n = slots_own _ (good_slots s e p n) ∙ rw keys_leads

length_slots_for : (s : List ℕ) (e : ℕ → Entry) (q : List Slot) (l : List ℕ) → length (slots_for q (names_of s e l)) ≡ length l
length_slots_for s e q [] = refl
length_slots_for s e q (j ∷ js) = ap suc (length_slots_for s e q js)

pub length_places : (s : List ℕ) (e : ℕ → Entry) (p n : ℕ) → length (slots_of s (firsts n e) p) ≡ length (leads_in s e p 0 n)
length_places s e p n = ap length (slots_places s e p n) ∙ length_slots_for s e _ (leads_in s e p 0 n)

-- ---- places, one entry at a time

module _ (s : List ℕ) (e : ℕ → Entry) (p : ℕ) where
  pub leads_here : (i n : ℕ) → i < n → leads s e p i ≡ true → leads_in s e p i n ≡ i ∷ leads_in s e p (i + 1) n
  unfolding leads_in
  leads_here i n l h = between_here (leads s e p) i n l h

  pub leads_skip : (i n : ℕ) → i < n → leads s e p i ≡ false → leads_in s e p i n ≡ leads_in s e p (i + 1) n
  unfolding leads_in
  leads_skip i n l h = between_skip (leads s e p) i n l h

  leads_other : (i : ℕ) → ((e i).parent ≡ p → ⊥) → leads s e p i ≡ false
  unfolding leads
  leads_other i h = rw (ne_eqb _ _ h)

  -- none before the level's first entry, and none past its run
  pub leads_low : (n : ℕ) → Ordered e n → p ≤ n → leads_in s e p 0 n ≡ leads_in s e p p n
  unfolding leads_in
  leads_low n o l = between_hop (leads s e p) 0 p n (omega arith) l (λ i a k. leads_other i (child_after e n p o i (omega arith) k))

  pub leads_past : (n r i : ℕ) → Run e n p r → r ≤ i → leads_in s e p i n ≡ []
  unfolding leads_in
  leads_past n r i q l = between_none (leads s e p) i n (λ k a b. leads_other k (q.over k (omega arith) b))

  -- none below an entry from p on
  pub leads_hop : (n i j : ℕ) → p ≤ i → Run e n (i + 1) j → leads_in s e p (i + 1) n ≡ leads_in s e p j n
  unfolding leads_in
  leads_hop n i j l r = between_hop (leads s e p) (i + 1) j n r.below.low r.below.high (λ k a b. leads_other k (hop e n p i j l r k a b))

  -- as the code has it: r is entry i
  module _ (i : ℕ) (r : Entry) (q : r ≡ e i) where
    pub place_first : (b : Bool) → r.parent ≡ p → b ≡ is_none (last_named s e p (name_of s r) i) → b ≡ leads s e p i
    unfolding leads
    place_first b t k = k ∙ sym (rw (← q, eq-eqb _ _ t))

    pub place_other : (r.parent ≡ p → ⊥) → false ≡ leads s e p i
    place_other h = sym (leads_other i (λ z. h (ap (λ (x : Entry). x.parent) q ∙ z)))

-- ---- counting places

-- of the places k stand before entry i
pub record Placed (s : List ℕ) (e : ℕ → Entry) (n p i k : ℕ) : Type 0 where
  pub few : k ≤ i
  pub rest : k + length (leads_in s e p i n) ≡ length (slots_of s (firsts n e) p)

module _ (s : List ℕ) (e : ℕ → Entry) (n p : ℕ) where
  pub placed_start : Ordered e n → p ≤ n → Placed s e n p p 0
  placed_start o l = record { few = omega arith; rest = omega (arith, ap length (leads_low s e p n o l), length_places s e p n) }

  pub placed_here : (i k : ℕ) → Placed s e n p i k → i < n → leads s e p i ≡ true → Placed s e n p (i + 1) (k + 1)
  placed_here i k h l b = record { few = omega (arith, h.few); rest = omega (arith, h.rest, ap length (leads_here s e p i n l b)) }

  pub placed_skip : (i k : ℕ) → Placed s e n p i k → i < n → leads s e p i ≡ false → Placed s e n p (i + 1) k
  placed_skip i k h l b = record { few = omega (arith, h.few); rest = omega (arith, h.rest, ap length (leads_skip s e p i n l b)) }

  pub placed_hop : (i j k : ℕ) → p ≤ i → Run e n (i + 1) j → Placed s e n p (i + 1) k → Placed s e n p j k
  placed_hop i j k l r h = record { few = omega (arith, h.few, r.below.low); rest = omega (arith, h.rest, ap length (leads_hop s e p n i j l r)) }

  pub placed_end : (r i k : ℕ) → Placed s e n p i k → Run e n p r → r ≤ i → k ≡ length (slots_of s (firsts n e) p)
  placed_end r i k h q l = omega (arith, h.rest, ap length (leads_past s e p n r i q l))

-- ---- the slots of the places

pub slots_at_is : (s : List ℕ) (e : ℕ → Entry) (n p : ℕ) → slots_of s (firsts n e) p ≡ slots_at s e n p (leads_in s e p 0 n)
slots_at_is s e n p = slots_places s e p n ∙ go (leads_in s e p 0 n)
  where
    go : (l : List ℕ) → slots_for (slots_of s (firsts n e) p) (names_of s e l) ≡ slots_at s e n p l
    go [] = refl
    go (j ∷ js) = ap (λ (l : List Slot). slot_at s e n p j ∷ l) (go js)
