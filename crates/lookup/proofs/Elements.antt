-- Laws of a list's elements, and of going from one to the next. Assumes nothing.
use Prim.Native.Nat.{ℕ, zero, suc, ◌+◌, ◌*◌, ◌-◌, ◌≤◌, ◌<◌}
use mathlib.Core.Path.{◌≡◌, refl, sym, ap, ◌∙◌, subst}
use mathlib.Core.Bool.{Bool, true, false, ◌&&◌, cond}
use mathlib.Core.Option.{Option, none, some}
use mathlib.Core.List.{List, [], ◌∷◌, ◌++◌, append_assoc, append-nil}
use native.Mathlib.Omega.{arith}
use native.Mathlib.Nat.{add-mul, one-mul}
use native.Mathlib.Numerals.{add-one, sub-one}
use lib.ListN.{length, get_elem?, take, drop, length-append}
use lib.Dec.{eqb}
use borrow.Author.Tests.{eq-eqb, ne_eqb, eqb-true, eqb-false}
use Rattle.format.proofs.Ground.Tests.{and_right}
use Rattle.format.proofs.Values.LevelOrLeaf.{leaf_by}
use Rattle.format.proofs.Values.OneMoreEntry.{step, put_some}
use Rattle.format.specs.Bytes.{same}
use Rattle.format.specs.Values.{Value, level, list, Slot, named, unnamed, put_named, put_unnamed, put, name_of, slots_of, collapse, elements, spread}
use Rattle.format.specs.Values.{value_from, value_if, leaf}
use Rattle.format.specs.declared.Entry.{Entry}
use Rattle.lookup.specs.Table.{firsts, Ordered, Run, found}
use Rattle.lookup.specs.Values.{only_unnamed, unnamed_in, elements_from, elements_of, Element, unnamed_child, kids, head_of, list_at}
use Rattle.std.specs.Prelude as std
use Rattle.lookup.proofs.Rows.{slots_more, slots_start, get_elem_firsts, child_after, hop}
use Rattle.lookup.proofs.Between.{nil_not, Picked, between_here, between_skip, between_end, between_none, between_hop, between_last}
use Rattle.lookup.proofs.Between.{between_zero, between_short, between_split}
use Rattle.lookup.proofs.Search.{is_at, is_nothing}
use Rattle.lookup.proofs.Lists.{no_name, some_name, unnamed_more, collapse_is}

-- ---- unnamed children

child_yes : (p : ℕ) (e : Entry) → e.parent ≡ p → e.units ≡ 0 → unnamed_child p e ≡ true
child_yes p e h z = rw (eq-eqb _ _ h, eq-eqb _ _ z)

child_other : (p : ℕ) (e : Entry) → (e.parent ≡ p → ⊥) → unnamed_child p e ≡ false
child_other p e h = rw (ne_eqb _ _ h)

child_named_is : (p : ℕ) (e : Entry) → (e.units ≡ 0 → ⊥) → unnamed_child p e ≡ false
child_named_is p e h = rw (ne_eqb _ _ h) (go (eqb e.parent p))
  where
    go : (b : Bool) → (b && false) ≡ false
    go true = refl
    go false = refl

-- ---- kids, one entry at a time

module _ (e : ℕ → Entry) (p : ℕ) where
  pub kids_end : (i n : ℕ) → n ≤ i → kids e p i n ≡ []
  unfolding kids
  kids_end i n l = between_end _ i n l

  -- no child from i on
  pub kids_none : (i n : ℕ) → ((k : ℕ) → i ≤ k → k < n → (e k).parent ≡ p → ⊥) → kids e p i n ≡ []
  unfolding kids
  kids_none i n h = between_none _ i n (λ k a b. child_other p (e k) (h k a b))

  -- none below an entry from p on
  pub kids_hop : (n i j : ℕ) → p ≤ i → Run e n (i + 1) j → kids e p (i + 1) n ≡ kids e p j n
  unfolding kids
  kids_hop n i j l r = between_hop _ (i + 1) j n r.below.low r.below.high (λ k a b. child_other p (e k) (hop e n p i j l r k a b))

-- as the code has it: r is entry i
module _ (e : ℕ → Entry) (p i n : ℕ) (r : Entry) (q : r ≡ e i) (l : i < n) where
  pub kid_yes : r.parent ≡ p → r.units ≡ 0 → kids e p i n ≡ i ∷ kids e p (i + 1) n
  unfolding kids
  kid_yes h z = between_here _ i n l (rw (← q) (child_yes p r h z))

  pub kid_other : (r.parent ≡ p → ⊥) → kids e p i n ≡ kids e p (i + 1) n
  unfolding kids
  kid_other h = between_skip _ i n l (rw (← q) (child_other p r h))

  pub kid_named : (r.units ≡ 0 → ⊥) → kids e p i n ≡ kids e p (i + 1) n
  unfolding kids
  kid_named h = between_skip _ i n l (rw (← q) (child_named_is p r h))

-- k is a kid of p, and ys come after it
abbrev pub Kid : (ℕ → Entry) → ℕ → ℕ → ℕ → List ℕ → Type 0
Kid e p n k ys = Picked (λ i. unnamed_child p (e i)) 0 n k ys

pub kids_split : (e : ℕ → Entry) (p n k : ℕ) (xs ys : List ℕ) → kids e p 0 n ≡ xs ++ k ∷ ys → Kid e p n k ys
unfolding kids
kids_split e p n k xs ys h = between_split _ n k xs ys h

pub kid_rest : (e : ℕ → Entry) (p n k : ℕ) (ys : List ℕ) → Kid e p n k ys → ys ≡ kids e p (k + 1) n
unfolding kids
kid_rest e p n k ys t = t.rest ∙ ap (λ (x : ℕ). kids e p x n) (sym (add-one k))

-- entries come after their parent
pub kids_own : (e : ℕ → Entry) (p n : ℕ) → Ordered e n → p ≤ n → kids e p 0 n ≡ kids e p p n
unfolding kids
kids_own e p n o l = between_hop _ 0 p n (omega arith) l (λ i a k. child_other p (e i) (child_after e n p o i (omega arith) k))

-- ---- the unnamed slot is the kids

unnamed_named : (n : List ℕ) (i : ℕ) (r : List Slot) → unnamed_in (put_named n i r) ≡ unnamed_in r
unfolding unnamed_in put_named
unnamed_named n i [] = refl
unnamed_named n i (unnamed is ∷ r) = refl
unnamed_named n i (named m j ∷ r) = go (unnamed_named n i r) (same n m)
  where
    go : unnamed_in (put_named n i r) ≡ unnamed_in r → (b : Bool) → unnamed_in (cond b (named m i ∷ r) (named m j ∷ put_named n i r)) ≡ unnamed_in r
    go ih true = refl
    go ih false = ih

unnamed_step : (s : List ℕ) (p k : ℕ) (e : Entry) (r : List Slot) → unnamed_in (step s p k e r) ≡ unnamed_in r ++ cond (unnamed_child p e) (k ∷ []) []
unfolding put
unnamed_step s p k e r = go (eqb e.parent p) (eqb e.units 0) refl
  where
    go : (a b : Bool) → eqb e.units 0 ≡ b → unnamed_in (cond a (put (name_of s e) k r) r) ≡ unnamed_in r ++ cond (a && b) (k ∷ []) []
    go false b h = sym (append-nil (unnamed_in r))
    go true true h = rw (no_name s e (eqb-true _ _ h)) (unnamed_more k r)
    go true false h = rw (put_some (name_of s e) k r (some_name s e (eqb-false _ _ h))) (unnamed_named _ k r ∙ sym (append-nil (unnamed_in r)))

pub unnamed_kids : (s : List ℕ) (e : ℕ → Entry) (p n : ℕ) → unnamed_in (slots_of s (firsts n e) p) ≡ kids e p 0 n
unfolding kids unnamed_in
unnamed_kids s e p zero = ap unnamed_in (slots_start s p e) ∙ sym (between_zero _)
unnamed_kids s e p (suc n) =
    ap unnamed_in (slots_more s p n e) ∙ unnamed_step s p n (e n) (slots_of s (firsts n e) p)
    ∙ ap (λ (l : List ℕ). l ++ cond (unnamed_child p (e n)) (n ∷ []) []) (unnamed_kids s e p n)
    ∙ sym (between_last _ n)

-- ---- the elements

-- the elements that the first kid stands for
abbrev pub first_ones : Bool → List ℕ → ℕ → List ℕ
first_ones true l j = l
first_ones false l j = j ∷ []

abbrev pub from_first : (ℕ → List ℕ) → List ℕ → List ℕ
from_first f [] = []
from_first f (j ∷ js) = f j ++ js

spread_leaf : (s : List ℕ) (e : Entry) (i : ℕ) → spread (leaf s e) i ≡ i ∷ []
unfolding spread
spread_leaf s e i = leaf_by (λ v. spread v i ≡ i ∷ []) (λ b. refl) (λ z. refl) (λ x. refl) (λ a n. refl) (λ a n. refl) s e

spread_value : (levels : ℕ) (s : List ℕ) (e : ℕ → Entry) (n j : ℕ) → j < n
    → spread (value_from (suc levels) s (firsts n e) j (get_elem? (firsts n e) j)) j
    ≡ first_ones (list_at s e n j) (elements_from levels s (firsts n e) (suc j)) j
unfolding value_from value_if elements_from spread
spread_value levels s e n j l = rw (get_elem_firsts n e j l) (go (eqb (e j).kind 11))
  where
    val : ℕ → Value
    val k = value_from levels s (firsts n e) k (get_elem? (firsts n e) k)

    slots : List Slot
    slots = slots_of s (firsts n e) (suc j)

    deep : (b : Bool) → spread (cond b (list (elements val (unnamed_in slots))) (level j)) j ≡ first_ones b (elements val (unnamed_in slots)) j
    deep true = refl
    deep false = refl

    go : (b : Bool)
        → spread (value_if b (λ _. collapse val j slots) (leaf s (e j))) j ≡ first_ones (b && only_unnamed slots) (elements val (unnamed_in slots)) j
    go false = spread_leaf s (e j) j
    go true = rw collapse_is (deep (only_unnamed slots))

-- with no depth left the elements are the kids
pub elements_flat : (s : List ℕ) (e : ℕ → Entry) (n p : ℕ) → elements_from 0 s (firsts n e) p ≡ kids e p 0 n
unfolding elements_from elements value_from spread
elements_flat s e n p = go (unnamed_in (slots_of s (firsts n e) p)) ∙ unnamed_kids s e p n
  where
    go : (l : List ℕ) → elements (λ j. value_from 0 s (firsts n e) j (get_elem? (firsts n e) j)) l ≡ l
    go [] = refl
    go (j ∷ js) = refl

-- else the first kid stands for its own elements, where it is a list
pub elements_deep : (levels : ℕ) (s : List ℕ) (e : ℕ → Entry) (n p : ℕ)
    → elements_from (suc levels) s (firsts n e) p
    ≡ from_first (λ j. first_ones (list_at s e n j) (elements_from levels s (firsts n e) (suc j)) j) (kids e p 0 n)
unfolding elements_from elements
elements_deep levels s e n p = rw unnamed_kids (go (kids e p 0 n) (λ k ys h. (kids_split e p n k [] ys h).below))
  where
    go : (l : List ℕ) → ((k : ℕ) (ys : List ℕ) → l ≡ k ∷ ys → k < n)
        → elements (λ j. value_from (suc levels) s (firsts n e) j (get_elem? (firsts n e) j)) l
        ≡ from_first (λ j. first_ones (list_at s e n j) (elements_from levels s (firsts n e) (suc j)) j) l
    go [] h = refl
    go (j ∷ js) h = ap (λ (x : List ℕ). x ++ js) (spread_value levels s e n j (h j js refl))

-- ---- a list has an element

-- an unnamed slot has an entry
solid : List Slot → Type 0
solid [] = Unit
solid (named n i ∷ r) = solid r
solid (unnamed [] ∷ r) = ⊥
solid (unnamed (i ∷ is) ∷ r) = solid r

solid_named : (n : List ℕ) (i : ℕ) (r : List Slot) → solid r → solid (put_named n i r)
unfolding solid put_named
solid_named n i [] h = tt
solid_named n i (unnamed [] ∷ r) h = h
solid_named n i (unnamed (k ∷ ks) ∷ r) h = solid_named n i r h
solid_named n i (named m j ∷ r) h = go (solid_named n i r h) (same n m)
  where
    go : solid (put_named n i r) → (b : Bool) → solid (cond b (named m i ∷ r) (named m j ∷ put_named n i r))
    go ih true = h
    go ih false = ih

solid_unnamed : (i : ℕ) (r : List Slot) → solid r → solid (put_unnamed i r)
unfolding solid put_unnamed
solid_unnamed i [] h = tt
solid_unnamed i (named m j ∷ r) h = solid_unnamed i r h
solid_unnamed i (unnamed [] ∷ r) h = absurd h
solid_unnamed i (unnamed (k ∷ ks) ∷ r) h = h

solid_step : (s : List ℕ) (p k : ℕ) (e : Entry) (r : List Slot) → solid r → solid (step s p k e r)
unfolding put
solid_step s p k e r h = go (eqb e.parent p) (name_of s e)
  where
    go : (b : Bool) (m : List ℕ) → solid (cond b (put m k r) r)
    go false m = h
    go true [] = solid_unnamed k r h
    go true (u ∷ m) = solid_named (u ∷ m) k r h

solid_slots : (s : List ℕ) (e : ℕ → Entry) (p n : ℕ) → solid (slots_of s (firsts n e) p)
unfolding solid
solid_slots s e p zero = subst solid (sym (slots_start s p e)) tt
solid_slots s e p (suc n) = subst solid (sym (slots_more s p n e)) (solid_step s p n (e n) _ (solid_slots s e p n))

solid_some : (r : List Slot) → solid r → only_unnamed r ≡ true → unnamed_in r ≡ [] → ⊥
unfolding solid only_unnamed unnamed_in
solid_some [] h o u = let z : ◌≡◌ {A = ℕ} 0 1 = cc in omega arith
solid_some (named n i ∷ r) h o u = let z : ◌≡◌ {A = ℕ} 0 1 = cc in omega arith
solid_some (unnamed [] ∷ r) h o u = h
solid_some (unnamed (i ∷ is) ∷ r) h o u = let z : ◌≡◌ {A = ℕ} 0 1 = cc in omega arith

kids_some : (s : List ℕ) (e : ℕ → Entry) (p n : ℕ) → only_unnamed (slots_of s (firsts n e) p) ≡ true → kids e p 0 n ≡ [] → ⊥
kids_some s e p n o h = solid_some _ (solid_slots s e p n) o (unnamed_kids s e p n ∙ h)

append_some : (xs ys : List ℕ) → (xs ≡ [] → ⊥) → xs ++ ys ≡ [] → ⊥
append_some [] ys h k = h refl
append_some (x ∷ xs) ys h k = let z : ◌≡◌ {A = ℕ} 0 1 = cc in omega arith

pub elements_some : (d : ℕ) (s : List ℕ) (e : ℕ → Entry) (n p : ℕ) → only_unnamed (slots_of s (firsts n e) p) ≡ true
    → elements_from d s (firsts n e) p ≡ [] → ⊥
elements_some zero s e n p o h = kids_some s e p n o (sym (elements_flat s e n p) ∙ h)
elements_some (suc d) s e n p o h =
    go (λ j. elements_some d s e n (suc j)) (kids e p 0 n) (kids_some s e p n o) (sym (elements_deep d s e n p) ∙ h)
  where
    first : (b : Bool) (l : List ℕ) (j : ℕ) → (b ≡ true → l ≡ [] → ⊥) → first_ones b l j ≡ [] → ⊥
    first true l j f h = f refl h
    first false l j f h = let z : ◌≡◌ {A = ℕ} 0 1 = cc in omega arith

    go : ((j : ℕ) → only_unnamed (slots_of s (firsts n e) (suc j)) ≡ true → elements_from d s (firsts n e) (suc j) ≡ [] → ⊥)
        → (l : List ℕ) → (l ≡ [] → ⊥) → from_first (λ j. first_ones (list_at s e n j) (elements_from d s (firsts n e) (suc j)) j) l ≡ [] → ⊥
    go ih [] o h = o refl
    go ih (j ∷ js) o h =
        append_some (first_ones (list_at s e n j) (elements_from d s (firsts n e) (suc j)) j) js
        (first (list_at s e n j) (elements_from d s (firsts n e) (suc j)) j
        (λ b. ih j (and_right (eqb (e j).kind 11) (only_unnamed (slots_of s (firsts n e) (suc j))) b))) h

-- ---- the first element

head_append : (xs ys : List ℕ) → (xs ≡ [] → ⊥) → head_of (xs ++ ys) ≡ head_of xs
head_append [] ys h = absurd (h refl)
head_append (x ∷ xs) ys h = refl

pub head_kids : (l : List ℕ) (j : ℕ) → some j ≡ head_of l → (js : List ℕ) × (l ≡ j ∷ js)
head_kids [] j h = absurd (let z : ◌≡◌ {A = ℕ} 0 1 = cc in omega arith)
head_kids (i ∷ is) j h = (is, cc)

pub none_kids : (l : List ℕ) → none ≡ head_of l → l ≡ []
none_kids [] h = refl
none_kids (i ∷ is) h = cc

module _ (s : List ℕ) (e : ℕ → Entry) (n p : ℕ) where
  pub first_none : (d : ℕ) → none ≡ head_of (kids e p 0 n) → none ≡ head_of (elements_from d s (firsts n e) p)
  first_none zero h = rw elements_flat h
  first_none (suc d) h = rw (elements_deep, none_kids (kids e p 0 n) h)

  pub first_flat : (d : ℕ) (o : Option ℕ) → d ≡ 0 → o ≡ head_of (kids e p 0 n) → o ≡ head_of (elements_from d s (firsts n e) p)
  first_flat d o z h = rw (z, elements_flat) h

  pub first_plain : (d j : ℕ) → list_at s e n j ≡ false → some j ≡ head_of (kids e p 0 n) → some j ≡ head_of (elements_from d s (firsts n e) p)
  first_plain zero j b h = rw elements_flat h
  first_plain (suc d) j b h =
      let k = head_kids (kids e p 0 n) j h in
      rw (elements_deep, k.1, b)

  pub first_deep : (d j : ℕ) → 0 < d → list_at s e n j ≡ true → some j ≡ head_of (kids e p 0 n)
      → head_of (elements_from d s (firsts n e) p) ≡ head_of (elements_from (d - 1) s (firsts n e) (j + 1))
  first_deep zero j l b h = absurd (omega arith)
  first_deep (suc d) j l b h =
      let k = head_kids (kids e p 0 n) j h in
      rw (elements_deep, k.1, b, sub-one, add-one)
      (head_append _ k.0 (elements_some d s e n (suc j) (and_right (eqb (e j).kind 11) (only_unnamed (slots_of s (firsts n e) (suc j))) b)))

-- ---- from an element to the next

-- k is a kid of p, or of a kid's first kid and so on, and ys are the elements of p after k
pub data After (e : ℕ → Entry) (n : ℕ) : ℕ → ℕ → List ℕ → Type 0 where
  here : {p k : ℕ} {ys : List ℕ} (xs : List ℕ) → kids e p 0 n ≡ xs ++ k ∷ ys → After e n p k ys
  deep : {p k : ℕ} {ys : List ℕ} (c : ℕ) (js zs : List ℕ) → kids e p 0 n ≡ c ∷ js → After e n (suc c) k zs → ys ≡ zs ++ js → After e n p k ys

-- an element of two lists together is in the one or the other
data Split (us bs xs : List ℕ) (k : ℕ) (ys : List ℕ) : Type 0 where
  left : (zs : List ℕ) → us ≡ xs ++ k ∷ zs → ys ≡ zs ++ bs → Split us bs xs k ys
  right : (ws : List ℕ) → bs ≡ ws ++ k ∷ ys → Split us bs xs k ys

split : (us bs xs : List ℕ) (k : ℕ) (ys : List ℕ) → us ++ bs ≡ xs ++ k ∷ ys → Split us bs xs k ys
split [] bs xs k ys h = right xs h
split (a ∷ us) bs [] k ys h = let x : a ≡ k = cc in let y : ys ≡ us ++ bs = cc in left us (cc) y
split (a ∷ us) bs (x ∷ xs) k ys h = go (split us bs xs k ys (cc))
  where
    go : Split us bs xs k ys → Split (a ∷ us) bs (x ∷ xs) k ys
    go (left zs p q) = left zs (let y : a ≡ x = cc in cc) q
    go (right ws p) = right ws p

one_only : (c : ℕ) (xs : List ℕ) (k : ℕ) (zs : List ℕ) → c ∷ [] ≡ xs ++ k ∷ zs → (c ≡ k) × (zs ≡ [])
one_only c [] k zs h = (cc, cc)
one_only c (x ∷ xs) k zs h = nil_not xs k zs (cc)

pub after_of : (d : ℕ) (s : List ℕ) (e : ℕ → Entry) (n p : ℕ) (xs : List ℕ) (k : ℕ) (ys : List ℕ)
    → elements_from d s (firsts n e) p ≡ xs ++ k ∷ ys → After e n p k ys
after_of zero s e n p xs k ys h = here xs (sym (elements_flat s e n p) ∙ h)
after_of (suc d) s e n p xs k ys h =
    go (λ c xs zs. after_of d s e n (suc c) xs k zs) (kids e p 0 n) refl (sym (elements_deep d s e n p) ∙ h)
  where
    f : ℕ → List ℕ
    f j = first_ones (list_at s e n j) (elements_from d s (firsts n e) (suc j)) j

    inner : ((c : ℕ) (xs zs : List ℕ) → elements_from d s (firsts n e) (suc c) ≡ xs ++ k ∷ zs → After e n (suc c) k zs)
        → (c : ℕ) (js zs : List ℕ) → kids e p 0 n ≡ c ∷ js → ys ≡ zs ++ js
        → (b : Bool) → first_ones b (elements_from d s (firsts n e) (suc c)) c ≡ xs ++ k ∷ zs → After e n p k ys
    inner ih c js zs t q true h = deep c js zs t (ih c xs zs h) q
    inner ih c js zs t q false h =
        let o = one_only c xs k zs h in
        let x = o.0 in
        let y : ys ≡ js = q ∙ ap (λ (l : List ℕ). l ++ js) o.1 in
        let g : kids e p 0 n ≡ [] ++ k ∷ ys = cc in
        here [] g

    whole : ((c : ℕ) (xs zs : List ℕ) → elements_from d s (firsts n e) (suc c) ≡ xs ++ k ∷ zs → After e n (suc c) k zs)
        → (c : ℕ) (js : List ℕ) → kids e p 0 n ≡ c ∷ js → Split (f c) js xs k ys → After e n p k ys
    whole ih c js t (left zs a q) = inner ih c js zs t q (list_at s e n c) a
    whole ih c js t (right ws a) = here (c ∷ ws) (t ∙ ap (λ (l : List ℕ). c ∷ l) a)

    go : ((c : ℕ) (xs zs : List ℕ) → elements_from d s (firsts n e) (suc c) ≡ xs ++ k ∷ zs → After e n (suc c) k zs)
        → (l : List ℕ) → kids e p 0 n ≡ l → from_first f l ≡ xs ++ k ∷ ys → After e n p k ys
    go ih [] t h = nil_not xs k ys h
    go ih (c ∷ js) t h = whole ih c js t (split (f c) js xs k ys h)

-- where the next one is: among the kids after k of k's parent, and where that is not p, after the parent
pub data Climb (e : ℕ → Entry) (n p k : ℕ) (ys : List ℕ) : Type 0 where
  top : (e k).parent ≡ p → ys ≡ kids e p (k + 1) n → Climb e n p k ys
  up : (zs : List ℕ) → p < (e k).parent → After e n p ((e k).parent - 1) zs → ys ≡ kids e (e k).parent (k + 1) n ++ zs → Climb e n p k ys

parent_of : (p : ℕ) (e : Entry) → unnamed_child p e ≡ true → e.parent ≡ p
parent_of p e h = go (eqb e.parent p) refl h
  where
    go : (b : Bool) → eqb e.parent p ≡ b → (b && eqb e.units 0) ≡ true → e.parent ≡ p
    go true h k = eqb-true _ _ h
    go false h k = absurd (let z : ◌≡◌ {A = ℕ} 0 1 = cc in omega arith)

-- a kid comes after its level
pub head_low : (e : ℕ → Entry) (n p j : ℕ) → Ordered e n → some j ≡ head_of (kids e p 0 n) → p ≤ j
head_low e n p j o h =
    let a = head_kids (kids e p 0 n) j h in
    let t = kids_split e p n j [] a.0 a.1 in
    let x = parent_of p (e j) t.passes in
    omega (arith, o.older j t.below, x)

pub climb : (e : ℕ → Entry) (n p k : ℕ) (ys : List ℕ) → Ordered e n → After e n p k ys → Climb e n p k ys
climb e n p k ys o (here xs h) =
    let t = kids_split e p n k xs ys h in
    top (parent_of p (e k) t.passes) (kid_rest e p n k ys t)
climb e n p k ys o (deep c js zs h a q) = go (climb e n (suc c) k zs o a)
  where
    t : Kid e p n c js
    t = kids_split e p n c [] js h

    low : p ≤ c
    low = let x = parent_of p (e c) t.passes in omega (arith, o.older c t.below, x)

    go : Climb e n (suc c) k zs → Climb e n p k ys
    go (top x y) =
        let z : (e k).parent - 1 ≡ c = omega (arith, x) in
        let g : kids e p 0 n ≡ [] ++ ((e k).parent - 1) ∷ js = rw z h in
        up js (omega (arith, x, low)) (here [] g) (q ∙ ap (λ (l : List ℕ). l ++ js) (y ∙ ap (λ (v : ℕ). kids e v (k + 1) n) (sym x)))
    go (up ws x y z) =
        up (ws ++ js) (omega (arith, x, low)) (deep c js ws h y refl) (q ∙ ap (λ (l : List ℕ). l ++ js) z ∙ append_assoc (kids e (e k).parent (k + 1) n) ws js)

-- ---- the next element, as the code has it: q is the level of entry k

module _ (e : ℕ → Entry) (n p k : ℕ) (ys : List ℕ) (o : Ordered e n) (a : After e n p k ys) (q : ℕ) (own : q ≡ (e k).parent) where
  level_kids : List ℕ
  level_kids = kids e (e k).parent (k + 1) n

  pub next_found : (j : ℕ) → some j ≡ head_of (kids e q (k + 1) n) → some j ≡ head_of ys
  unfolding level_kids
  next_found j h = go (climb e n p k ys o a) (rw own at h)
    where
      go : Climb e n p k ys → some j ≡ head_of level_kids → some j ≡ head_of ys
      go (top x y) h = rw y (rw x at h)
      go (up zs x b y) h = let w = head_kids level_kids j h in rw (y, w.1)

  pub next_none : none ≡ head_of (kids e q (k + 1) n) → q ≡ p → none ≡ head_of ys
  unfolding level_kids
  next_none h x = go (climb e n p k ys o a) (rw own at h)
    where
      go : Climb e n p k ys → none ≡ head_of level_kids → none ≡ head_of ys
      go (top x y) h = rw y (rw x at h)
      go (up zs l b y) h = absurd (omega (arith, l, x, own))

  pub next_up : none ≡ head_of (kids e q (k + 1) n) → (q ≡ p → ⊥) → After e n p (q - 1) ys
  unfolding level_kids
  next_up h x = rw own (go (climb e n p k ys o a) (rw own at h))
    where
      go : Climb e n p k ys → none ≡ head_of level_kids → After e n p ((e k).parent - 1) ys
      go (top y z) h = absurd (x (own ∙ y))
      go (up zs l b y) h = subst (After e n p ((e k).parent - 1)) (sym (y ∙ rw (none_kids level_kids h))) b

  -- where k stands deeper, its level is not the whole tree
  pub next_above : (q ≡ p → ⊥) → 0 < q
  next_above x = go (climb e n p k ys o a)
    where
      go : Climb e n p k ys → 0 < q
      go (top y w) = absurd (x (own ∙ y))
      go (up zs l b y) = omega (arith, l, own)

-- ---- elements by their number

pub get_head : (l : List ℕ) (k : ℕ) → head_of (drop k l) ≡ get_elem? l k
get_head [] zero = refl
get_head [] (suc k) = refl
get_head (x ∷ l) zero = refl
get_head (x ∷ l) (suc k) = get_head l k

pub get_split : (l : List ℕ) (k i : ℕ) → get_elem? l k ≡ some i → l ≡ take k l ++ i ∷ drop (suc k) l
get_split [] k i h = absurd (let z : ◌≡◌ {A = ℕ} 0 1 = cc in omega arith)
get_split (x ∷ l) zero i h = let z : x ≡ i = cc in rw z refl
get_split (x ∷ l) (suc k) i h = ap (λ (t : List ℕ). x ∷ t) (get_split l k i h)

pub get_drop : (l : List ℕ) (k i : ℕ) → get_elem? l k ≡ some i → drop k l ≡ i ∷ drop (suc k) l
get_drop [] k i h = absurd (let z : ◌≡◌ {A = ℕ} 0 1 = cc in omega arith)
get_drop (x ∷ l) zero i h = let z : x ≡ i = cc in rw z refl
get_drop (x ∷ l) (suc k) i h = get_drop l k i h

pub get_less : (l : List ℕ) (k i : ℕ) → get_elem? l k ≡ some i → k < length l
get_less [] k i h = absurd (let z : ◌≡◌ {A = ℕ} 0 1 = cc in omega arith)
get_less (x ∷ l) zero i h = omega arith
get_less (x ∷ l) (suc k) i h = let z = get_less l k i h in omega arith

pub get_past : (l : List ℕ) (k : ℕ) → none ≡ get_elem? l k → length l ≤ k
get_past [] k h = omega arith
get_past (x ∷ l) zero h = absurd (let z : ◌≡◌ {A = ℕ} 0 1 = cc in omega arith)
get_past (x ∷ l) (suc k) h = let z = get_past l k h in omega arith

-- what comes after element number k
pub after_number : (s : List ℕ) (e : ℕ → Entry) (n p k i : ℕ) → get_elem? (elements_of s (firsts n e) p) k ≡ some i
    → After e n p i (drop (suc k) (elements_of s (firsts n e) p))
after_number s e n p k i h = after_of _ s e n p (take k (elements_of s (firsts n e) p)) i _ (get_split _ k i h)

pub element_after : (e : ℕ → Entry) (n p i : ℕ) (x : Element (firsts n e) p i) → After e n p i (drop (suc x.number) (elements_of x.file (firsts n e) p))
element_after e n p i x = after_number x.file e n p x.number i x.is

pub number_next : (s : List ℕ) (e : ℕ → Entry) (n p k : ℕ) (o : Option ℕ) → o ≡ head_of (drop (suc k) (elements_of s (firsts n e) p))
    → o ≡ get_elem? (elements_of s (firsts n e) p) (k + 1)
number_next s e n p k o h = h ∙ get_head (elements_of s (firsts n e) p) (suc k) ∙ rw add-one

-- ---- how many there can be

kids_short : (e : ℕ → Entry) (p n : ℕ) → length (kids e p 0 n) ≤ n
unfolding kids
kids_short e p n = between_short _ n

pub elements_short : (d : ℕ) (s : List ℕ) (e : ℕ → Entry) (n p : ℕ) → length (elements_from d s (firsts n e) p) ≤ (d + 1) * n
elements_short zero s e n p = rw elements_flat (let h = kids_short e p n in omega arith)
elements_short (suc d) s e n p = rw elements_deep (go (kids e p 0 n) (kids_short e p n) (λ j. elements_short d s e n (suc j)))
  where
    f : ℕ → List ℕ
    f j = first_ones (list_at s e n j) (elements_from d s (firsts n e) (suc j)) j

    one : (b : Bool) (l : List ℕ) (j : ℕ) → 0 < n → length l ≤ (d + 1) * n → length (first_ones b l j) ≤ (d + 1) * n
    one true l j z h = h
    one false l j z h = rw (add-mul d 1 n, one-mul) (omega arith)

    go : (l : List ℕ) → length l ≤ n → ((j : ℕ) → length (elements_from d s (firsts n e) (suc j)) ≤ (d + 1) * n) → length (from_first f l) ≤ (suc d + 1) * n
    go [] h k = omega arith
    go (j ∷ js) h k =
        let a = one (list_at s e n j) (elements_from d s (firsts n e) (suc j)) j (omega arith) (k j) in
        let x : (suc d + 1) * n ≡ (d + 1) * n + n =
        ap (λ (y : ℕ). y * n) (let z : suc d + 1 ≡ (d + 1) + 1 = omega arith in z) ∙ add-mul (d + 1) 1 n
        ∙ ap (λ (y : ℕ). (d + 1) * n + y) (one-mul n) in
        rw (length-append (f j) js, x) (omega arith)

-- of these elements n are counted, and `at` is the next
pub record Counted (l : List ℕ) (n : ℕ) (at : std.Option ℕ) : Type 0 where
  pub next : found at ≡ get_elem? l n
  pub few : n ≤ length l

pub counted_end : (l : List ℕ) (n : ℕ) (at : std.Option ℕ) → Counted l n at → at ≡ std.None → n ≡ length l
counted_end l n at h z = let x = get_past l n (is_nothing at _ z h.next) in omega (arith, h.few)

pub counted_less : (l : List ℕ) (n : ℕ) (at : std.Option ℕ) (i : ℕ) → Counted l n at → at ≡ std.Some i → n < length l
counted_less l n at i h z = get_less l n i (sym (is_at at i _ z h.next))

pub counted_more : (l : List ℕ) (n : ℕ) (at to : std.Option ℕ) (i : ℕ) → Counted l n at → at ≡ std.Some i → (get_elem? l n ≡ some i → found to ≡ get_elem? l (n + 1))
    → Counted l (n + 1) to
counted_more l n at to i h z k =
    let x = counted_less l n at i h z in
    record { next = k (sym (is_at at i _ z h.next)); few = omega arith }
