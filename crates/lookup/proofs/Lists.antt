-- Laws of lists: levels whose children are all unnamed; and of the values of levels. Assumes nothing.
use Prim.Native.Nat.{ℕ, zero, suc, ◌+◌, ◌-◌, ◌≤◌, ◌<◌}
use mathlib.Core.Path.{◌≡◌, refl, sym, ap, ◌∙◌}
use mathlib.Core.Bool.{Bool, true, false, cond}
use mathlib.Core.Option.{some, none}
use mathlib.Core.List.{List, [], ◌∷◌, ◌++◌}
use native.Mathlib.Numerals.{add-one}
use native.Mathlib.Omega.{arith}
use borrow.Author.Tests.{eq-eqb, ne_eqb}
use lib.Dec.{eqb}
use lib.ListN.{length}
use Rattle.format.proofs.Text.Units.{length_name}
use Rattle.format.proofs.Values.LevelOrLeaf.{leaf_by}
use Rattle.format.proofs.Values.OneMoreEntry.{step, put_some}
use Rattle.format.specs.Bytes.{same}
use Rattle.format.specs.Text.{units, lossy, replaced_after}
use Rattle.format.specs.Trees.{most_depth}
use Rattle.format.specs.Values.{Value, level, list, Slot, named, unnamed, put_named, put_unnamed, put, name_of, slots_of, collapse, elements, value_at}
use Rattle.format.specs.Values.{value_from, value_if, leaf, as_level}
use Rattle.format.specs.declared.Entry.{Entry}
use Rattle.lookup.specs.Table.{firsts, Ordered, Run}
use Rattle.lookup.specs.Values.{only_unnamed, unnamed_in, elements_from, meaning}
use Rattle.lookup.specs.declared.ClxValue.TheVariants as clx
use Rattle.lookup.proofs.Rows.{slots_more, get_elem_firsts, slots_low, slots_until, hop}

-- ---- names that are empty, and that are not

pub no_name : (s : List ℕ) (e : Entry) → e.units ≡ 0 → name_of s e ≡ []
unfolding name_of lossy replaced_after units
no_name s e h = rw h

pub some_name : (s : List ℕ) (e : Entry) → (e.units ≡ 0 → ⊥) → 0 < length (name_of s e)
unfolding name_of
some_name s e h = rw length_name (omega (arith, h))

-- ---- one entry more, by kind

module _ (s : List ℕ) (p : ℕ) (e : ℕ → Entry) (i : ℕ) where
  slots_other : ((e i).parent ≡ p → ⊥) → slots_of s (firsts (i + 1) e) p ≡ slots_of s (firsts i e) p
  slots_other h = rw add-one (slots_more s p i e ∙ rw (ne_eqb _ _ h))

  slots_unnamed : (e i).parent ≡ p → (e i).units ≡ 0 → slots_of s (firsts (i + 1) e) p ≡ put_unnamed i (slots_of s (firsts i e) p)
  unfolding put
  slots_unnamed h z = rw add-one (slots_more s p i e ∙ rw (eq-eqb _ _ h, no_name s (e i) z))

  slots_named : (e i).parent ≡ p → ((e i).units ≡ 0 → ⊥) → slots_of s (firsts (i + 1) e) p ≡ put_named (name_of s (e i)) i (slots_of s (firsts i e) p)
  slots_named h z = rw add-one (slots_more s p i e ∙ rw (eq-eqb _ _ h) (put_some _ i _ (some_name s (e i) z)))

-- ---- whether a level has a name

unfoldable pub has_named : List Slot → Bool
has_named [] = false
has_named (named n i ∷ r) = true
has_named (unnamed is ∷ r) = has_named r

has_put : (n : List ℕ) (i : ℕ) (r : List Slot) → has_named (put_named n i r) ≡ true
unfolding has_named put_named
has_put n i [] = refl
has_put n i (unnamed is ∷ r) = has_put n i r
has_put n i (named m j ∷ r) = go (same n m)
  where
    go : (b : Bool) → has_named (cond b (named m i ∷ r) (named m j ∷ put_named n i r)) ≡ true
    go true = refl
    go false = refl

has_unnamed : (i : ℕ) (r : List Slot) → has_named (put_unnamed i r) ≡ has_named r
unfolding has_named put_unnamed
has_unnamed i [] = refl
has_unnamed i (named m j ∷ r) = refl
has_unnamed i (unnamed is ∷ r) = refl

has_step : (s : List ℕ) (p k : ℕ) (e : Entry) (r : List Slot) → has_named r ≡ true → has_named (step s p k e r) ≡ true
unfolding put
has_step s p k e r h = go (eqb e.parent p) (name_of s e)
  where
    go : (b : Bool) (m : List ℕ) → has_named (cond b (put m k r) r) ≡ true
    go false m = h
    go true [] = has_unnamed k r ∙ h
    go true (u ∷ m) = has_put (u ∷ m) k r

has_later : (s : List ℕ) (p : ℕ) (e : ℕ → Entry) (i n : ℕ) → has_named (slots_of s (firsts i e) p) ≡ true → has_named (slots_of s (firsts (i + n) e) p) ≡ true
has_later s p e i zero h = rw (let z : i + 0 ≡ i = omega arith in z) h
has_later s p e i (suc n) h =
    rw (let z : i + suc n ≡ suc (i + n) = omega arith in z)
    (ap has_named (slots_more s p (i + n) e) ∙ has_step s p (i + n) (e (i + n)) _ (has_later s p e i n h))

only_named : (r : List Slot) → has_named r ≡ true → only_unnamed r ≡ false
unfolding has_named only_unnamed
only_named [] h = refl
only_named (named m j ∷ r) h = refl
only_named (unnamed is ∷ []) h = sym h
only_named (unnamed is ∷ x ∷ r) h = refl

-- a named child means no list
pub not_list : (s : List ℕ) (p : ℕ) (e : ℕ → Entry) (i n : ℕ) → i < n → (e i).parent ≡ p → ((e i).units ≡ 0 → ⊥)
    → only_unnamed (slots_of s (firsts n e) p) ≡ false
not_list s p e i n l h z =
    only_named _ (rw (let y : n ≡ (i + 1) + (n - (i + 1)) = omega arith in y)
    (has_later s p e (i + 1) (n - (i + 1)) (ap has_named (slots_named s p e i h z) ∙ has_put _ i _)))

-- ---- no names so far

-- a row of slots is the unnamed one alone, or empty
abbrev pub wrap : List ℕ → List Slot
wrap [] = []
wrap (i ∷ is) = unnamed (i ∷ is) ∷ []

wrap_more : (k : ℕ) (is : List ℕ) → put_unnamed k (wrap is) ≡ wrap (is ++ k ∷ [])
unfolding put_unnamed
wrap_more k [] = refl
wrap_more k (i ∷ is) = refl

pub unnamed_more : (k : ℕ) (r : List Slot) → unnamed_in (put_unnamed k r) ≡ unnamed_in r ++ k ∷ []
unfolding unnamed_in put_unnamed
unnamed_more k [] = refl
unnamed_more k (named m j ∷ r) = unnamed_more k r
unnamed_more k (unnamed is ∷ r) = refl

only_more : (k : ℕ) (is : List ℕ) → only_unnamed (wrap (is ++ k ∷ [])) ≡ true
unfolding only_unnamed
only_more k [] = refl
only_more k (i ∷ is) = refl

-- after i entries no child has a name, and `seen` says whether there is a child
pub record Plain (s : List ℕ) (p : ℕ) (e : ℕ → Entry) (seen : Bool) (i : ℕ) : Type 0 where
  pub alone : slots_of s (firsts i e) p ≡ wrap (unnamed_in (slots_of s (firsts i e) p))
  pub is : seen ≡ only_unnamed (slots_of s (firsts i e) p)

-- before the level's first child
pub plain_start : (s : List ℕ) (p n : ℕ) (e : ℕ → Entry) → Ordered e n → p ≤ n → Plain s p e false p
unfolding unnamed_in only_unnamed
plain_start s p n e o l =
    let h = slots_low e n p o s p (omega arith) l in
    record { alone = rw h; is = rw h }

-- after the last
pub plain_stop : (s : List ℕ) (p n : ℕ) (e : ℕ → Entry) (seen : Bool) (i : ℕ) → Plain s p e seen i → i ≤ n
    → ((k : ℕ) → i ≤ k → k < n → (e k).parent ≡ p → ⊥) → seen ≡ only_unnamed (slots_of s (firsts n e) p)
plain_stop s p n e seen i h l o = h.is ∙ ap only_unnamed (sym (slots_until s p i n e l o))

pub plain_other : (s : List ℕ) (p : ℕ) (e : ℕ → Entry) (seen : Bool) (i : ℕ) → Plain s p e seen i → ((e i).parent ≡ p → ⊥) → Plain s p e seen (i + 1)
plain_other s p e seen i h n = record { alone = rw (slots_other s p e i n) h.alone; is = rw (slots_other s p e i n) h.is }

pub plain_more : (s : List ℕ) (p : ℕ) (e : ℕ → Entry) (seen : Bool) (i : ℕ) → Plain s p e seen i → (e i).parent ≡ p → (e i).units ≡ 0
    → Plain s p e true (i + 1)
plain_more s p e seen i h q z =
    let is = unnamed_in (slots_of s (firsts i e) p) in
    let m = slots_unnamed s p e i q z in
    let w : put_unnamed i (slots_of s (firsts i e) p) ≡ wrap (is ++ i ∷ []) = ap (put_unnamed i) h.alone ∙ wrap_more i is in
    record { alone = rw (m, unnamed_more) w; is = sym (ap only_unnamed (m ∙ w) ∙ only_more i is) }

-- past all that lies below an entry from p on
pub plain_hop : (s : List ℕ) (p n : ℕ) (e : ℕ → Entry) (seen : Bool) (i j : ℕ) → p ≤ i → Run e n (i + 1) j → Plain s p e seen (i + 1) → Plain s p e seen j
plain_hop s p n e seen i j l r h =
    let x = slots_until s p (i + 1) j e r.below.low (hop e n p i j l r) in
    record { alone = rw x h.alone; is = rw x h.is }

-- ---- values

pub collapse_is : (val : ℕ → Value) (i : ℕ) (r : List Slot) → collapse val i r ≡ cond (only_unnamed r) (list (elements val (unnamed_in r))) (level i)
unfolding collapse only_unnamed unnamed_in
collapse_is val i [] = refl
collapse_is val i (named n j ∷ r) = refl
collapse_is val i (unnamed is ∷ []) = refl
collapse_is val i (unnamed is ∷ x ∷ r) = refl

module _ (s : List ℕ) (n : ℕ) (e : ℕ → Entry) (i : ℕ) (l : i < n) where
  pub value_leaf : ((e i).kind ≡ 11 → ⊥) → value_at s (firsts n e) i ≡ leaf s (e i)
  unfolding value_at value_from value_if
  value_leaf k = rw (get_elem_firsts n e i l, ne_eqb _ _ k)

  value_deep : (e i).kind ≡ 11 → value_at s (firsts n e) i
      ≡ cond (only_unnamed (slots_of s (firsts n e) (suc i))) (list (elements_from most_depth s (firsts n e) (suc i))) (level i)
  unfolding value_at value_from value_if elements_from
  value_deep k = rw (get_elem_firsts n e i l, eq-eqb _ _ k) (collapse_is _ i _)

  pub value_items : (e i).kind ≡ 11 → only_unnamed (slots_of s (firsts n e) (i + 1)) ≡ true → meaning s (firsts n e) (clx.List i) ≡ value_at s (firsts n e) i
  unfolding meaning
  value_items k o = sym (value_deep k ∙ rw (rw add-one at o))

  pub value_level : (e i).kind ≡ 11 → only_unnamed (slots_of s (firsts n e) (i + 1)) ≡ false → meaning s (firsts n e) (clx.Level i) ≡ value_at s (firsts n e) i
  unfolding meaning
  value_level k o = sym (value_deep k ∙ rw (rw add-one at o))

-- ---- levels alone

as_leaf : (s : List ℕ) (e : Entry) → as_level (some (leaf s e)) ≡ none
unfolding as_level
as_leaf s e = leaf_by (λ v. as_level (some v) ≡ none) (λ b. refl) (λ z. refl) (λ x. refl) (λ a n. refl) (λ a n. refl) s e

module _ (s : List ℕ) (n : ℕ) (e : ℕ → Entry) (i : ℕ) (l : i < n) (r : Entry) (q : r ≡ e i) where
  pub level_yes : r.kind ≡ 11 → only_unnamed (slots_of s (firsts n e) (i + 1)) ≡ false → some i ≡ as_level (some (value_at s (firsts n e) i))
  unfolding as_level
  level_yes k o = sym (rw (value_deep s n e i l (ap (λ (x : Entry). x.kind) (sym q) ∙ k), (rw add-one at o)))

  pub level_list : r.kind ≡ 11 → only_unnamed (slots_of s (firsts n e) (i + 1)) ≡ true → none ≡ as_level (some (value_at s (firsts n e) i))
  unfolding as_level
  level_list k o = sym (rw (value_deep s n e i l (ap (λ (x : Entry). x.kind) (sym q) ∙ k), (rw add-one at o)))

  pub level_leaf : (r.kind ≡ 11 → ⊥) → none ≡ as_level (some (value_at s (firsts n e) i))
  level_leaf k = sym (rw (value_leaf s n e i l (λ z. k (ap (λ (x : Entry). x.kind) q ∙ z))) (as_leaf s (e i)))
