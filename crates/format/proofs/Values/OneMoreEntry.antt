-- What one entry more makes of a level's slots, and of what is found in them. Assumes nothing.
use Prim.Native.Nat.{ℕ, suc, ◌+◌, ◌<◌}
use mathlib.Core.Path.{◌≡◌, refl, sym, ◌∙◌}
use mathlib.Core.Bool.{Bool, true, false, ◌&&◌, cond, true≢false}
use mathlib.Core.Option.{Option, some}
use mathlib.Core.List.{List, [], ◌∷◌, ◌++◌}
use native.Mathlib.Omega.{arith}
use native.Mathlib.Nat.{add-zero, zero-add, add-suc, suc-add}
use lib.Dec.{eqb}
use lib.ListN.{length}
use Rattle.format.proofs.Ground.Tests.{same_true, same_refl}
use Rattle.format.specs.Bytes.{same}
use Rattle.format.specs.Values.{Slot, named, unnamed, put_named, put_unnamed, put, name_of, slots_from, slots_of, find}
use Rattle.format.specs.declared.Entry.{Entry}

-- ---- one entry more

-- what entry e, with number k, makes of the slots of p
abbrev pub step : List ℕ → ℕ → ℕ → Entry → List Slot → List Slot
step s p k e r = cond (eqb e.parent p) (put (name_of s e) k r) r

slots_append : (s : List ℕ) (p i : ℕ) (es fs : List Entry) (r : List Slot)
    → slots_from s p i (es ++ fs) r ≡ slots_from s p (i + length es) fs (slots_from s p i es r)
unfolding slots_from
slots_append s p i [] fs r = rw add-zero
slots_append s p i (e ∷ es) fs r = rw (add-suc, ← suc-add) (slots_append s p (suc i) es fs _)

pub slots_none : (s : List ℕ) (p : ℕ) → slots_of s [] p ≡ []
unfolding slots_of slots_from
slots_none s p = refl

pub slots_last : (s : List ℕ) (p : ℕ) (es : List Entry) (e : Entry) → slots_of s (es ++ e ∷ []) p ≡ step s p (length es) e (slots_of s es p)
unfolding slots_of slots_from
slots_last s p es e = slots_append s p 0 es (e ∷ []) [] ∙ rw zero-add

pub put_some : (m : List ℕ) (i : ℕ) (r : List Slot) → 0 < length m → put m i r ≡ put_named m i r
unfolding put
put_some [] i r h = absurd (omega arith)
put_some (a ∷ m) i r h = refl

-- ---- what is found after one entry more

cond_swap : {A : Type 0} (b c : Bool) (x y z : A) → (b ≡ true → c ≡ true → x ≡ y) → cond b x (cond c y z) ≡ cond c y (cond b x z)
cond_swap true true x y z h = h refl refl
cond_swap true false x y z h = refl
cond_swap false true x y z h = refl
cond_swap false false x y z h = refl

find_named : (n m : List ℕ) (i : ℕ) (r : List Slot) → find n (put_named m i r) ≡ cond (same n m) (some i) (find n r)
unfolding find put_named
find_named n m i [] = refl
find_named n m i (unnamed js ∷ r) = find_named n m i r
find_named n m i (named k j ∷ r) = go (find_named n m i r) (same m k) refl
  where
    twice : (b : Bool) (x y z : Option ℕ) → cond b x z ≡ cond b x (cond b y z)
    twice true x y z = refl
    twice false x y z = refl

    go : find n (put_named m i r) ≡ cond (same n m) (some i) (find n r) → (b : Bool) → same m k ≡ b
        → find n (cond b (named k i ∷ r) (named k j ∷ put_named m i r)) ≡ cond (same n m) (some i) (cond (same n k) (some j) (find n r))
    go ih true e = rw (same_true m k e) (twice (same n k) (some i) (some j) (find n r))
    go ih false e =
        rw ih
        (cond_swap (same n k) (same n m) (some j) (some i) (find n r)
        (λ a b. absurd (true≢false (sym (same_refl n) ∙ cc (same_true n k a, same_true n m b)))))

find_unnamed : (n : List ℕ) (i : ℕ) (r : List Slot) → find n (put_unnamed i r) ≡ find n r
unfolding find put_unnamed
find_unnamed n i [] = refl
find_unnamed n i (named m j ∷ r) = rw (find_unnamed n i r)
find_unnamed n i (unnamed js ∷ r) = refl

find_put : (n m : List ℕ) (i : ℕ) (r : List Slot) → 0 < length n → find n (put m i r) ≡ cond (same n m) (some i) (find n r)
unfolding put same
find_put [] m i r h = absurd (omega arith)
find_put (a ∷ n) [] i r h = find_unnamed (a ∷ n) i r
find_put (a ∷ n) (u ∷ m) i r h = find_named (a ∷ n) (u ∷ m) i r

-- an entry of p with the name is what is found after it
pub find_step : (s n : List ℕ) (p k : ℕ) (e : Entry) (r : List Slot) → 0 < length n
    → find n (step s p k e r) ≡ cond (eqb e.parent p && same n (name_of s e)) (some k) (find n r)
find_step s n p k e r h = go (eqb e.parent p)
  where
    go : (b : Bool) → find n (cond b (put (name_of s e) k r) r) ≡ cond (b && same n (name_of s e)) (some k) (find n r)
    go true = find_put n (name_of s e) k r h
    go false = refl
