-- A tree's entries have depths: a level's is below 64, and a record's is above its parent's. Assumes nothing.
use Prim.Native.Nat.{ℕ, zero, suc, ◌+◌, ◌*◌, ◌≤◌, ◌<◌}
use mathlib.Core.Path.{◌≡◌, refl, sym, ◌∙◌}
use mathlib.Core.Bool.{cond}
use mathlib.Core.Option.{some}
use mathlib.Core.List.{List, [], ◌∷◌, ◌++◌}
use native.Mathlib.Omega.{arith}
use lib.Dec.{eqb}
use lib.ListN.{length, get_elem?}
use borrow.Author.Tests.{eq-eqb, ne_eqb}
use Rattle.format.proofs.Ground.Answers.{none≢some}
use Rattle.format.proofs.Values.Leaves.{Typed}
use Rattle.format.proofs.Trees.ByRules.{plain_of}
use Rattle.format.specs.Bytes.{part}
use Rattle.format.specs.declared.Range.{Range}
use Rattle.format.specs.Trees.{most_depth}
use Rattle.format.specs.Grammar.Trees.{value_start, Plain, fixed, text_ended, text_cut, bytes, bool, i32, u32, i64, u64, f64, pointer, count_at}
use Rattle.format.specs.Grammar.Trees.{kids_from, kids_to, level_to, Records, counted, quiet, plain, nested, of_level, Tree}
use Rattle.format.specs.declared.Entry.{Entry}

-- the entries es, numbered from n on, have the depths D, and known types
pub data Ranked (D : ℕ → ℕ) : ℕ → List Entry → Type 0 where
  nil : {n : ℕ} → Ranked D n []
  cons : {n : ℕ} {e : Entry} {es : List Entry} → Typed e → (e.kind ≡ 11 → D n < most_depth) → ((y : ℕ) → e.parent ≡ suc y → (y < n) × (D y < D n))
      → Ranked D (suc n) es → Ranked D n (e ∷ es)

ranked_append : (D : ℕ → ℕ) (n : ℕ) (ks es : List Entry) → Ranked D n ks → Ranked D (n + length ks) es → Ranked D n (ks ++ es)
ranked_append D n [] es nil r = let q : n + 0 ≡ n = omega arith in rw q at r
ranked_append D n (k ∷ ks) es (cons y a b t) r =
    let q : n + suc (length ks) ≡ suc n + length ks = omega arith in
    cons y a b (ranked_append D (suc n) ks es t (rw q at r))

ranked_same : (D E : ℕ → ℕ) (n : ℕ) (es : List Entry) → ((x : ℕ) → x < n + length es → D x ≡ E x) → Ranked D n es → Ranked E n es
ranked_same D E n [] h nil = nil
ranked_same D E n (e ∷ es) h (cons y a b t) =
    let here : D n ≡ E n = h n (omega arith) in
    cons y (λ k. rw here at (a k)) (λ y p. let (l, m) = b y p in let there : D y ≡ E y = h y (omega arith) in (l, rw (here, there) at m))
    (ranked_same D E (suc n) es (λ x l. h x (omega arith)) t)

ranked_at : (D : ℕ → ℕ) (n x : ℕ) (es : List Entry) (e : Entry) → Ranked D n es → get_elem? es x ≡ some e
    → (e.kind ≡ 11 → D (n + x) < most_depth) × ((y : ℕ) → e.parent ≡ suc y → D y < D (n + x)) × Typed e
ranked_at D n x [] e nil q = absurd (none≢some q)
ranked_at D n zero (f ∷ es) e (cons y a b r) q =
    let k : n + 0 ≡ n = omega arith in
    let z : f ≡ e = cc in
    rw (k, ← z) (a, (λ y p. (b y p).1), y)
ranked_at D n (suc x) (f ∷ es) e (cons y a b r) q = let k : n + suc x ≡ suc n + x = omega arith in rw k (ranked_at D (suc n) x es e r q)

module _ (D : ℕ → ℕ) (es : List Entry) (r : Ranked D 0 es) (x : ℕ) (e : Entry) (q : get_elem? es x ≡ some e) where
  pub level_depth : e.kind ≡ 11 → D x < most_depth
  level_depth = let k : 0 + x ≡ x = omega arith in rw k at (ranked_at D 0 x es e r q).0

  pub child_depth : (y : ℕ) → e.parent ≡ suc y → D y < D x
  child_depth = let k : 0 + x ≡ x = omega arith in rw k at (ranked_at D 0 x es e r q).1

  pub entry_typed : Typed e
  entry_typed = (ranked_at D 0 x es e r q).2

-- D with another value at n
put : (ℕ → ℕ) → ℕ → ℕ → ℕ → ℕ
put D n v x = cond (eqb x n) v (D x)

put_here : (D : ℕ → ℕ) (n v : ℕ) → put D n v n ≡ v
unfolding put
put_here D n v = rw (eq-eqb n n refl) refl

put_there : (D : ℕ → ℕ) (n v x : ℕ) → x < n → put D n v x ≡ D x
unfolding put
put_there D n v x h = rw (ne_eqb x n (λ e. omega arith)) refl

-- a plain record is no level
plain_kind : (d : List ℕ) (e v k from len p : ℕ) → Plain d e v k from len p → k ≡ 11 → ⊥
plain_kind d e v k from len p (fixed bool h) q = omega arith
plain_kind d e v k from len p (fixed i32 h) q = omega arith
plain_kind d e v k from len p (fixed u32 h) q = omega arith
plain_kind d e v k from len p (fixed i64 h) q = omega arith
plain_kind d e v k from len p (fixed u64 h) q = omega arith
plain_kind d e v k from len p (fixed f64 h) q = omega arith
plain_kind d e v k from len p (fixed pointer h) q = omega arith
plain_kind d e v k from len p (text_ended n u z h) q = omega arith
plain_kind d e v k from len p (text_cut n u h₁ h₂) q = omega arith
plain_kind d e v k from len p (bytes h) q = omega arith

-- the size of a plain text is even
plain_even : (d : List ℕ) (e v k from len p : ℕ) → Plain d e v k from len p → k ≡ 8 → (n : ℕ) × (len ≡ 2 * n)
plain_even d e v k from len p (fixed bool h) q = absurd (omega arith)
plain_even d e v k from len p (fixed i32 h) q = absurd (omega arith)
plain_even d e v k from len p (fixed u32 h) q = absurd (omega arith)
plain_even d e v k from len p (fixed i64 h) q = absurd (omega arith)
plain_even d e v k from len p (fixed u64 h) q = absurd (omega arith)
plain_even d e v k from len p (fixed f64 h) q = absurd (omega arith)
plain_even d e v k from len p (fixed pointer h) q = absurd (omega arith)
plain_even d e v k from len p (text_ended n u z h) q = (n, refl)
plain_even d e v k from len p (text_cut n u h₁ h₂) q = (n, refl)
plain_even d e v k from len p (bytes h) q = absurd (omega arith)

-- the entries of plain records and of levels have known types
plain_typed : (d : List ℕ) (e v k from len p : ℕ) (en : Entry) → Plain d e v k from len p → en.kind ≡ k → en.size ≡ len → Typed en
plain_typed d e v k from len p en x q r =
    record { known = rw q (plain_of d e v k from len p x); even = λ z. let (n, h) = plain_even d e v k from len p x (sym q ∙ z) in (n, r ∙ h) }

level_typed : (en : Entry) → en.kind ≡ 11 → Typed en
level_typed en q = record { known = rw q of_level; even = λ z. absurd (omega arith) }

-- depths of the entries es, numbered from `used` on, besides those that D has
record Depthed (D : ℕ → ℕ) (used : ℕ) (es : List Entry) : Type 0 where
  E : ℕ → ℕ
  kept : (x : ℕ) → x < used → E x ≡ D x
  ranked : Ranked E used es

-- a record of this parent has the depth `here`
Above : (ℕ → ℕ) → ℕ → ℕ → ℕ → Type 0
Above D parent used here = (y : ℕ) → parent ≡ suc y → (y < used) × (D y < here)

above_more : (D E : ℕ → ℕ) (parent used more here : ℕ) → Above D parent used here → ((x : ℕ) → x < used → E x ≡ D x) → used ≤ more → Above E parent more here
unfolding Above
above_more D E parent used more here a h l y z = let (k, m) = a y z in (omega arith, rw (h y k) m)

head_depth : (D E : ℕ → ℕ) (parent used here : ℕ) (en : Entry) (es : List Entry) → Typed en → Above D parent used here
    → (en.kind ≡ 11 → here < most_depth) → en.parent ≡ parent → ((x : ℕ) → x < suc used → E x ≡ put D used here x) → Ranked E (suc used) es
    → Ranked E used (en ∷ es)
unfolding Above
head_depth D E parent used here en es y a k q kept r =
    cons {n = used} y (λ z. rw at_used (k z))
    (λ y z. let (l, m) = a y (sym q ∙ z) in let there : E y ≡ D y = kept y (omega arith) ∙ put_there D used here y l in (l, rw (at_used, there) m)) r
  where
    at_used : E used ≡ here
    at_used = kept used (omega arith) ∙ put_here D used here

put_above : (D : ℕ → ℕ) (parent used here : ℕ) → Above D parent used here → Above (put D used here) parent (used + 1) here
unfolding Above
put_above D parent used here a y z = let (l, m) = a y z in (omega arith, rw (put_there D used here y l) m)

kids_above : (D : ℕ → ℕ) (used here : ℕ) → Above (put D used here) (suc used) (suc used) (suc here)
unfolding Above
kids_above D used here y z = let q : used ≡ y = omega arith in (omega arith, rw (← q, put_here D used here) (omega arith))

plain_depths : (D : ℕ → ℕ) (parent used here : ℕ) (en : Entry) (fs : List Entry) → Typed en → Above D parent used here
    → (en.kind ≡ 11 → ⊥) → en.parent ≡ parent → Depthed (put D used here) (used + 1) fs → Depthed D used (en ∷ fs)
plain_depths D parent used here en fs t a k q x =
    let one : used + 1 ≡ suc used = omega arith in
    record {
      E = x.E;
      kept = λ y l. x.kept y (omega arith) ∙ put_there D used here y l;
      ranked = head_depth D x.E parent used here en fs t a (λ z. absurd (k z)) q (λ y l. x.kept y (omega arith)) (rw one at x.ranked);
    }

level_depths : (D : ℕ → ℕ) (parent used here : ℕ) (en : Entry) (ks fs : List Entry) → Typed en → Above D parent used here
    → here < most_depth → en.parent ≡ parent → (x : Depthed (put D used here) (suc used) ks) → Depthed x.E (used + suc (length ks)) fs
    → Depthed D used (en ∷ ks ++ fs)
level_depths D parent used here en ks fs t a k q x y =
    let sum : used + suc (length ks) ≡ suc used + length ks = omega arith in
    record {
      E = y.E;
      kept = λ z l. y.kept z (omega arith) ∙ (x.kept z (omega arith) ∙ put_there D used here z l);
      ranked = head_depth D y.E parent used here en (ks ++ fs) t a (λ _. k) q (λ z l. y.kept z (omega arith) ∙ x.kept z l)
          (ranked_append y.E (suc used) ks fs (ranked_same x.E y.E (suc used) ks (λ z l. sym (y.kept z (omega arith))) x.ranked)
          (rw sum at y.ranked));
    }

module _ (d : List ℕ) (base : ℕ) where
  depths : (left parent count used i e : ℕ) (es : List Entry) (p : ℕ) → Records d base left parent count used i e es p → (D : ℕ → ℕ) (here : ℕ)
      → here + left ≡ most_depth
      → Above D parent used here → Depthed D used es
  depths left parent count used i e es p counted D here hl a = record { E = D; kept = λ x h. refl; ranked = nil }
  depths left parent count used i e es p (quiet h) D here hl a = record { E = D; kept = λ x h. refl; ranked = nil }
  depths left parent count used i e es p (plain {count = n} {k = k} {from} {len} {p = q} {en = en} {es = fs} h v x r) D here hl a =
      let own : en.kind ≡ k = x.kind ∙ h.kind in
      plain_depths D parent used here en fs (plain_typed d e (value_start d i) k from len q en v own x.size) a
      (λ z. plain_kind d e (value_start d i) k from len q v (sym own ∙ z)) x.parent_is
      (depths left parent n (used + 1) q e fs p r (put D used here) here hl (put_above D parent used here a))
  depths left parent count used i e es p (nested {left = m} {count = n} {p = q} {en = en} {ks = ks} {es = fs} l y kr h r) D here hl a =
      let x = depths m (suc used) (count_at d i) (suc used) (kids_from d i) (kids_to d i) ks q kr (put D used here) (suc here) (omega arith)
      (kids_above D used here) in
      let b = above_more (put D used here) x.E parent (used + 1) (used + suc (length ks)) here (put_above D parent used here a)
      (λ z j. x.kept z (omega arith)) (omega arith) in
      level_depths D parent used here en ks fs (level_typed en (y.kind ∙ l.head.kind)) a (omega arith) y.parent_is x
      (depths left parent n (used + suc (length ks)) (level_to d i) e fs p r x.E here hl b)

-- the depths of a tree's entries
pub tree_depths : (s : List ℕ) (r : Range) (es : List Entry) → Tree s r es → (D : ℕ → ℕ) × Ranked D 0 es
unfolding Above
tree_depths s r es t =
    let x = depths (part s r.start r.len) r.start most_depth 0 1 0 0 (length (part s r.start r.len)) es t.place_after
    t.record_at_0 (λ _. 0) 0 refl (λ y z. omega arith) in
    (x.E, x.ranked)
