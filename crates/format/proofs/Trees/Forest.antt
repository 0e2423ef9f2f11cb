-- A tree's entries are a forest in file order: each comes after its parent, and a level's children stand together, in the table and in the file. Assumes
-- nothing.
use Prim.Native.Nat.{ℕ, zero, suc, ◌+◌, ◌≤◌, ◌<◌}
use mathlib.Core.Path.{◌≡◌, refl, ap, ◌∙◌}
use mathlib.Core.Logic.{◌⊎◌, inl, inr}
use mathlib.Core.Option.{some}
use mathlib.Core.List.{List, [], ◌∷◌, ◌++◌}
use native.Mathlib.Nat.{zero-add}
use native.Mathlib.Omega.{arith}
use native.Mathlib.Decide.{dec_lt}
use lib.ListN.{length, get_elem?}
use Rattle.format.proofs.Ground.Answers.{none≢some}
use Rattle.format.specs.Chunks.{data_in}
use Rattle.format.specs.Grammar.Trees.{value_start, Plain, fixed, text_ended, text_cut, bytes, count_at, kids_from, kids_to, level_to, EntryOf}
use Rattle.format.specs.Grammar.Trees.{Records, counted, quiet, plain, nested, Tree}
use Rattle.format.specs.declared.Entry.{Entry}
use Rattle.format.specs.declared.Range.{Range}

-- an outermost entry: its name stands behind lo, its value behind that, and ends by m
pub record Root (lo m p : ℕ) (e : Entry) : Type 0 where
  pub parent_is : e.parent ≡ p
  pub low : lo < e.name
  pub order : e.name ≤ e.value
  pub high : e.value + e.size ≤ m

-- the entries are numbered from u on, the outermost have the parent number p, and all lie in the file from lo to hi
pub data Forest : ℕ → ℕ → ℕ → ℕ → List Entry → Type 0 where
  bare : {lo hi p u : ℕ} → lo ≤ hi → Forest lo hi p u []
  tree : {lo m hi p u : ℕ} (e : Entry) (ks rs : List Entry) → Root lo m p e → Forest e.value (e.value + e.size) (suc u) (suc u) ks
      → Forest m hi p (suc u + length ks) rs → Forest lo hi p u (e ∷ (ks ++ rs))

-- a value that is no level stands behind the name, and ends in the level
record Ends (e v from len p : ℕ) : Type 0 where
  low : v ≤ from
  high : from + len ≤ p
  inside : p ≤ e

plain_ends : (d : List ℕ) (e v k from len p : ℕ) → Plain d e v k from len p → Ends e v from len p
plain_ends d e v k from len p (fixed w h) = record { low = omega arith; high = omega arith; inside = h }
plain_ends d e v k from len p (text_ended n u z h) = record { low = omega arith; high = omega arith; inside = h }
plain_ends d e v k from len p (text_cut n u h z) = record { low = omega arith; high = omega arith; inside = h }
plain_ends d e v k from len p (bytes h) = record { low = omega arith; high = omega arith; inside = h }

module _ (d : List ℕ) (base : ℕ) where
  root : (parent i from len m : ℕ) (en : Entry) → EntryOf d base parent i from len en → value_start d i ≤ from → from + len ≤ m
      → Root (base + i) (base + m) parent en
  root parent i from len m en x l r =
      record { parent_is = x.parent_is; low = omega (arith, x.name); order = omega (arith, x.name, x.value); high = omega (arith, x.value, x.size) }

  records_forest : (left parent count used i e : ℕ) (es : List Entry) (p : ℕ) → i ≤ e → Records d base left parent count used i e es p
      → Forest (base + i) (base + e) parent used es
  records_forest left parent count used i e es p o counted = bare {lo = base + i} {hi = base + e} (omega arith)
  records_forest left parent count used i e es p o (quiet h) = bare {lo = base + i} {hi = base + e} (omega arith)
  records_forest left parent count used i e es p o (plain {count = n} {k = k} {from} {len} {p = q} {en = en} {es = fs} h v x r) =
      let z : used + 1 ≡ suc used + length {A = Entry} [] = omega arith in
      let w = plain_ends d e (value_start d i) k from len q v in
      tree en [] fs (root parent i from len q en x w.low w.high) (bare {lo = en.value} {hi = en.value + en.size} (omega arith))
      (rw z at (records_forest left parent n (used + 1) q e fs p w.inside r))
  records_forest left parent count used i e es p o (nested {left = m} {count = n} {p = q} {en = en} {ks = ks} {es = fs} l x kr h r) =
      let z : used + suc (length ks) ≡ suc used + length ks = omega arith in
      let from : base + kids_from d i ≡ en.value = omega (arith, x.value) in
      let to : base + kids_to d i ≡ en.value + en.size = omega (arith, x.value, x.size, l.length_least) in
      tree en ks fs (root parent i (kids_from d i) _ (level_to d i) en x (omega arith) (omega (arith, l.length_least)))
      (rw (from, to) at (records_forest m (suc used) (count_at d i) (suc used) (kids_from d i) (kids_to d i) ks q l.length_least kr))
      (rw z at (records_forest left parent n (used + suc (length ks)) (level_to d i) e fs p h r))

pub tree_forest : (s : List ℕ) (r : Range) (es : List Entry) → Tree s r es → Forest (r.start + 0) (r.start + length (data_in s r)) 0 0 es
tree_forest s r es t = records_forest (data_in s r) r.start _ _ _ _ 0 _ es t.place_after (omega arith) t.record_at_0

-- ---- what a forest says of its entries

-- where an entry of a tree stands: first, among the children, or after
data Where (e : Entry) (ks rs : List Entry) (i : ℕ) (x : Entry) : Type 0 where
  own : i ≡ 0 → x ≡ e → Where e ks rs i x
  inside : (j : ℕ) → i ≡ suc j → j < length ks → get_elem? ks j ≡ some x → Where e ks rs i x
  past : (j : ℕ) → i ≡ suc (length ks + j) → get_elem? rs j ≡ some x → Where e ks rs i x

where_rest : (e : Entry) (ks rs : List Entry) (i : ℕ) (x : Entry) → get_elem? (ks ++ rs) i ≡ some x
    → ((get_elem? ks i ≡ some x) × (i < length ks)) ⊎ ((j : ℕ) × (i ≡ length ks + j) × (get_elem? rs j ≡ some x))
where_rest e [] rs i x h = inr (i, (omega arith), h)
where_rest e (k ∷ ks) rs zero x h = inl (h, omega arith)
where_rest e (k ∷ ks) rs (suc i) x h = go (where_rest e ks rs i x h)
  where
    go : ((get_elem? ks i ≡ some x) × (i < length ks)) ⊎ ((j : ℕ) × (i ≡ length ks + j) × (get_elem? rs j ≡ some x))
        → ((get_elem? ks i ≡ some x) × (suc i < suc (length ks))) ⊎ ((j : ℕ) × (suc i ≡ suc (length ks) + j) × (get_elem? rs j ≡ some x))
    go (inl a) = inl (a.0, omega (arith, a.1))
    go (inr a) = inr (a.0, omega (arith, a.1), a.2)

where_is : (e : Entry) (ks rs : List Entry) (i : ℕ) (x : Entry) → get_elem? (e ∷ (ks ++ rs)) i ≡ some x → Where e ks rs i x
where_is e ks rs zero x h = own refl (cc)
where_is e ks rs (suc i) x h = go (where_rest e ks rs i x h)
  where
    go : ((get_elem? ks i ≡ some x) × (i < length ks)) ⊎ ((j : ℕ) × (i ≡ length ks + j) × (get_elem? rs j ≡ some x)) → Where e ks rs (suc i) x
    go (inl a) = inside i refl a.1 a.0
    go (inr a) = past a.0 (ap suc a.1) a.2

above : (u m : ℕ) → ((m ≡ suc u → ⊥) → suc u < m) → u < m
above u m h = go (dec_lt u m)
  where
    go : Dec (u < m) → u < m
    go (yes e) = e
    go (no n) = absurd (n (let z = h (λ e. n (omega arith)) in omega arith))

-- an entry's parent is p, or an entry of the forest that comes before
pub record Placed (p u i : ℕ) (x : Entry) : Type 0 where
  pub old : x.parent ≤ u + i
  pub from : (x.parent ≡ p → ⊥) → u < x.parent

pub forest_placed : {lo hi : ℕ} (p u : ℕ) (l : List Entry) (i : ℕ) (x : Entry) → Forest lo hi p u l → p ≤ u → get_elem? l i ≡ some x → Placed p u i x
forest_placed p u l i x (bare o') o h = absurd (none≢some h)
forest_placed p u l i x (tree e ks rs t f r) o h =
    go (λ j g. forest_placed (suc u) (suc u) ks j x f (omega arith) g) (λ j g. forest_placed p (suc u + length ks) rs j x r (omega arith) g)
    (where_is e ks rs i x h)
  where
    go : ((j : ℕ) → get_elem? ks j ≡ some x → Placed (suc u) (suc u) j x) → ((j : ℕ) → get_elem? rs j ≡ some x → Placed p (suc u + length ks) j x)
        → Where e ks rs i x → Placed p u i x
    go ih jh (own a b) = let c : x.parent ≡ p = ap (λ (y : Entry). y.parent) b ∙ t.parent_is in record { old = omega arith; from = λ n. absurd (n c) }
    go ih jh (inside j a b d) =
        let w = ih j d in
        record { old = omega (arith, w.old); from = λ n. above u x.parent w.from }
    go ih jh (past j a d) =
        let w = jh j d in
        record { old = omega (arith, w.old); from = λ n. let z = w.from n in omega arith }

-- an entry outside of q, at or after its first child's place, ends q's children
pub forest_nested : {lo hi : ℕ} (p u : ℕ) (l : List Entry) (q i k : ℕ) (x y : Entry) → Forest lo hi p u l → p ≤ u → get_elem? l i ≡ some x
    → get_elem? l k ≡ some y → i ≤ k → q ≤ u + i → x.parent < q → y.parent ≡ q → ⊥
forest_nested p u l q i k x y (bare o') o h m a b c d = none≢some h
forest_nested p u l q i k x y (tree e ks rs w f r) o h m a b c d =
    go (λ i k h m a b c d. forest_nested (suc u) (suc u) ks q i k x y f (omega arith) h m a b c d)
    (λ i k h m a b c d. forest_nested p (suc u + length ks) rs q i k x y r (omega arith) h m a b c d)
    (where_is e ks rs i x h) (where_is e ks rs k y m)
  where
    kid : (j : ℕ) (z : Entry) → get_elem? ks j ≡ some z → u < z.parent
    kid j z g = above u z.parent (forest_placed (suc u) (suc u) ks j z f (omega arith) g).from

    late : (j : ℕ) (z : Entry) → get_elem? rs j ≡ some z → (z.parent ≡ p → ⊥) → suc u + length ks < z.parent
    late j z g = (forest_placed p (suc u + length ks) rs j z r (omega arith) g).from

    first : x ≡ e → x.parent ≡ p
    first g = ap (λ (n : Entry). n.parent) g ∙ w.parent_is

    go : ((i k : ℕ) → get_elem? ks i ≡ some x → get_elem? ks k ≡ some y → i ≤ k → q ≤ suc u + i → x.parent < q → y.parent ≡ q → ⊥)
        → ((i k : ℕ) → get_elem? rs i ≡ some x → get_elem? rs k ≡ some y → i ≤ k → q ≤ suc u + length ks + i → x.parent < q → y.parent ≡ q → ⊥)
        → Where e ks rs i x → Where e ks rs k y → ⊥
    go ih jh (own g n) (own g' n') = let z = ap (λ (v : Entry). v.parent) n' ∙ w.parent_is in let z' = first n in omega arith
    go ih jh (own g n) (inside j' g' l' n') = let z = kid j' y n' in omega arith
    go ih jh (own g n) (past j' g' n') = let z' = first n in let z = late j' y n' (λ v. omega arith) in omega arith
    go ih jh (inside j g l n) (own g' n') = omega arith
    go ih jh (inside j g l n) (inside j' g' l' n') = ih j j' n n' (omega arith) (omega arith) c d
    go ih jh (inside j g l n) (past j' g' n') = let z' = kid j x n in let z = late j' y n' (λ v. omega arith) in omega arith
    go ih jh (past j g n) (own g' n') = omega arith
    go ih jh (past j g n) (inside j' g' l' n') = omega arith
    go ih jh (past j g n) (past j' g' n') = jh j j' n n' (omega arith) (omega arith) c d

-- ---- where the entries lie in the file

forest_order : {lo hi p u : ℕ} {l : List Entry} → Forest lo hi p u l → lo ≤ hi
forest_order (bare o) = o
forest_order (tree e ks rs t f r) = let z = forest_order r in omega (arith, t.low, t.order, t.high)

-- an entry lies from lo to hi: its name, and then its value
pub record Lain (lo hi : ℕ) (x : Entry) : Type 0 where
  pub low : lo < x.name
  pub order : x.name ≤ x.value
  pub high : x.value + x.size ≤ hi

pub forest_lain : {lo hi p u : ℕ} (l : List Entry) (i : ℕ) (x : Entry) → Forest lo hi p u l → get_elem? l i ≡ some x → Lain lo hi x
forest_lain l i x (bare o) h = absurd (none≢some h)
forest_lain {lo} {hi} l i x (tree {m = m} e ks rs t f r) h = go (λ j g. forest_lain ks j x f g) (λ j g. forest_lain rs j x r g) (where_is e ks rs i x h)
  where
    end : m ≤ hi
    end = forest_order r

    go : ((j : ℕ) → get_elem? ks j ≡ some x → Lain e.value (e.value + e.size) x) → ((j : ℕ) → get_elem? rs j ≡ some x → Lain m hi x) → Where e ks rs i x
        → Lain lo hi x
    go ih jh (own a b) = rw b (record { low = t.low; order = t.order; high = omega (arith, t.high, end) })
    go ih jh (inside j a b d) =
        let w = ih j d in
        record { low = omega (arith, w.low, t.low, t.order); order = w.order; high = omega (arith, w.high, t.high, end) }
    go ih jh (past j a d) =
        let w = jh j d in
        record { low = omega (arith, w.low, t.low, t.order, t.high); order = w.order; high = w.high }

-- where two entries stand, the first before the second
data Pair (e : Entry) (ks rs : List Entry) (i k : ℕ) (x y : Entry) : Type 0 where
  own_inside : i ≡ 0 → x ≡ e → (j : ℕ) → k ≡ suc j → get_elem? ks j ≡ some y → Pair e ks rs i k x y
  own_past : i ≡ 0 → x ≡ e → (j : ℕ) → k ≡ suc (length ks + j) → get_elem? rs j ≡ some y → Pair e ks rs i k x y
  both_inside : (j n : ℕ) → i ≡ suc j → k ≡ suc n → get_elem? ks j ≡ some x → get_elem? ks n ≡ some y → Pair e ks rs i k x y
  inside_past : (j n : ℕ) → i ≡ suc j → j < length ks → k ≡ suc (length ks + n) → get_elem? ks j ≡ some x → get_elem? rs n ≡ some y → Pair e ks rs i k x y
  both_past : (j n : ℕ) → i ≡ suc (length ks + j) → k ≡ suc (length ks + n) → get_elem? rs j ≡ some x → get_elem? rs n ≡ some y → Pair e ks rs i k x y

pair_is : (e : Entry) (ks rs : List Entry) (i k : ℕ) (x y : Entry) → i < k → get_elem? (e ∷ (ks ++ rs)) i ≡ some x → get_elem? (e ∷ (ks ++ rs)) k ≡ some y
    → Pair e ks rs i k x y
pair_is e ks rs i k x y o g h = go (where_is e ks rs i x g) (where_is e ks rs k y h)
  where
    go : Where e ks rs i x → Where e ks rs k y → Pair e ks rs i k x y
    go a (own b c) = absurd (omega arith)
    go (own a b) (inside n c l d) = own_inside a b n c d
    go (own a b) (past n c d) = own_past a b n c d
    go (inside j a l b) (inside n c m d) = both_inside j n a c b d
    go (inside j a l b) (past n c d) = inside_past j n a l c b d
    go (past j a b) (inside n c m d) = absurd (omega arith)
    go (past j a b) (past n c d) = both_past j n a c b d

-- names stand in the file as the entries do in the table
pub forest_rising : {lo hi p u : ℕ} (l : List Entry) (i k : ℕ) (x y : Entry) → Forest lo hi p u l → i < k → get_elem? l i ≡ some x → get_elem? l k ≡ some y
    → x.name < y.name
forest_rising l i k x y (bare o) a g h = absurd (none≢some g)
forest_rising l i k x y (tree e ks rs t f r) a g h =
    go (λ j n b g h. forest_rising ks j n x y f b g h) (λ j n b g h. forest_rising rs j n x y r b g h) (pair_is e ks rs i k x y a g h)
  where
    go : ((j n : ℕ) → j < n → get_elem? ks j ≡ some x → get_elem? ks n ≡ some y → x.name < y.name)
        → ((j n : ℕ) → j < n → get_elem? rs j ≡ some x → get_elem? rs n ≡ some y → x.name < y.name) → Pair e ks rs i k x y → x.name < y.name
    go ih jh (own_inside b c n d q) = rw c (let w = forest_lain ks n y f q in omega (arith, w.low, t.order))
    go ih jh (own_past b c n d q) = rw c (let w = forest_lain rs n y r q in omega (arith, w.low, t.order, t.high))
    go ih jh (both_inside j n b d q v) = ih j n (omega arith) q v
    go ih jh (inside_past j n b l d q v) =
        let w = forest_lain ks j x f q in
        let z = forest_lain rs n y r v in
        omega (arith, w.order, w.high, z.low, t.high)
    go ih jh (both_past j n b d q v) = jh j n (omega arith) q v

-- an entry outside of another one that comes before it stands behind its value
pub forest_outside : {lo hi : ℕ} (p u : ℕ) (l : List Entry) (i k : ℕ) (x y : Entry) → Forest lo hi p u l → p ≤ u → i < k → get_elem? l i ≡ some x
    → get_elem? l k ≡ some y → y.parent ≤ u + i → x.value + x.size < y.name
forest_outside p u l i k x y (bare o) z a g h b = absurd (none≢some g)
forest_outside p u l i k x y (tree e ks rs t f r) z a g h b =
    go (λ j n a g h b. forest_outside (suc u) (suc u) ks j n x y f (omega arith) a g h b)
    (λ j n a g h b. forest_outside p (suc u + length ks) rs j n x y r (omega arith) a g h b) (pair_is e ks rs i k x y a g h)
  where
    kid : (j : ℕ) (v : Entry) → get_elem? ks j ≡ some v → u < v.parent
    kid j v q = above u v.parent (forest_placed (suc u) (suc u) ks j v f (omega arith) q).from

    go : ((j n : ℕ) → j < n → get_elem? ks j ≡ some x → get_elem? ks n ≡ some y → y.parent ≤ suc u + j → x.value + x.size < y.name)
        → ((j n : ℕ) → j < n → get_elem? rs j ≡ some x → get_elem? rs n ≡ some y → y.parent ≤ suc u + length ks + j → x.value + x.size < y.name)
        → Pair e ks rs i k x y → x.value + x.size < y.name
    go ih jh (own_inside c d n m q) = let w = kid n y q in absurd (omega arith)
    go ih jh (own_past c d n m q) = rw d (let w = forest_lain rs n y r q in omega (arith, w.low, t.high))
    go ih jh (both_inside j n c m q v) = ih j n (omega arith) q v (omega arith)
    go ih jh (inside_past j n c l m q v) =
        let w = forest_lain ks j x f q in
        let s = forest_lain rs n y r v in
        omega (arith, w.high, s.low, t.high)
    go ih jh (both_past j n c m q v) = jh j n (omega arith) q v (omega arith)

-- an entry among the first part of two, and among the second
among_first : (a b : List Entry) (j : ℕ) (z : Entry) → get_elem? a j ≡ some z → get_elem? (a ++ b) j ≡ some z
among_first [] b j z h = absurd (none≢some h)
among_first (c ∷ a) b zero z h = h
among_first (c ∷ a) b (suc j) z h = among_first a b j z h

among_second : (a b : List Entry) (j : ℕ) → get_elem? (a ++ b) (length a + j) ≡ get_elem? b j
among_second [] b j = rw zero-add
among_second (c ∷ a) b j = rw (let z : suc (length a) + j ≡ suc (length a + j) = omega arith in z) (among_second a b j)

-- the trees behind another one begin with an entry of their own level
first_outside : {lo hi : ℕ} (p u : ℕ) (l : List Entry) (n : ℕ) (y : Entry) → Forest lo hi p u l → get_elem? l n ≡ some y
    → ((z : Entry) → get_elem? l 0 ≡ some z → z.parent ≡ p → ⊥) → ⊥
first_outside p u l n y (bare o) h k = none≢some h
first_outside p u l n y (tree e ks rs t f r) h k = k e refl t.parent_is

-- an entry that is below another one, as all between them are, stands in its value
pub forest_inside : {lo hi : ℕ} (p u : ℕ) (l : List Entry) (i k : ℕ) (x y : Entry) → Forest lo hi p u l → p ≤ u → i < k → get_elem? l i ≡ some x
    → get_elem? l k ≡ some y → ((j : ℕ) (z : Entry) → i < j → j ≤ k → get_elem? l j ≡ some z → u + i < z.parent) → y.name ≤ x.value + x.size
forest_inside p u l i k x y (bare o) q a g h b = absurd (none≢some g)
forest_inside p u l i k x y (tree e ks rs t f r) q a g h b =
    go (λ j n a g h b. forest_inside (suc u) (suc u) ks j n x y f (omega arith) a g h b)
    (λ j n a g h b. forest_inside p (suc u + length ks) rs j n x y r (omega arith) a g h b) (pair_is e ks rs i k x y a g h)
  where
    late : (j : ℕ) (z : Entry) → get_elem? rs j ≡ some z → get_elem? (e ∷ (ks ++ rs)) (suc (length ks + j)) ≡ some z
    late j z w = among_second ks rs j ∙ w

    -- entry i is no parent of what comes behind the first tree
    no : (n : ℕ) → i ≤ length ks → k ≡ suc (length ks + n) → get_elem? rs n ≡ some y → ⊥
    no n c d w =
        first_outside p (suc u + length ks) rs n y r w
        (λ z v m. let w = b (suc (length ks + 0)) z (omega arith) (omega arith) (late 0 z v) in omega arith)

    go : ((j n : ℕ) → j < n → get_elem? ks j ≡ some x → get_elem? ks n ≡ some y
        → ((m : ℕ) (z : Entry) → j < m → m ≤ n → get_elem? ks m ≡ some z → suc u + j < z.parent) → y.name ≤ x.value + x.size)
        → ((j n : ℕ) → j < n → get_elem? rs j ≡ some x → get_elem? rs n ≡ some y
        → ((m : ℕ) (z : Entry) → j < m → m ≤ n → get_elem? rs m ≡ some z → suc u + length ks + j < z.parent) → y.name ≤ x.value + x.size)
        → Pair e ks rs i k x y → y.name ≤ x.value + x.size
    go ih jh (own_inside c d n m v) = rw d (let w = forest_lain ks n y f v in omega (arith, w.order, w.high))
    go ih jh (own_past c d n m v) = absurd (no n (omega arith) m v)
    go ih jh (both_inside j n c m v w) =
        ih j n (omega arith) v w (λ o z l r v. let w = b (suc o) z (omega arith) (omega arith) (among_first ks rs o z v) in omega arith)
    go ih jh (inside_past j n c l m v w) = absurd (no n (omega arith) m w)
    go ih jh (both_past j n c m v w) =
        jh j n (omega arith) v w (λ o z l r v. let w = b (suc (length ks + o)) z (omega arith) (omega arith) (late o z v) in omega arith)
