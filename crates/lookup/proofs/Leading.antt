-- Laws of levels in which each child is the first of its name, and of the marks that names leave. Assumes nothing.
use Prim.Native.Nat.{ℕ, zero, suc, ◌+◌, ◌-◌, ◌*◌, ◌/◌, ◌%◌, ◌^◌, ◌≤◌, ◌<◌}
use mathlib.Core.Path.{◌≡◌, refl, sym, ap, ◌∙◌}
use mathlib.Core.Bool.{Bool, true, false, true≢false}
use mathlib.Core.Option.{Option, none, some}
use mathlib.Core.List.{List}
use native.Mathlib.Decide.{dec_lt, ℕ_discrete}
use native.Mathlib.Nat.{add-zero, pow-succ', div-one, div-div-eq-div-mul}
use native.Mathlib.Omega.{arith}
use lib.Dec.{eqb}
use lib.ListN.{length}
use borrow.Author.Tests.{eq-eqb, ne_eqb, eqb-true}
use Rattle.format.proofs.Ground.Tests.{and_left, and_right, same_true, same_refl}
use Rattle.format.specs.Numbers.{one_if}
use Rattle.format.specs.Values.{name_of}
use Rattle.format.specs.declared.Entry.{Entry}
use Rattle.lookup.specs.Hash.{hash_of, key_of, Marked}
use Rattle.lookup.specs.Table.{Ordered, Run, child_named, last_named, is_none}
use Rattle.lookup.specs.Walks.{leads, PartLeads, Seen, bit}
use Rattle.lookup.specs.Values.{unnamed_child, kids, head_of}
use Rattle.lookup.proofs.Between.{Foremost, between_first, between_empty}
use Rattle.lookup.proofs.Lists.{no_name, some_name}
use Rattle.lookup.proofs.Rows.{child_after}
use Rattle.lookup.proofs.Search.{last_until, last_yes, last_nowhere, nowhere_last, sought_on}

-- ---- what a name that is borne says

fails : (b : Bool) → (b ≡ true → ⊥) → b ≡ false
fails true h = absurd (h refl)
fails false h = refl

module _ (s : List ℕ) (e : ℕ → Entry) (p : ℕ) where
  borne_child : (m : List ℕ) (k : ℕ) → child_named s e p m k ≡ true → (e k).parent ≡ p
  borne_child m k h = eqb-true _ _ (and_left (eqb (e k).parent p) _ h)

  borne_name : (m : List ℕ) (k : ℕ) → child_named s e p m k ≡ true → m ≡ name_of s (e k)
  borne_name m k h = same_true _ _ (and_right (eqb (e k).parent p) _ h)

  bears_own : (k : ℕ) → (e k).parent ≡ p → child_named s e p (name_of s (e k)) k ≡ true
  bears_own k h = rw (eq-eqb _ _ h, same_refl) refl

  none_is : (o : Option ℕ) → is_none o ≡ true → o ≡ none
  none_is none h = refl
  none_is (some i) h = absurd (true≢false (sym h))

  leads_none : (k : ℕ) → leads s e p k ≡ true → last_named s e p (name_of s (e k)) k ≡ none
  unfolding leads
  leads_none k h = none_is _ (and_right (eqb (e k).parent p) _ h)

  none_leads : (k : ℕ) → (e k).parent ≡ p → last_named s e p (name_of s (e k)) k ≡ none → leads s e p k ≡ true
  unfolding leads
  none_leads k h z = rw (eq-eqb _ _ h, z) refl

  pub leads_child : (k : ℕ) → leads s e p k ≡ true → (e k).parent ≡ p
  unfolding leads
  leads_child k h = eqb-true _ _ (and_left (eqb (e k).parent p) _ h)

  -- up to the end of what lies below it, a child is the last of its name; r is its entry
  pub last_own : (n i j : ℕ) → p ≤ i → Run e n (i + 1) j → (e i).parent ≡ p → (r : Entry) → r ≡ e i → some i ≡ last_named s e p (name_of s r) j
  last_own n i j l q h r z =
      let y = sym (last_yes s e p (name_of s (e i)) i (bears_own i h)) in
      rw z ((sought_on s e p (name_of s (e i)) n j i j (some i) (omega (arith, q.below.low)) l q y).by (omega arith))

  -- two entries of one name: with a name both
  both_named : (i k : ℕ) → name_of s (e i) ≡ name_of s (e k) → ((e i).units ≡ 0 → ⊥) → (e k).units ≡ 0 → ⊥
  both_named i k q h z = let l = some_name s (e i) h in omega (arith, ap length (q ∙ no_name s (e k) z), l)

  -- where a part's names come once, each is the last of its name too
  pub last_alone : (r parts i : ℕ) → PartLeads s e p r parts (key_of (name_of s (e i)) % parts) → p ≤ i → i < r → (e i).parent ≡ p → ((e i).units ≡ 0 → ⊥)
      → last_named s e p (name_of s (e i)) r ≡ some i
  last_alone r parts i a l k h u =
      last_until s e p (name_of s (e i)) (i + 1) r (omega arith) (λ j b c. fails _ (other j b c)) ∙ last_yes s e p (name_of s (e i)) i (bears_own i h)
    where
      other : (j : ℕ) → i + 1 ≤ j → j < r → child_named s e p (name_of s (e i)) j ≡ true → ⊥
      other j b c z =
          let q = borne_name _ j z in
          let x = leads_none j (a j (omega arith) c (sym (ap (λ (n : List ℕ). key_of n % parts) q)) (borne_child _ j z) (both_named i j q u)) in
          let y : child_named s e p (name_of s (e i)) i ≡ false = rw (sym q) at (nowhere_last s e p _ j x i (omega arith)) in
          true≢false (sym (bears_own i h) ∙ y)

  -- ---- children without a name

  -- the first of them leads, and no other
  module _ (i : ℕ) (h : (e i).parent ≡ p) (u : (e i).units ≡ 0) where
    unnamed_leads : ((k : ℕ) → k < i → (e k).parent ≡ p → (e k).units ≡ 0 → ⊥) → leads s e p i ≡ true
    unnamed_leads f = none_leads i h (last_nowhere s e p (name_of s (e i)) i (λ k l. fails _ (λ z. f k l (borne_child _ k z) (bare k (borne_name _ k z)))))
      where
        bare : (k : ℕ) → name_of s (e i) ≡ name_of s (e k) → (e k).units ≡ 0
        bare k q = go (ℕ_discrete (e k).units 0)
          where
            go : Dec ((e k).units ≡ 0) → (e k).units ≡ 0
            go (yes y) = y
            go (no y) = absurd (both_named k i (sym q) y u)

    unnamed_follows : (k : ℕ) → k < i → (e k).parent ≡ p → (e k).units ≡ 0 → leads s e p i ≡ false
    unnamed_follows k l g w = fails _ λ z.
        let q : name_of s (e i) ≡ name_of s (e k) = no_name s (e i) u ∙ sym (no_name s (e k) w) in
        let y = rw q at (nowhere_last s e p _ i (leads_none i z) k l) in
        true≢false (sym (bears_own k g) ∙ y)

  module _ (n : ℕ) (o : Ordered e n) (m : p ≤ n) where
    test : (k : ℕ) → (e k).parent ≡ p → (e k).units ≡ 0 → unnamed_child p (e k) ≡ true
    test k a b = rw (eq-eqb _ _ a, eq-eqb _ _ b) refl

    child_from : (k : ℕ) → k < n → (e k).parent ≡ p → p ≤ k
    child_from k l a = let x = o.older k l in omega arith

    -- j is the first of them
    pub first_leads : (j : ℕ) → some j ≡ head_of (kids e p p n) → (i : ℕ) → i < n → (e i).parent ≡ p → (e i).units ≡ 0 → eqb i j ≡ leads s e p i
    unfolding kids
    first_leads j q i l h u = go (ℕ_discrete i j)
      where
        w : Foremost (λ k. unnamed_child p (e k)) p n j
        w = between_first (λ k. unnamed_child p (e k)) p n j m q

        before : (k : ℕ) → k < j → (e k).parent ≡ p → (e k).units ≡ 0 → ⊥
        before k a b c = true≢false (sym (test k b c) ∙ w.before k (child_from k (omega (arith, w.high)) b) a)

        later : (i ≡ j → ⊥) → Dec (i < j) → j < i
        later y (yes z) = absurd (before i z h u)
        later y (no z) = omega (arith, y, z)

        go : Dec (i ≡ j) → eqb i j ≡ leads s e p i
        go (yes y) = rw (eq-eqb _ _ y) (sym (unnamed_leads i h u (λ k a b c. before k (omega arith) b c)))
        go (no y) =
            rw (ne_eqb _ _ y)
            (sym (unnamed_follows i h u j (later y (dec_lt i j)) (eqb-true _ _ (and_left (eqb (e j).parent p) _ w.passes))
            (eqb-true _ _ (and_right (eqb (e j).parent p) _ w.passes))))

    -- there is none
    pub none_leads_there : none ≡ head_of (kids e p p n) → (i : ℕ) → i < n → (e i).parent ≡ p → (e i).units ≡ 0 → ⊥
    unfolding kids
    none_leads_there q i l h u = true≢false (sym (test i h u) ∙ between_empty (λ k. unnamed_child p (e k)) p n q i (child_from i l h) l)

  -- ---- marks

  module _ (parts part : ℕ) where
    -- entry i is passed, and marks stay
    pub seen_more : (i : ℕ) (marks marks' : List ℕ) → Seen s e p parts part i marks → ((g : ℕ) → Marked marks g → Marked marks' g)
        → (key_of (name_of s (e i)) % parts ≡ part → (e i).parent ≡ p → ((e i).units ≡ 0 → ⊥)
        → (leads s e p i ≡ true) × Marked marks' (hash_of (name_of s (e i))))
        → Seen s e p parts part (i + 1) marks'
    seen_more i marks marks' h m f = record { leading = λ k a b. go k a b (dec_lt k i); marked = λ k a b. at k a b (dec_lt k i) }
      where
        go : (k : ℕ) → p ≤ k → k < i + 1 → Dec (k < i) → key_of (name_of s (e k)) % parts ≡ part → (e k).parent ≡ p → ((e k).units ≡ 0 → ⊥)
            → leads s e p k ≡ true
        go k a b (yes y) c d u = h.leading k a y c d u
        go k a b (no y) c d u = let x : k ≡ i = omega (arith, y) in rw x (f (rw x at c) (rw x at d) (rw x at u)).0

        at : (k : ℕ) → p ≤ k → k < i + 1 → Dec (k < i) → key_of (name_of s (e k)) % parts ≡ part → (e k).parent ≡ p → ((e k).units ≡ 0 → ⊥)
            → Marked marks' (hash_of (name_of s (e k)))
        at k a b (yes y) c d u = m _ (h.marked k a y c d u)
        at k a b (no y) c d u = let x : k ≡ i = omega (arith, y) in rw x (f (rw x at c) (rw x at d) (rw x at u)).1

    -- with no mark there, no child before has the name
    pub new_leads : (n i : ℕ) (marks : List ℕ) → Ordered e n → i < n → Seen s e p parts part i marks → key_of (name_of s (e i)) % parts ≡ part
        → (e i).parent ≡ p → ((e i).units ≡ 0 → ⊥) → (Marked marks (hash_of (name_of s (e i))) → ⊥) → leads s e p i ≡ true
    new_leads n i marks o l h c d u f = none_leads i d (last_nowhere s e p (name_of s (e i)) i (λ k a. fails _ (other k a)))
      where
        other : (k : ℕ) → k < i → child_named s e p (name_of s (e i)) k ≡ true → ⊥
        other k a z = go (dec_lt k p)
          where
            name : name_of s (e i) ≡ name_of s (e k)
            name = borne_name _ k z

            go : Dec (k < p) → ⊥
            go (yes y) = child_after e n p o k (omega arith) y (borne_child _ k z)
            go (no y) = f (rw name (h.marked k (omega (arith, y)) a (rw (← name) c) (borne_child _ k z) (both_named i k name u)))

-- ---- bits

-- one bit more in front
halved : (n b k : ℕ) → b ≤ 1 → bit (2 * n + b) (suc k) ≡ bit n k
halved n b k l =
    let x : 2 ^ suc k ≡ 2 * 2 ^ k = pow-succ' 2 k in
    let y : (2 * n + b) / 2 ≡ n = omega arith in
    rw (x, ← div-div-eq-div-mul (2 * n + b) 2 (2 ^ k), y) refl

module _ (P : ℕ → Type 0) (n part : ℕ) (l : 0 < part) (h : (k : ℕ) → bit n k ≡ 1 → P (part + k)) where
  pub with_bit : (b : ℕ) → b ≤ 1 → (b ≡ 1 → P (part - 1)) → (k : ℕ) → bit (2 * n + b) k ≡ 1 → P (part - 1 + k)
  with_bit b m g zero q = rw add-zero (g (let x : (2 * n + b) / 2 ^ 0 ≡ 2 * n + b = div-one (2 * n + b) in omega arith))
  with_bit b m g (suc k) q = let x : part - 1 + suc k ≡ part + k = omega arith in rw x (h k (sym (halved n b k m) ∙ q))

-- a flag as a bit
pub flag_small : (b : Bool) → one_if b ≤ 1
flag_small true = omega arith
flag_small false = omega arith

pub flag_one : (b : Bool) → one_if b ≡ 1 → b ≡ true
flag_one true h = refl
flag_one false h = absurd (omega arith)

-- a bit for each part so far
pub bits_more : (n parts part : ℕ) → 0 < part → part ≤ parts → n < 2 ^ (parts - part) → 2 * n + 1 < 2 ^ (parts - (part - 1))
bits_more n parts part l m h =
    let x : parts - (part - 1) ≡ suc (parts - part) = omega arith in
    let y : 2 ^ suc (parts - part) ≡ 2 * 2 ^ (parts - part) = pow-succ' 2 (parts - part) in
    rw (x, y) (omega arith)
