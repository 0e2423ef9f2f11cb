-- Laws of two names compared: the answer from what is known of their units, the rules, and that units further on change nothing. Assumes nothing.
use Prim.Native.Nat.{ℕ, zero, suc, ◌+◌, ◌-◌, ◌*◌, ◌≤◌, ◌<◌}
use mathlib.Core.Path.{◌≡◌, refl, sym, ap, ◌∙◌}
use mathlib.Core.Bool.{Bool, true, false, cond, true≢false}
use mathlib.Core.Logic.{◌↔◌}
use mathlib.Core.List.{List, [], ◌∷◌, ◌++◌}
use native.Mathlib.Omega.{arith}
use native.Mathlib.Numerals.{add-one}
use lib.Dec.{eqb}
use lib.ListN.{length, get_or}
use lib.Seq.{ext_get_or}
use borrow.Author.Count.{below_more}
use borrow.Author.Tests.{eqb-true, eqb-false, eq-eqb, ne_eqb}
use Rattle.format.specs.Bytes.{le_at, same}
use Rattle.format.specs.Text.{units, high_surrogate, replaced, lossy}
use Rattle.format.specs.Comparison.{common_units, differ, alike, comparison, compared}
use Rattle.format.specs.Grammar.Text.{High}
use Rattle.format.specs.Grammar.Comparison.{Tells, unequal, equal, differing, NamesTell, Looked, within, ahead, Reaches}
use Rattle.format.specs.declared.Comparison.{Comparison}
use Rattle.format.proofs.Ground.Tests.{true_same, false_same}
use Rattle.format.proofs.Text.Units.{Stand, length_units, units_at, replaced_plain, lossy_at, length_lossy}
use Rattle.format.proofs.Text.Mended.{true_high, mended_lossy}

-- ---- the units that two names begin with alike

abbrev pub Alike : List ℕ → List ℕ → ℕ → Type 0
Alike a b i = (k : ℕ) → k < i → get_or a k 0 ≡ get_or b k 0

tail_alike : (u v : ℕ) (a b : List ℕ) (i : ℕ) → Alike (u ∷ a) (v ∷ b) (suc i) → Alike a b i
tail_alike u v a b i f k h = f (suc k) (omega arith)

common_most : (a b : List ℕ) → common_units a b ≤ length a
unfolding common_units
common_most [] b = omega arith
common_most (u ∷ a) [] = omega arith
common_most (u ∷ a) (v ∷ b) = go (eqb u v) (common_most a b)
  where
    go : (t : Bool) → common_units a b ≤ length a → cond t (suc (common_units a b)) 0 ≤ suc (length a)
    go true h = omega arith
    go false h = omega arith

-- they are alike
common_alike : (a b : List ℕ) → Alike a b (common_units a b)
unfolding common_units
common_alike [] b = λ k h. absurd (omega arith)
common_alike (u ∷ a) [] = λ k h. absurd (omega arith)
common_alike (u ∷ a) (v ∷ b) = go (eqb u v) refl (common_alike a b)
  where
    go : (t : Bool) → eqb u v ≡ t → Alike a b (common_units a b) → Alike (u ∷ a) (v ∷ b) (cond t (suc (common_units a b)) 0)
    go true e f zero h = eqb-true u v e
    go true e f (suc k) h = f k (omega arith)
    go false e f k h = absurd (omega arith)

-- and there are no more
common_more : (a b : List ℕ) (i : ℕ) → i ≤ length a → i ≤ length b → Alike a b i → i ≤ common_units a b
unfolding common_units
common_more a b zero h g f = omega arith
common_more [] b (suc i) h g f = absurd (omega arith)
common_more (u ∷ a) [] (suc i) h g f = absurd (omega arith)
common_more (u ∷ a) (v ∷ b) (suc i) h g f =
    rw (eq-eqb u v (f 0 (omega arith))) (omega (arith, common_more a b i (omega arith) (omega arith) (tail_alike u v a b i f)))

common_at : (a b : List ℕ) (i : ℕ) → i < length a → i < length b → Alike a b i → (get_or a i 0 ≡ get_or b i 0 → ⊥) → common_units a b ≡ i
unfolding common_units
common_at [] b i h g f d = absurd (omega arith)
common_at (u ∷ a) [] i h g f d = absurd (omega arith)
common_at (u ∷ a) (v ∷ b) zero h g f d = rw (ne_eqb u v d) refl
common_at (u ∷ a) (v ∷ b) (suc i) h g f d =
    rw (eq-eqb u v (f 0 (omega arith))) (ap suc (common_at a b i (omega arith) (omega arith) (tail_alike u v a b i f) d))

common_all : (a b : List ℕ) → length a ≡ length b → Alike a b (length a) → common_units a b ≡ length a
common_all a b e f = omega (arith, common_most a b, common_more a b (length a) (omega arith) (omega (arith, e)) f)

-- ---- the answer, by the units

pub comparison_lengths : (a b : List ℕ) → (length a ≡ length b → ⊥) → comparison a b ≡ differ 0
unfolding comparison
comparison_lengths a b f = rw (ne_eqb (length a) (length b) f) refl

pub comparison_alike : (a b : List ℕ) → length a ≡ length b → Alike a b (length a) → comparison a b ≡ alike (length a)
unfolding comparison
comparison_alike a b e f = rw (eq-eqb (length a) (length b) e, eq-eqb (common_units a b) (length a) (common_all a b e f)) refl

pub comparison_differs : (a b : List ℕ) (i : ℕ) → length a ≡ length b → i < length a → Alike a b i → (get_or a i 0 ≡ get_or b i 0 → ⊥)
    → comparison a b ≡ differ (i + 1)
unfolding comparison
comparison_differs a b i e h f d =
    rw (eq-eqb (length a) (length b) e, common_at a b i h (omega (arith, e)) f d, ne_eqb i (length a) (λ q. omega (arith, q)), add-one) refl

-- one of the three
data Found (a b : List ℕ) : Type 0 where
  lengths : (length a ≡ length b → ⊥) → Found a b
  all : length a ≡ length b → Alike a b (length a) → Found a b
  first : (i : ℕ) → length a ≡ length b → i < length a → Alike a b i → (get_or a i 0 ≡ get_or b i 0 → ⊥) → Found a b

finding : (a b : List ℕ) → Found a b
finding a b = go (eqb (length a) (length b)) refl (eqb (common_units a b) (length a)) refl
  where
    go : (t : Bool) → eqb (length a) (length b) ≡ t → (w : Bool) → eqb (common_units a b) (length a) ≡ w → Found a b
    go false p w q = lengths (eqb-false (length a) (length b) p)
    go true p true q = all (eqb-true (length a) (length b) p) (rw (eqb-true (common_units a b) (length a) q) at (common_alike a b))
    go true p false q =
        let e = eqb-true (length a) (length b) p in
        let n = eqb-false (common_units a b) (length a) q in
        first (common_units a b) e (less n) (common_alike a b) λ d.
        omega (arith, common_more a b (common_units a b + 1) (omega (arith, less n)) (omega (arith, e, less n)) (below_more _ _ (common_alike a b) d))
      where
        less : (common_units a b ≡ length a → ⊥) → common_units a b < length a
        less n = omega (arith, n, common_most a b)

-- every unit up to the first that differs is compared
pub comparison_next : (a b : List ℕ) (i : ℕ) → length a ≡ length b → i < length a → Alike a b i → i < (comparison a b).units
unfolding comparison
comparison_next a b i e h f = rw (eq-eqb (length a) (length b) e) (go (eqb (common_units a b) (length a)))
  where
    go : (t : Bool) → i < (cond t (alike (length a)) (differ (suc (common_units a b)))).units
    go true = h
    go false = omega (arith, common_more a b i (omega arith) (omega (arith, e)) f)

-- and none that there is not
pub comparison_most : (a b : List ℕ) → ((comparison a b).units ≤ length a) × ((comparison a b).units ≤ length b)
comparison_most a b = go (finding a b)
  where
    go : Found a b → ((comparison a b).units ≤ length a) × ((comparison a b).units ≤ length b)
    go (lengths f) = rw (comparison_lengths a b f) (omega arith, omega arith)
    go (all e f) = rw (comparison_alike a b e f) (omega arith, omega (arith, e))
    go (first i e h f d) = rw (comparison_differs a b i e h f d) (omega arith, omega (arith, e))

-- yes and no are those of lists that are equal or not
pub comparison_same : (a b : List ℕ) → (comparison a b).same ≡ same a b
comparison_same a b = go (finding a b)
  where
    go : Found a b → (comparison a b).same ≡ same a b
    go (lengths f) = rw (comparison_lengths a b f) (sym (false_same a b λ q. f (ap length q)))
    go (all e f) = rw (comparison_alike a b e f) (sym (true_same a b (ext_get_or 0 a b e f)))
    go (first i e h f d) = rw (comparison_differs a b i e h f d) (sym (false_same a b λ q. d (ap (λ (l : List ℕ). get_or l i 0) q)))

-- the same, where the lengths are known by other names
module _ (a b : List ℕ) {n m : ℕ} (p : length a ≡ n) (q : length b ≡ m) where
  one_length : n ≡ m → length a ≡ length b
  one_length e = p ∙ (e ∙ sym q)

  pub told_lengths : (n ≡ m → ⊥) → comparison a b ≡ differ 0
  told_lengths f = comparison_lengths a b λ e. f (sym p ∙ (e ∙ q))

  pub told_alike : n ≡ m → Alike a b n → comparison a b ≡ alike n
  told_alike e f = comparison_alike a b (one_length e) (rw p f) ∙ ap alike p

  pub told_differ : (i : ℕ) → n ≡ m → i < n → Alike a b i → (get_or a i 0 ≡ get_or b i 0 → ⊥) → comparison a b ≡ differ (i + 1)
  told_differ i e h f d = comparison_differs a b i (one_length e) (rw p h) f d

  pub told_next : (i : ℕ) → n ≡ m → i < n → Alike a b i → i < (comparison a b).units
  told_next i e h f = comparison_next a b i (one_length e) (rw p h) f

-- ---- names as they stand in a file

pub as_before : (a b : List ℕ) → (compared a b).same ≡ same (lossy a) (lossy b)
as_before a b = comparison_same (lossy a) (lossy b)

-- a name with no surrogate is its own replacement
lossy_plain : (a : List ℕ) → ((k : ℕ) → get_or a k 0 < 0xD800) → lossy a ≡ a
lossy_plain a f = ext_get_or 0 (lossy a) a (length_lossy a) λ k h. lossy_at a k (rw length_lossy at h) ∙ replaced_plain _ _ _ (f k)

pub plain_name : (a b : List ℕ) → ((k : ℕ) → get_or a k 0 < 0xD800) → compared a b ≡ comparison a (lossy b)
plain_name a b f = ap (λ (l : List ℕ). comparison l (lossy b)) (lossy_plain a f)

-- ---- the rules

longer : (u : ℕ) {a b : List ℕ} {t : Bool} {n : ℕ} → Tells a b t n → t ≡ false → 0 < n → Tells (u ∷ a) (u ∷ b) false (suc n)
longer u (unequal f) e h = absurd (omega arith)
longer u equal e h = absurd (true≢false e)
longer u (differing front v w a b d q) e h = differing (u ∷ front) v w a b d q

tells_first : (a b : List ℕ) (i : ℕ) → length a ≡ length b → i < length a → Alike a b i → (get_or a i 0 ≡ get_or b i 0 → ⊥) → Tells a b false (suc i)
tells_first [] b i e h f d = absurd (omega arith)
tells_first (u ∷ a) [] i e h f d = absurd (omega (arith, e))
tells_first (u ∷ a) (v ∷ b) zero e h f d = differing [] u v a b d (omega (arith, e))
tells_first (u ∷ a) (v ∷ b) (suc i) e h f d =
    let t = tells_first a b i (omega (arith, e)) (omega arith) (tail_alike u v a b i f) d in
    rw (← f 0 (omega arith)) (longer u t refl (omega arith))

comparison_tells : (a b : List ℕ) → Tells a b (comparison a b).same (comparison a b).units
comparison_tells a b = go (finding a b)
  where
    go : Found a b → Tells a b (comparison a b).same (comparison a b).units
    go (lengths f) = rw (comparison_lengths a b f) (unequal f)
    go (all e f) = rw (comparison_alike a b e f, ← ext_get_or 0 a b e f) equal
    go (first i e h f d) = rw (comparison_differs a b i e h f d, add-one) (tells_first a b i e h f d)

length_behind : (front : List ℕ) (u v : ℕ) (a b : List ℕ) → length a ≡ length b → length (front ++ u ∷ a) ≡ length (front ++ v ∷ b)
length_behind [] u v a b e = ap suc e
length_behind (x ∷ front) u v a b e = ap suc (length_behind front u v a b e)

common_front : (front : List ℕ) (u v : ℕ) (a b : List ℕ) → (u ≡ v → ⊥) → common_units (front ++ u ∷ a) (front ++ v ∷ b) ≡ length front
unfolding common_units
common_front [] u v a b d = rw (ne_eqb u v d) refl
common_front (x ∷ front) u v a b d = rw (eq-eqb x x refl) (ap suc (common_front front u v a b d))

front_less : (front : List ℕ) (u : ℕ) (a : List ℕ) → length front < length (front ++ u ∷ a)
front_less [] u a = omega arith
front_less (x ∷ front) u a = omega (arith, front_less front u a)

tells_comparison : {a b : List ℕ} {t : Bool} {n : ℕ} → Tells a b t n → ((comparison a b).same ≡ t) × ((comparison a b).units ≡ n)
unfolding comparison
tells_comparison (unequal {a = a} {b = b} f) = rw (comparison_lengths a b f) (refl, refl)
tells_comparison (equal {a = a}) = rw (comparison_alike a a refl λ k h. refl) (refl, refl)
tells_comparison (differing front u v a b d e) =
    rw (
      eq-eqb _ _ (length_behind front u v a b e),
      common_front front u v a b d,
      ne_eqb (length front) (length (front ++ u ∷ a)) (λ q. omega (arith, front_less front u a, q)),
    )
    (refl, refl)

-- what is computed is what the rules tell, and nothing else
pub comparison_is : (a b : List ℕ) (t : Bool) (n : ℕ) → NamesTell a b t n ↔ (((compared a b).same ≡ t) × ((compared a b).units ≡ n))
comparison_is a b t n = (to, from)
  where
    to : NamesTell a b t n → ((comparison (lossy a) (lossy b)).same ≡ t) × ((comparison (lossy a) (lossy b)).units ≡ n)
    to r = rw (← (mended_lossy a _).0 r.first_mended, ← (mended_lossy b _).0 r.second_mended) (tells_comparison r.tells)

    from : ((comparison (lossy a) (lossy b)).same ≡ t) × ((comparison (lossy a) (lossy b)).units ≡ n) → NamesTell a b t n
    from (p, q) = record {
      first = lossy a;
      second = lossy b;
      first_mended = (mended_lossy a _).1 refl;
      second_mended = (mended_lossy b _).1 refl;
      tells = rw (← p, ← q) (comparison_tells (lossy a) (lossy b));
    }

-- ---- what is looked at

pub looked_most : (a : List ℕ) (c k : ℕ) → Looked a c k → k ≤ c
looked_most a c k (within h) = omega arith
looked_most a c k (ahead e h) = omega (arith, e)

-- fewer units compared look at no more
looked_less : {a : List ℕ} {c d k : ℕ} → c ≤ d → Looked a c k → Looked a d k
looked_less {k = k} h (within g) = within {k = k} (omega arith)
looked_less {a = a} {d = d} h (ahead {k = k} e g) = go (eqb d (suc k)) refl
  where
    go : (t : Bool) → eqb d (suc k) ≡ t → Looked a d (suc k)
    go true q = ahead (sym (eqb-true d (suc k) q)) g
    go false q = within {k = suc k} (omega (arith, e, eqb-false d (suc k) q))

-- what stands after a unit that is no high surrogate does not count for it
replaced_next : (p u q r : ℕ) → high_surrogate u ≡ false → replaced p u q ≡ replaced p u r
unfolding replaced
replaced_next p u q r h = rw h refl

-- units that agree where they are looked at are replaced alike
module _ (a b : List ℕ) (c : ℕ) (e : length b ≡ length a) (h : c ≤ length a) (f : (k : ℕ) → Looked a c k → get_or b k 0 ≡ get_or a k 0) where
  before_looked : (k : ℕ) → k < c → get_or (0 ∷ b) k 0 ≡ get_or (0 ∷ a) k 0
  before_looked zero g = refl
  before_looked (suc k) g = f k (within (omega arith))

  after_looked : (p k : ℕ) → k < c → replaced p (get_or a k 0) (get_or b (suc k) 0) ≡ replaced p (get_or a k 0) (get_or a (suc k) 0)
  after_looked p k g = go (high_surrogate (get_or a k 0)) refl (eqb c (suc k)) refl
    where
      go : (t : Bool) → high_surrogate (get_or a k 0) ≡ t → (w : Bool) → eqb c (suc k) ≡ w
          → replaced p (get_or a k 0) (get_or b (suc k) 0) ≡ replaced p (get_or a k 0) (get_or a (suc k) 0)
      go false q w r = replaced_next p _ _ _ q
      go true q true r = ap (replaced p (get_or a k 0)) (f (suc k) (ahead (sym (eqb-true c (suc k) r)) (true_high _ q)))
      go true q false r = ap (replaced p (get_or a k 0)) (f (suc k) (within (omega (arith, eqb-false c (suc k) r))))

  lossy_looked : Alike (lossy b) (lossy a) c
  lossy_looked k g =
      lossy_at b k (omega (arith, e)) ∙ (rw (before_looked k g, f k (within g)) (after_looked _ k g) ∙ sym (lossy_at a k (omega arith)))

-- so they are compared alike
pub no_further : (a b a' b' : List ℕ) → length a' ≡ length a → length b' ≡ length b
    → ((k : ℕ) → Looked a (compared a b).units k → get_or a' k 0 ≡ get_or a k 0)
    → ((k : ℕ) → Looked b (compared a b).units k → get_or b' k 0 ≡ get_or b k 0) → compared a' b' ≡ compared a b
no_further a b a' b' p q f g = go (finding (lossy a) (lossy b))
  where
    c : ℕ
    c = (comparison (lossy a) (lossy b)).units

    m : length (lossy a') ≡ length (lossy a)
    m = length_lossy a' ∙ p ∙ sym (length_lossy a)

    n : length (lossy b') ≡ length (lossy b)
    n = length_lossy b' ∙ q ∙ sym (length_lossy b)

    x : Alike (lossy a') (lossy a) c
    x = lossy_looked a a' c p (omega (arith, (comparison_most (lossy a) (lossy b)).0, length_lossy a)) f

    y : Alike (lossy b') (lossy b) c
    y = lossy_looked b b' c q (omega (arith, (comparison_most (lossy a) (lossy b)).1, length_lossy b)) g

    across : (i : ℕ) → i ≤ c → Alike (lossy a) (lossy b) i → Alike (lossy a') (lossy b') i
    across i h e k l = x k (omega arith) ∙ (e k l ∙ sym (y k (omega arith)))

    apart : (i : ℕ) → i < c → (get_or (lossy a) i 0 ≡ get_or (lossy b) i 0 → ⊥) → get_or (lossy a') i 0 ≡ get_or (lossy b') i 0 → ⊥
    apart i h d z = d (sym (x i h) ∙ (z ∙ y i h))

    go : Found (lossy a) (lossy b) → comparison (lossy a') (lossy b') ≡ comparison (lossy a) (lossy b)
    go (lengths d) = comparison_lengths (lossy a') (lossy b') (λ e. d (sym m ∙ (e ∙ n))) ∙ sym (comparison_lengths (lossy a) (lossy b) d)
    go (all e h) =
        let u = comparison_alike (lossy a) (lossy b) e h in
        comparison_alike (lossy a') (lossy b') (m ∙ (e ∙ sym n)) (rw m (across (length (lossy a)) (omega (arith, ap (λ (z : Comparison). z.units) u)) h))
        ∙ (ap alike m ∙ sym u)
    go (first i e l h d) =
        let u = comparison_differs (lossy a) (lossy b) i e l h d in
        let w = comparison_next (lossy a) (lossy b) i e l h in
        comparison_differs (lossy a') (lossy b') i (m ∙ (e ∙ sym n)) (rw m l) (across i (omega (arith, w)) h) (apart i w d) ∙ sym u

-- ---- what has to lie in the bytes

-- where unit i is among those compared, what comparing up to it looks at lies in the bytes too
pub reaches_less : (s : List ℕ) (at n i c : ℕ) → Reaches s at n c → i < c → Reaches s at n (i + 1)
reaches_less s at n i c r h k g l = r k g (looked_less (omega arith) l)

-- the last unit compared lies in the bytes, and the one after it where it is a high surrogate
pub reaches_unit : (s : List ℕ) (at n i : ℕ) → i < n → Reaches s at n (i + 1) → at + 2 * i + 2 ≤ length s
reaches_unit s at n i h r = r i h (within (omega arith))

pub reaches_after : (s : List ℕ) (at n i : ℕ) → i < n → Reaches s at n (i + 1) → High (le_at 2 s (at + 2 * i)) → i + 1 < n → at + 2 * i + 4 ≤ length s
reaches_after s at n i h r x g =
    let e = units_at n s at i h in
    omega (arith, r (suc i) (omega arith) (ahead {k = i} (omega arith) (rw e x)))

-- ---- names that begin alike as they stand

-- each of those units but the last is replaced alike, and the last too where what follows it is
pub front_alike : (a b : List ℕ) (c : ℕ) → length b ≡ length a → c ≤ length a → Alike b a c → Alike (lossy b) (lossy a) (c - 1)
front_alike a b zero e h f k g = absurd (omega arith)
front_alike a b (suc c) e h f k g = lossy_looked a b c e (omega arith) (λ j l. f j (omega (arith, looked_most a c j l))) k (omega arith)

pub stand_alike : (s : List ℕ) (at from n c : ℕ) → c ≤ n → Stand s at from c → Alike (lossy (units n s at)) (lossy (units n s from)) (c - 1)
stand_alike s at from n c h f =
    front_alike (units n s from) (units n s at) c (length_units n s at ∙ sym (length_units n s from)) (rw length_units h) λ k g.
    units_at n s at k (omega arith) ∙ (f k g ∙ sym (units_at n s from k (omega arith)))
