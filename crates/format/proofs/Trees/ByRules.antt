-- The grammar's trees are those that are read. Assumes nothing.
use Prim.Native.Nat.{ℕ, zero, suc, ◌+◌, ◌-◌, ◌*◌, ◌/◌, ◌≤◌, ◌<◌}
use mathlib.Core.Path.{◌≡◌, refl, sym, ap, ◌∙◌, subst}
use mathlib.Core.Bool.{Bool, true, false, cond, not, ◌||◌, ◌&&◌, true≢false}
use mathlib.Core.Option.{none, some}
use mathlib.Core.List.{List, [], ◌∷◌, ◌++◌, append-nil}
use native.Mathlib.Omega.{arith}
use lib.Dec.{eqb, ltb, leb}
use lib.ListN.{length, get_or, length-append}
use borrow.Author.Tests.{ltb-true, ltb-false, lt-ltb, le-ltb, leb-true, leb-false, le-leb, lt-leb, eqb-true, eqb-false, eq-eqb, ne_eqb, not-false, not-true}
use Rattle.format.proofs.Ground.Tests.{and_left, and_right, and_none, or_left, or_right, or_none}
use Rattle.format.proofs.Trees.PickedReading.{pick_by, stop_if_by}
use Rattle.format.specs.Bytes.{le_at, part}
use Rattle.format.specs.Text.{units}
use Rattle.format.specs.declared.Range.{Range}
use Rattle.format.specs.Trees.{Stop, at, fault, Read, ends, entered, pick, stop_if, follow, then, fixed_value, text_units, text_value, bytes_value}
use Rattle.format.specs.Trees.{level_end, Children, children_or9, level_value, fixed_len, value, known, ChildrenAt, entry_of, record_at, records}
use Rattle.format.specs.Trees.{children_at, read, tree_in, most_items, most_depth, packed_type}
use Rattle.format.specs.Grammar.Lists.{In}
use Rattle.format.specs.Grammar.Lists.{here as first, behind as further}
use Rattle.format.specs.Grammar.Trees.{value_start, Head, Fixed, bool, i32, u32, i64, u64, f64, pointer, Units, Plain, fixed, text_ended}
use Rattle.format.specs.Grammar.Trees.{text_cut, bytes, count_at, kids_from, kids_to, level_to, Level, NameUnits, unnamed, but_last, EntryOf}
use Rattle.format.specs.Grammar.Trees.{Records, counted, quiet, plain, nested, Kind, of_value, of_level, Judged, Wrong, packed_type_is, type_0}
use Rattle.format.specs.Grammar.Trees.{type_10, name_cut, unknown, number_cut, bytes_cut, count_cut, items_over, length_cut, length_under}
use Rattle.format.specs.Grammar.Trees.{kids_cut, too_deep, Faults, here, behind_plain, behind_level, inside, skip_cut, Passes, none_yet, this}
use Rattle.format.specs.Grammar.Trees.{this_and_more, this_and_inside, level_and_more, PassedIn, Tree, Faulty}
use Rattle.format.specs.Refusals as why
use Rattle.format.specs.declared.Entry.{Entry}

-- ---- a test that fails or passes

picked : (r s : Unit {0} → Read) (b : Bool) (y : Read) → b ≡ true → r tt ≡ y → pick b r s ≡ y
unfolding pick
picked r s true y e f = f
picked r s false y e f = absurd (true≢false (sym e))

passed : (r s : Unit {0} → Read) (b : Bool) (y : Read) → b ≡ false → s tt ≡ y → pick b r s ≡ y
unfolding pick
passed r s true y e f = absurd (true≢false e)
passed r s false y e f = f

stopped : (r : Unit {0} → Read) (b : Bool) (n : ℕ) → b ≡ true → stop_if b n r ≡ ends (fault n)
unfolding stop_if
stopped r true n e = refl
stopped r false n e = absurd (true≢false (sym e))

going : (r : Unit {0} → Read) (b : Bool) (n : ℕ) (y : Read) → b ≡ false → r tt ≡ y → stop_if b n r ≡ y
unfolding stop_if
going r true n y e f = absurd (true≢false e)
going r false n y e f = f

-- ---- text

units_rest : (d : List ℕ) (v n : ℕ) → Units d v (suc n) → Units d (v + 2) n
units_rest d v n u j h e = let q : v + 2 * suc j ≡ v + 2 + 2 * j = omega arith in u (suc j) (omega arith) (rw q e)

units_first : (d : List ℕ) (v n : ℕ) → Units d v (suc n) → le_at 2 d v ≡ 0 → ⊥
units_first d v n u e = let q : v + 2 * 0 ≡ v = omega arith in u 0 (omega arith) (rw q e)

units_more : (d : List ℕ) (v n : ℕ) → (le_at 2 d v ≡ 0 → ⊥) → Units d (v + 2) n → Units d v (suc n)
units_more d v n f u zero h e = let q : v + 2 * 0 ≡ v = omega arith in f (rw q at e)
units_more d v n f u (suc j) h e = let q : v + 2 * suc j ≡ v + 2 + 2 * j = omega arith in u j (omega arith) (rw q at e)

pub text_count : (n m : ℕ) (d : List ℕ) (v : ℕ) → Units d v n → n ≤ m → (n < m → le_at 2 d (v + 2 * n) ≡ 0) → text_units (units m d v) ≡ n
unfolding text_units units
text_count zero zero d v u h z = refl
text_count (suc n) zero d v u h z = absurd (omega arith)
text_count zero (suc m) d v u h z = let e : v + 2 * 0 ≡ v = omega arith in rw (eq-eqb (le_at 2 d v) 0 (rw e at (z (omega arith)))) refl
text_count (suc n) (suc m) d v u h z =
    let q : v + 2 * suc n ≡ v + 2 + 2 * n = omega arith in
    let more = text_count n m d (v + 2) (units_rest d v n u) (omega arith) (λ l. rw q at (z (omega arith))) in
    rw (ne_eqb (le_at 2 d v) 0 (units_first d v n u)) (ap suc more)

-- what `text_units` counts
count_text : (m : ℕ) (d : List ℕ) (v : ℕ)
    → Units d v (text_units (units m d v)) × (text_units (units m d v) ≤ m) × (text_units (units m d v) < m → le_at 2 d (v + 2 * text_units (units m d v)) ≡ 0)
unfolding text_units units
count_text zero d v = ((λ j h. omega arith), omega arith, (λ h. absurd (omega arith)))
count_text (suc m) d v = go (eqb (le_at 2 d v) 0) refl (text_units (units m d (v + 2))) (count_text m d (v + 2))
  where
    go : (b : Bool) → eqb (le_at 2 d v) 0 ≡ b → (n : ℕ) → Units d (v + 2) n × (n ≤ m) × (n < m → le_at 2 d (v + 2 + 2 * n) ≡ 0)
        → Units d v (cond b 0 (suc n)) × (cond b 0 (suc n) ≤ suc m) × (cond b 0 (suc n) < suc m → le_at 2 d (v + 2 * cond b 0 (suc n)) ≡ 0)
    go true q n r = ((λ j h. omega arith), omega arith, (λ h. let e : v + 2 * 0 ≡ v = omega arith in rw e (eqb-true _ _ q)))
    go false q n r = (
      units_more d v n (eqb-false _ _ q) r.0,
      omega (arith, r.1),
      (λ h. let e : v + 2 * suc n ≡ v + 2 + 2 * n = omega arith in rw e (r.2 (omega arith))),
    )

-- ---- values that are no levels

module _ (d : List ℕ) (e v : ℕ) (entry : ℕ → ℕ → Entry) where
  fixed_read : (n : ℕ) → v + n ≤ e → fixed_value n v e entry ≡ entered (entry v n) (at (v + n))
  unfolding fixed_value
  fixed_read n h = rw (le-leb (v + n) e h) refl

  text_read : (n p : ℕ) → text_units (units ((e - v) / 2) d v) ≡ n → cond (leb (v + 2 * n + 2) e) (v + 2 * n + 2) (v + 2 * n) ≡ p
      → text_value d v e entry ≡ entered (entry v (2 * n)) (at p)
  unfolding text_value
  text_read n p q r = rw (q, r) refl

  bytes_read : v + 8 + le_at 8 d v ≤ e → bytes_value d v e entry ≡ entered (entry (v + 8) (le_at 8 d v)) (at (v + 8 + le_at 8 d v))
  unfolding bytes_value
  bytes_read h = let l : v + 8 ≤ e = omega arith in rw (le-leb (v + 8) e l, le-leb (v + 8 + le_at 8 d v) e h) refl

  plain_read : (c : Children) (start k from len p : ℕ) → Plain d e v k from len p → value d c k start v e entry ≡ entered (entry from len) (at p)
  unfolding value
  plain_read c start k from len p (fixed bool h) = fixed_read 1 h
  plain_read c start k from len p (fixed i32 h) = fixed_read 4 h
  plain_read c start k from len p (fixed u32 h) = fixed_read 4 h
  plain_read c start k from len p (fixed i64 h) = fixed_read 8 h
  plain_read c start k from len p (fixed u64 h) = fixed_read 8 h
  plain_read c start k from len p (fixed f64 h) = fixed_read 8 h
  plain_read c start k from len p (fixed pointer h) = fixed_read 8 h
  plain_read c start k from len p (text_ended n u z h) =
      text_read n (v + 2 * n + 2) (text_count n ((e - v) / 2) d v u (omega arith) (λ l. z)) (rw (le-leb (v + 2 * n + 2) e h) refl)
  plain_read c start k from len p (text_cut n u h₁ h₂) =
      text_read n (v + 2 * n) (text_count n ((e - v) / 2) d v u (omega arith) (λ l. absurd (omega arith))) (rw (lt-leb (v + 2 * n + 2) e h₂) refl)
  plain_read c start k from len p (bytes h) = bytes_read h

-- a type that no test of a record's head stops
record Known (k : ℕ) : Type 0 where
  not_packed : eqb k packed_type ≡ false
  not_early : (eqb k 0 || eqb k 10) ≡ false
  is_known : known k ≡ true

fixed_known : (k n : ℕ) → Fixed k n → Known k
unfolding known
fixed_known k n bool = record { not_packed = refl; not_early = refl; is_known = refl }
fixed_known k n i32 = record { not_packed = refl; not_early = refl; is_known = refl }
fixed_known k n u32 = record { not_packed = refl; not_early = refl; is_known = refl }
fixed_known k n i64 = record { not_packed = refl; not_early = refl; is_known = refl }
fixed_known k n u64 = record { not_packed = refl; not_early = refl; is_known = refl }
fixed_known k n f64 = record { not_packed = refl; not_early = refl; is_known = refl }
fixed_known k n pointer = record { not_packed = refl; not_early = refl; is_known = refl }

plain_known : (d : List ℕ) (e v k from len p : ℕ) → Plain d e v k from len p → Known k
unfolding known
plain_known d e v k from len p (fixed {n} w h) = fixed_known k n w
plain_known d e v k from len p (text_ended n u z h) = record { not_packed = refl; not_early = refl; is_known = refl }
plain_known d e v k from len p (text_cut n u h₁ h₂) = record { not_packed = refl; not_early = refl; is_known = refl }
plain_known d e v k from len p (bytes h) = record { not_packed = refl; not_early = refl; is_known = refl }

level_known : Known 11
unfolding known
level_known = record { not_packed = refl; not_early = refl; is_known = refl }

bytes_known : Known 9
unfolding known
bytes_known = record { not_packed = refl; not_early = refl; is_known = refl }

kind_known : (k : ℕ) → Kind k → Known k
unfolding known
kind_known k (of_value h₁ h₂) =
    record {
      not_packed = ne_eqb k packed_type (λ z. omega arith);
      not_early = or_none (eqb k 0) (eqb k 10) (ne_eqb k 0 (λ z. omega arith)) (ne_eqb k 10 (λ z. omega arith));
      is_known = rw (le-leb 1 k h₁, le-leb k 9 h₂) refl;
    }
kind_known k of_level = level_known

known_value : (k : ℕ) → known k ≡ true → eqb k 11 ≡ false → (leb 1 k && leb k 9) ≡ true
unfolding known
known_value k a b = go (leb 1 k && leb k 9) (eqb k 11) a b
  where
    go : (p q : Bool) → (p || q) ≡ true → q ≡ false → p ≡ true
    go true q e f = refl
    go false q e f = absurd (true≢false (sym e ∙ f))

known_least : (k : ℕ) → known k ≡ true → eqb k 11 ≡ false → 1 ≤ k
known_least k a b = leb-true 1 k (and_left (leb 1 k) (leb k 9) (known_value k a b))

known_most : (k : ℕ) → known k ≡ true → eqb k 11 ≡ false → k ≤ 9
known_most k a b = leb-true k 9 (and_right (leb 1 k) (leb k 9) (known_value k a b))

-- a type passes the test exactly where it is known
known_kind : (k : ℕ) → known k ≡ true → Kind k
known_kind k a = go (eqb k 11) refl
  where
    go : (b : Bool) → eqb k 11 ≡ b → Kind k
    go true q = rw (eqb-true k 11 q) of_level
    go false q = of_value (known_least k a q) (known_most k a q)

unknown_false : (k : ℕ) → (Kind k → ⊥) → known k ≡ false
unknown_false k u = go (known k) refl
  where
    go : (b : Bool) → known k ≡ b → b ≡ false
    go true q = absurd (u (known_kind k q))
    go false q = refl

-- ---- entries

units_read : (n : ℕ) → NameUnits n (n - 1)
units_read zero = unnamed
units_read (suc n) = let z : suc n - 1 ≡ n = omega arith in rw z but_last

read_units : {n m : ℕ} → NameUnits n m → m ≡ n - 1
read_units unnamed = refl
read_units (but_last {n}) = omega arith

module _ (d : List ℕ) (base parent i from len : ℕ) where
  -- the entry that is computed is the grammar's, and no other is
  pub entry_made : EntryOf d base parent i from len (entry_of d base parent i from len)
  entry_made = record { kind = refl; name = refl; units = units_read (get_or d (i + 1) 0); value = refl; size = refl; parent_is = refl }

  pub entry_is : (en : Entry) → EntryOf d base parent i from len en → en ≡ entry_of d base parent i from len
  entry_is en x =
      let u = read_units x.units in
      λ k. record { kind = x.kind k; name = x.name k; units = u k; value = x.value k; size = x.size k; parent = x.parent_is k }

module _ (d : List ℕ) (base : ℕ) where
  -- a record whose head passes is its value
  head_read : (c : ChildrenAt) (parent used i e k : ℕ) (y : Read) → Head d i e k → Known k
      → value d (c used) k i (value_start d i) e (entry_of d base parent i) ≡ y → record_at d base c parent used i e ≡ y
  unfolding record_at
  head_read c parent used i e k y h w f =
      let q = h.kind in
      going _ (eqb (get_or d i 0) packed_type) 8 _ (rw q w.not_packed)
      (going _ (eqb (get_or d i 0) 0 || eqb (get_or d i 0) 10) 7 _ (rw q w.not_early)
      (going _ (ltb e (value_start d i)) 6 _ (le-ltb _ _ h.name_within)
      (going _ (not (known (get_or d i 0))) 7 _ (rw (q, w.is_known) refl)
      (ap (λ (k : ℕ). value d (c used) k i (value_start d i) e (entry_of d base parent i)) q ∙ f))))

  -- the value of a level whose head passes is its entry, and what its children and its end come to
  level_read : (c : Children) (parent i e : ℕ) → Level d i e
      → value d c 11 i (value_start d i) e (entry_of d base parent i) ≡ children_or9 c (count_at d i) (kids_from d i) (kids_to d i) (entry_of d base parent i) e
  unfolding value level_value
  level_read c parent i e l =
      let h₁ = l.header_within in
      passed _ _ (ltb e (value_start d i + 4)) _ (le-ltb e (value_start d i + 4) (omega arith))
      (passed _ _ (ltb most_items (count_at d i)) _ (le-ltb most_items (count_at d i) l.items_most)
      (passed _ _ (ltb e (kids_from d i)) _ (le-ltb e (kids_from d i) l.header_within)
      (passed _ _ (ltb (kids_to d i) (kids_from d i)) _ (le-ltb (kids_to d i) (kids_from d i) l.length_least)
      (passed _ _ (ltb e (kids_to d i)) _ (le-ltb e (kids_to d i) l.kids_within) refl))))

  -- a reading that goes on
  then_read : (r : Read) (k : ℕ → ℕ → Read) (es fs : List Entry) (p : ℕ) (t : Stop) → r ≡ record { entries = es; stop = at p }
      → k (length es) p ≡ record { entries = fs; stop = t } → then r k ≡ record { entries = es ++ fs; stop = t }
  unfolding follow
  then_read r k es fs p t e f = rw (e, f) refl

  kids_read : (f : ℕ → ℕ → ℕ → Read) (count from to : ℕ) (entry : ℕ → ℕ → Entry) (e : ℕ) (ks : List Entry) (p : ℕ)
      → f count from to ≡ record { entries = ks; stop = at p } → to + 8 * count ≤ e
      → children_or9 (some f) count from to entry e ≡ record { entries = entry from (to - from) ∷ ks; stop = at (to + 8 * count) }
  unfolding children_or9 level_end
  kids_read f count from to entry e ks p q h = rw (q, le-leb (to + 8 * count) e h, append-nil) refl

  -- a record that is no level, whole
  plain_one : (left parent used i e k from len p : ℕ) → Head d i e k → Plain d e (value_start d i) k from len p
      → record_at d base (children_at left d base) parent used i e ≡ entered (entry_of d base parent i from len) (at p)
  plain_one left parent used i e k from len p h v =
      head_read (children_at left d base) parent used i e k _ h (plain_known d e (value_start d i) k from len p v)
      (plain_read d e (value_start d i) (entry_of d base parent i) (children_at left d base used) i k from len p v)

  -- what reads the children of a level whose entry comes after `used` others
  abbrev kids_of : ℕ → ℕ → ℕ → ℕ → ℕ → Read
  kids_of left used count from to = records d base (children_at left d base) (suc used) count (suc used) from to

  -- the record of a level, from its children
  level_one : (left parent used i e : ℕ) → Level d i e
      → record_at d base (children_at (suc left) d base) parent used i e
      ≡ children_or9 (some (kids_of left used)) (count_at d i) (kids_from d i) (kids_to d i) (entry_of d base parent i) e
  unfolding children_at
  level_one left parent used i e l =
      head_read (children_at (suc left) d base) parent used i e 11 _ l.head level_known (level_read (children_at (suc left) d base used) parent i e l)

  records_read : (left parent count used i e : ℕ) (es : List Entry) (p : ℕ) → Records d base left parent count used i e es p
      → records d base (children_at left d base) parent count used i e ≡ record { entries = es; stop = at p }
  unfolding records children_at
  records_read left parent count used i e es p counted = refl
  records_read left parent count used i e es p (quiet h) = picked _ _ (ltb e (i + 2)) _ (lt-ltb _ _ h) refl
  records_read left parent count used i e es p (plain {count = n} {k = k} {from} {len} {p = q} {en = en} {es = fs} h v x r) =
      rw (entry_is d base parent i from len en x)
      (passed _ _ (ltb e (i + 2)) _ (le-ltb e (i + 2) (omega (arith, h.name_within)))
      (then_read (record_at d base (children_at left d base) parent used i e) _ (entry_of d base parent i from len ∷ []) fs q (at p)
      (plain_one left parent used i e k from len q h v) (records_read left parent n (used + 1) q e fs p r)))
  records_read left parent count used i e es p (nested {left = m} {count = n} {p = q} {en = en} {ks = ks} {es = fs} l x kr h r) =
      rw (entry_is d base parent i (kids_from d i) (kids_to d i - kids_from d i) en x)
      (passed _ _ (ltb e (i + 2)) _ (le-ltb e (i + 2) (omega (arith, l.head.name_within)))
      (then_read (record_at d base (children_at left d base) parent used i e) _
      (entry_of d base parent i (kids_from d i) (kids_to d i - kids_from d i) ∷ ks) fs (level_to d i) (at p)
      (level_one m parent used i e l
      ∙ kids_read (kids_of m used) (count_at d i) (kids_from d i) (kids_to d i) (entry_of d base parent i) e ks q
      (records_read m (suc used) (count_at d i) (suc used) (kids_from d i) (kids_to d i) ks q kr) h)
      (records_read left parent n (used + suc (length ks)) (level_to d i) e fs p r)))

  -- ---- faults
  then_stop : (r : Read) (k : ℕ → ℕ → Read) (es : List Entry) (p : ℕ) (t : Stop) → r ≡ record { entries = es; stop = at p }
      → (k (length es) p).stop ≡ t → (then r k).stop ≡ t
  unfolding follow
  then_stop r k es p t e f = rw (e, f) refl

  then_fault : (r : Read) (k : ℕ → ℕ → Read) (n : ℕ) → r.stop ≡ fault n → (then r k).stop ≡ fault n
  unfolding follow
  then_fault r k n e = rw e refl

  kids_fault : (f : ℕ → ℕ → ℕ → Read) (count from to : ℕ) (entry : ℕ → ℕ → Entry) (e n : ℕ) → (f count from to).stop ≡ fault n
      → (children_or9 (some f) count from to entry e).stop ≡ fault n
  unfolding children_or9
  kids_fault f count from to entry e n q = rw q refl

  -- the children are read, and the bytes behind them are too few
  skip_fault : (f : ℕ → ℕ → ℕ → Read) (count from to : ℕ) (entry : ℕ → ℕ → Entry) (e : ℕ) (ks : List Entry) (p : ℕ)
      → f count from to ≡ record { entries = ks; stop = at p } → e < to + 8 * count → (children_or9 (some f) count from to entry e).stop ≡ fault why.cut
  unfolding children_or9 level_end
  skip_fault f count from to entry e ks p q h = rw (q, lt-leb (to + 8 * count) e h) refl

  stop_of_is : (x y : Read) → x ≡ y → x.stop ≡ y.stop
  stop_of_is x y e = ap (λ (r : Read). r.stop) e

  -- a number that is cut
  number_stop : (c : Children) (start v e : ℕ) (entry : ℕ → ℕ → Entry) (k n : ℕ) → Fixed k n → e < v + n → (value d c k start v e entry).stop ≡ fault why.cut
  unfolding value fixed_value
  number_stop c start v e entry k n bool h = rw (lt-leb (v + 1) e h) refl
  number_stop c start v e entry k n i32 h = rw (lt-leb (v + 4) e h) refl
  number_stop c start v e entry k n u32 h = rw (lt-leb (v + 4) e h) refl
  number_stop c start v e entry k n i64 h = rw (lt-leb (v + 8) e h) refl
  number_stop c start v e entry k n u64 h = rw (lt-leb (v + 8) e h) refl
  number_stop c start v e entry k n f64 h = rw (lt-leb (v + 8) e h) refl
  number_stop c start v e entry k n pointer h = rw (lt-leb (v + 8) e h) refl

  bytes_stop : (c : Children) (start v e : ℕ) (entry : ℕ → ℕ → Entry) → e < v + 8 + le_at 8 d v → (value d c 9 start v e entry).stop ≡ fault why.cut
  unfolding value bytes_value
  bytes_stop c start v e entry h = rw (and_none (leb (v + 8) e) (leb (v + 8 + le_at 8 d v) e) (lt-leb (v + 8 + le_at 8 d v) e h)) refl

  module _ (c : Children) (parent i e : ℕ) where
    abbrev LevelStops : ℕ → Type 0
    LevelStops n = (value d c 11 i (value_start d i) e (entry_of d base parent i)).stop ≡ fault n

    count_stop : e < value_start d i + 4 → LevelStops why.cut
    unfolding value level_value
    count_stop h = stop_of_is _ _ (picked _ _ (ltb e (value_start d i + 4)) _ (lt-ltb _ _ h) refl)

    items_stop : value_start d i + 4 ≤ e → most_items < count_at d i → LevelStops why.level
    unfolding value level_value
    items_stop h₁ h₂ =
        stop_of_is _ _
        (passed _ _ (ltb e (value_start d i + 4)) _ (le-ltb e (value_start d i + 4) h₁) (picked _ _ (ltb most_items (count_at d i)) _ (lt-ltb _ _ h₂) refl))

    length_stop : value_start d i + 4 ≤ e → count_at d i ≤ most_items → e < kids_from d i → LevelStops why.cut
    unfolding value level_value
    length_stop h₁ h₂ h₃ =
        stop_of_is _ _
        (passed _ _ (ltb e (value_start d i + 4)) _ (le-ltb e (value_start d i + 4) h₁)
        (passed _ _ (ltb most_items (count_at d i)) _ (le-ltb most_items (count_at d i) h₂)
        (picked _ _ (ltb e (kids_from d i)) _ (lt-ltb _ _ h₃) refl)))

    under_stop : kids_from d i ≤ e → count_at d i ≤ most_items → kids_to d i < kids_from d i → LevelStops why.level
    unfolding value level_value
    under_stop h₁ h₂ h₃ =
        stop_of_is _ _
        (passed _ _ (ltb e (value_start d i + 4)) _ (le-ltb e (value_start d i + 4) (omega arith))
        (passed _ _ (ltb most_items (count_at d i)) _ (le-ltb most_items (count_at d i) h₂)
        (passed _ _ (ltb e (kids_from d i)) _ (le-ltb e (kids_from d i) h₁)
        (picked _ _ (ltb (kids_to d i) (kids_from d i)) _ (lt-ltb _ _ h₃) refl))))

    kids_stop : kids_from d i ≤ e → count_at d i ≤ most_items → kids_from d i ≤ kids_to d i → e < kids_to d i → LevelStops why.cut
    unfolding value level_value
    kids_stop h₁ h₂ h₃ h₄ =
        stop_of_is _ _
        (passed _ _ (ltb e (value_start d i + 4)) _ (le-ltb e (value_start d i + 4) (omega arith))
        (passed _ _ (ltb most_items (count_at d i)) _ (le-ltb most_items (count_at d i) h₂)
        (passed _ _ (ltb e (kids_from d i)) _ (le-ltb e (kids_from d i) h₁)
        (passed _ _ (ltb (kids_to d i) (kids_from d i)) _ (le-ltb (kids_to d i) (kids_from d i) h₃)
        (picked _ _ (ltb e (kids_to d i)) _ (lt-ltb _ _ h₄) refl)))))

  -- what is wrong with a record stops it
  wrong_read : (left parent used i e n : ℕ) → Wrong d i e left n → (record_at d base (children_at left d base) parent used i e).stop ≡ fault n
  unfolding record_at children_at children_or9
  wrong_read left parent used i e n (packed_type_is k) = stop_of_is _ _ (stopped _ (eqb (get_or d i 0) packed_type) 8 (eq-eqb _ _ k))
  wrong_read left parent used i e n (type_0 k) =
      stop_of_is _ _
      (going _ (eqb (get_or d i 0) packed_type) 8 _ (rw k refl) (stopped _ (eqb (get_or d i 0) 0 || eqb (get_or d i 0) 10) 7 (rw k refl)))
  wrong_read left parent used i e n (type_10 k) =
      stop_of_is _ _
      (going _ (eqb (get_or d i 0) packed_type) 8 _ (rw k refl) (stopped _ (eqb (get_or d i 0) 0 || eqb (get_or d i 0) 10) 7 (rw k refl)))
  wrong_read left parent used i e n (name_cut j h) =
      let k = get_or d i 0 in
      stop_of_is _ _
      (going _ (eqb k packed_type) 8 _ (ne_eqb k packed_type j.not_packed)
      (going _ (eqb k 0 || eqb k 10) 7 _ (or_none (eqb k 0) (eqb k 10) (ne_eqb k 0 j.not_0) (ne_eqb k 10 j.not_10))
      (stopped _ (ltb e (value_start d i)) 6 (lt-ltb _ _ h))))
  wrong_read left parent used i e n (unknown {k = k} h j u) =
      let q = h.kind in
      stop_of_is _ _
      (going _ (eqb (get_or d i 0) packed_type) 8 _ (rw q (ne_eqb k packed_type j.not_packed))
      (going _ (eqb (get_or d i 0) 0 || eqb (get_or d i 0) 10) 7 _
      (rw q (or_none (eqb k 0) (eqb k 10) (ne_eqb k 0 j.not_0) (ne_eqb k 10 j.not_10)))
      (going _ (ltb e (value_start d i)) 6 _ (le-ltb _ _ h.name_within) (stopped _ (not (known (get_or d i 0))) 7 (rw (q, unknown_false k u) refl)))))
  wrong_read left parent used i e n (number_cut {k = k} {n = m} h w l) =
      stop_of_is _ _ (head_read (children_at left d base) parent used i e k _ h (fixed_known k m w) refl)
      ∙ number_stop (children_at left d base used) i (value_start d i) e (entry_of d base parent i) k m w l
  wrong_read left parent used i e n (bytes_cut h l) =
      stop_of_is _ _ (head_read (children_at left d base) parent used i e 9 _ h bytes_known refl)
      ∙ bytes_stop (children_at left d base used) i (value_start d i) e (entry_of d base parent i) l
  wrong_read left parent used i e n (count_cut h h₁) =
      stop_of_is _ _ (head_read (children_at left d base) parent used i e 11 _ h level_known refl) ∙ count_stop (children_at left d base used) parent i e h₁
  wrong_read left parent used i e n (items_over h h₁ h₂) =
      stop_of_is _ _ (head_read (children_at left d base) parent used i e 11 _ h level_known refl) ∙ items_stop (children_at left d base used) parent i e h₁ h₂
  wrong_read left parent used i e n (length_cut h h₁ h₂ h₃) =
      stop_of_is _ _ (head_read (children_at left d base) parent used i e 11 _ h level_known refl)
      ∙ length_stop (children_at left d base used) parent i e h₁ h₂ h₃
  wrong_read left parent used i e n (length_under h h₁ h₂ h₃) =
      stop_of_is _ _ (head_read (children_at left d base) parent used i e 11 _ h level_known refl)
      ∙ under_stop (children_at left d base used) parent i e h₁ h₂ h₃
  wrong_read left parent used i e n (kids_cut h h₁ h₂ h₃ h₄) =
      stop_of_is _ _ (head_read (children_at left d base) parent used i e 11 _ h level_known refl)
      ∙ kids_stop (children_at left d base used) parent i e h₁ h₂ h₃ h₄
  wrong_read left parent used i e n (too_deep l) =
      stop_of_is _ _ (head_read (children_at 0 d base) parent used i e 11 _ l.head level_known (level_read (children_at 0 d base used) parent i e l))

  -- the records from i on stop where the one at i does
  first_fault : (left parent count used i e n : ℕ) → i + 2 ≤ e → (record_at d base (children_at left d base) parent used i e).stop ≡ fault n
      → (records d base (children_at left d base) parent (suc count) used i e).stop ≡ fault n
  unfolding records
  first_fault left parent count used i e n h f =
      stop_of_is _ _ (passed _ _ (ltb e (i + 2)) _ (le-ltb e (i + 2) h) refl) ∙ then_fault (record_at d base (children_at left d base) parent used i e) _ n f

  -- or where those behind it do
  later_fault : (left parent count used i e n : ℕ) (es : List Entry) (p : ℕ) → i + 2 ≤ e
      → record_at d base (children_at left d base) parent used i e ≡ record { entries = es; stop = at p }
      → (records d base (children_at left d base) parent count (used + length es) p e).stop ≡ fault n
      → (records d base (children_at left d base) parent (suc count) used i e).stop ≡ fault n
  unfolding records
  later_fault left parent count used i e n es p h q f =
      stop_of_is _ _ (passed _ _ (ltb e (i + 2)) _ (le-ltb e (i + 2) h) refl)
      ∙ then_stop (record_at d base (children_at left d base) parent used i e) _ es p (fault n) q f

  faults_read : (left parent count used i e n : ℕ) → Faults d base left parent count used i e n
      → (records d base (children_at left d base) parent count used i e).stop ≡ fault n
  faults_read left parent count used i e n (here {count = m} h w) = first_fault left parent m used i e n h (wrong_read left parent used i e n w)
  faults_read left parent count used i e n (behind_plain {count = m} {k = k} {from} {len} {p = q} h v r) =
      later_fault left parent m used i e n (entry_of d base parent i from len ∷ []) q (omega (arith, h.name_within))
      (plain_one left parent used i e k from len q h v) (faults_read left parent m (used + 1) q e n r)
  faults_read left parent count used i e n (behind_level {left = l'} {count = m} {p = q} {ks = ks} l kr h r) =
      later_fault (suc l') parent m used i e n (entry_of d base parent i (kids_from d i) (kids_to d i - kids_from d i) ∷ ks) (level_to d i)
      (omega (arith, l.head.name_within))
      (level_one l' parent used i e l
      ∙ kids_read (kids_of l' used) (count_at d i) (kids_from d i) (kids_to d i) (entry_of d base parent i) e ks q
      (records_read l' (suc used) (count_at d i) (suc used) (kids_from d i) (kids_to d i) ks q kr) h)
      (faults_read (suc l') parent m (used + suc (length ks)) (level_to d i) e n r)
  faults_read left parent count used i e n (inside {left = l'} {count = m} l r) =
      first_fault (suc l') parent m used i e n (omega (arith, l.head.name_within))
      (stop_of_is _ _ (level_one l' parent used i e l)
      ∙ kids_fault (kids_of l' used) (count_at d i) (kids_from d i) (kids_to d i) (entry_of d base parent i) e n
      (faults_read l' (suc used) (count_at d i) (suc used) (kids_from d i) (kids_to d i) n r))
  faults_read left parent count used i e n (skip_cut {left = l'} {count = m} {p = q} {ks = ks} l kr h) =
      first_fault (suc l') parent m used i e n (omega (arith, l.head.name_within))
      (stop_of_is _ _ (level_one l' parent used i e l)
      ∙ skip_fault (kids_of l' used) (count_at d i) (kids_from d i) (kids_to d i) (entry_of d base parent i) e ks q
      (records_read l' (suc used) (count_at d i) (suc used) (kids_from d i) (kids_to d i) ks q kr) h)

-- ---- records whose type and name pass have entries

abbrev pub SomeEntry : Read → Type 0
SomeEntry r = 1 ≤ length r.entries

pub then_more : (r : Read) (k : ℕ → ℕ → Read) → length r.entries ≤ length (then r k).entries
unfolding follow
then_more r k = go r.entries r.stop
  where
    go : (es : List Entry) (t : Stop) → length es ≤ length (follow es t k).entries
    go es (fault n) = omega arith
    go es (at p) = rw length-append (omega arith)

kids_some : (c : Children) (count from to : ℕ) (entry : ℕ → ℕ → Entry) (e : ℕ) → SomeEntry (children_or9 c count from to entry e)
unfolding children_or9
kids_some none count from to entry e = omega arith
kids_some (some f) count from to entry e = omega arith

pub value_some : (d : List ℕ) (c : Children) (k start v e : ℕ) (entry : ℕ → ℕ → Entry) → SomeEntry (value d c k start v e entry)
unfolding value level_value bytes_value text_value fixed_value
value_some d c k start v e entry =
    pick_by SomeEntry (eqb k 11) _ _ (λ q.
    pick_by SomeEntry (ltb e (v + 4)) _ _ (λ q. one) λ q₁.
    pick_by SomeEntry (ltb most_items (le_at 4 d v)) _ _ (λ q. one) λ q₂.
    pick_by SomeEntry (ltb e (v + 12)) _ _ (λ q. one) λ q₃.
    pick_by SomeEntry (ltb (start + le_at 8 d (v + 4)) (v + 12)) _ _ (λ q. one) λ q₄.
    pick_by SomeEntry (ltb e (start + le_at 8 d (v + 4))) _ _ (λ q. one) λ q₅.
    kids_some c (le_at 4 d v) (v + 12) (start + le_at 8 d (v + 4)) entry e) λ q₁.
    pick_by SomeEntry (eqb k 9) _ _ (λ q. one) λ q₂.
    pick_by SomeEntry (eqb k 8) _ _ (λ q. one) λ q₃. one
  where
    one : 1 ≤ 1
    one = omega arith

module _ (d : List ℕ) (base : ℕ) where
  pub records_step : (c : ChildrenAt) (parent count used i e : ℕ) → i + 2 ≤ e
      → records d base c parent (suc count) used i e ≡ then (record_at d base c parent used i e) (λ n p. records d base c parent count (used + n) p e)
  unfolding records
  records_step c parent count used i e h = passed _ _ (ltb e (i + 2)) _ (le-ltb e (i + 2) h) refl

  then_length : (r : Read) (k : ℕ → ℕ → Read) (es : List Entry) (p : ℕ) → r ≡ record { entries = es; stop = at p }
      → length (then r k).entries ≡ length es + length (k (length es) p).entries
  unfolding follow
  then_length r k es p e = rw (e, length-append) refl

  kids_length : (f : ℕ → ℕ → ℕ → Read) (count from to : ℕ) (entry : ℕ → ℕ → Entry) (e : ℕ)
      → suc (length (f count from to).entries) ≤ length (children_or9 (some f) count from to entry e).entries
  unfolding children_or9
  kids_length f count from to entry e = let h = then_more (f count from to) (λ m q. ends (level_end count to e)) in omega arith

  -- from what one record has
  step_length : (c : ChildrenAt) (parent count used i e n : ℕ) → i + 2 ≤ e → n ≤ length (record_at d base c parent used i e).entries
      → n ≤ length (records d base c parent (suc count) used i e).entries
  step_length c parent count used i e n h l =
      let q = ap (λ (r : Read). length r.entries) (records_step c parent count used i e h) in
      let k = then_more (record_at d base c parent used i e) (λ n p. records d base c parent count (used + n) p e) in
      omega arith

  -- from what one whole record and the others have
  rest_length : (c : ChildrenAt) (parent count used i e n : ℕ) (es : List Entry) (p : ℕ) → i + 2 ≤ e
      → record_at d base c parent used i e ≡ record { entries = es; stop = at p }
      → n ≤ length (records d base c parent count (used + length es) p e).entries
      → length es + n ≤ length (records d base c parent (suc count) used i e).entries
  rest_length c parent count used i e n es p h q l =
      let q₁ = ap (λ (r : Read). length r.entries) (records_step c parent count used i e h) in
      let q₂ = then_length (record_at d base c parent used i e) (λ n p. records d base c parent count (used + n) p e) es p q in
      omega arith

  head_length : (c : ChildrenAt) (parent used i e k n : ℕ) → Head d i e k → Known k
      → n ≤ length (value d (c used) k i (value_start d i) e (entry_of d base parent i)).entries
      → n ≤ length (record_at d base c parent used i e).entries
  head_length c parent used i e k n h w l =
      let q = ap (λ (r : Read). length r.entries) (head_read d base c parent used i e k _ h w refl) in
      omega arith

  passes_read : (left parent count used i e n : ℕ) → Passes d base left parent count used i e n
      → n ≤ length (records d base (children_at left d base) parent count used i e).entries
  unfolding children_at
  passes_read left parent count used i e n none_yet = omega arith
  passes_read left parent count used i e n (this {count = c} {k = k} h w) =
      let v = h.name_within in
      step_length (children_at left d base) parent c used i e 1 (omega arith)
      (head_length (children_at left d base) parent used i e k 1 h (kind_known k w)
      (value_some d (children_at left d base used) k i (value_start d i) e (entry_of d base parent i)))
  passes_read left parent count used i e n (this_and_more {count = c} {k = k} {from} {len} {p = q} {n = m} h v r) =
      let w = h.name_within in
      let l = rest_length (children_at left d base) parent c used i e m (entry_of d base parent i from len ∷ []) q (omega arith)
      (plain_one d base left parent used i e k from len q h v)
      (passes_read left parent c (used + 1) q e m r) in
      omega arith
  passes_read left parent count used i e n (this_and_inside {left = l'} {count = c} {n = m} l r) =
      let w = l.head.name_within in
      let k₁ = passes_read l' (suc used) (count_at d i) (suc used) (kids_from d i) (kids_to d i) m r in
      let k₂ = kids_length (kids_of d base l' used) (count_at d i) (kids_from d i) (kids_to d i) (entry_of d base parent i) e in
      let k₃ = ap (λ (r : Read). length r.entries) (level_one d base l' parent used i e l) in
      step_length (children_at left d base) parent c used i e (suc m) (omega arith) (omega arith)
  passes_read left parent count used i e n (level_and_more {left = l'} {count = c} {p = q} {n = m} {ks = ks} l kr h r) =
      let w = l.head.name_within in
      let k = rest_length (children_at left d base) parent c used i e m (entry_of d base parent i (kids_from d i) (kids_to d i - kids_from d i) ∷ ks)
      (level_to d i) (omega arith)
      (level_one d base l' parent used i e l
      ∙ kids_read d base (kids_of d base l' used) (count_at d i) (kids_from d i) (kids_to d i) (entry_of d base parent i) e ks q
      (records_read d base l' (suc used) (count_at d i) (suc used) (kids_from d i) (kids_to d i) ks q kr) h)
      (passes_read left parent c (used + suc (length ks)) (level_to d i) e m r) in
      omega arith

-- ---- the other way: what is read has the grammar's form

at_inj : {p q : ℕ} → at p ≡ at q → p ≡ q
at_inj e = cc

pub fault_inj : {p q : ℕ} → fault p ≡ fault q → p ≡ q
fault_inj e = cc

pub at≢fault : {p n : ℕ} → at p ≡ fault n → ⊥
at≢fault e = let z : ◌≡◌ {A = ℕ} 0 1 = cc in omega arith

fixed_of : (k n : ℕ) → Fixed k n → Kind k
fixed_of k n bool = of_value {k = 1} (omega arith) (omega arith)
fixed_of k n i32 = of_value {k = 2} (omega arith) (omega arith)
fixed_of k n u32 = of_value {k = 3} (omega arith) (omega arith)
fixed_of k n i64 = of_value {k = 4} (omega arith) (omega arith)
fixed_of k n u64 = of_value {k = 5} (omega arith) (omega arith)
fixed_of k n f64 = of_value {k = 6} (omega arith) (omega arith)
fixed_of k n pointer = of_value {k = 7} (omega arith) (omega arith)

pub plain_of : (d : List ℕ) (e v k from len p : ℕ) → Plain d e v k from len p → Kind k
plain_of d e v k from len p (fixed {n} w h) = fixed_of k n w
plain_of d e v k from len p (text_ended n u z h) = of_value {k = 8} (omega arith) (omega arith)
plain_of d e v k from len p (text_cut n u h₁ h₂) = of_value {k = 8} (omega arith) (omega arith)
plain_of d e v k from len p (bytes h) = of_value {k = 9} (omega arith) (omega arith)

fixed_kind : (k : ℕ) → known k ≡ true → eqb k 11 ≡ false → eqb k 9 ≡ false → eqb k 8 ≡ false → Fixed k (fixed_len k)
unfolding known fixed_len
fixed_kind zero a b c e = absurd (true≢false (sym a))
fixed_kind (suc zero) a b c e = bool
fixed_kind (suc (suc zero)) a b c e = i32
fixed_kind (suc (suc (suc zero))) a b c e = u32
fixed_kind (suc (suc (suc (suc zero)))) a b c e = i64
fixed_kind (suc (suc (suc (suc (suc zero))))) a b c e = u64
fixed_kind (suc (suc (suc (suc (suc (suc zero)))))) a b c e = f64
fixed_kind (suc (suc (suc (suc (suc (suc (suc zero))))))) a b c e = pointer
fixed_kind (suc (suc (suc (suc (suc (suc (suc (suc k)))))))) a b c e =
    let n = suc (suc (suc (suc (suc (suc (suc (suc k))))))) in
    let h : n ≤ 9 = known_most n a b in
    let h₉ : (n ≡ 9 → ⊥) = eqb-false n 9 c in
    let h₈ : (n ≡ 8 → ⊥) = eqb-false n 8 e in
    absurd (omega arith)

module _ (d : List ℕ) (base : ℕ) where
  -- one record, with its entries and the place after it
  data One (parent used i e : ℕ) : ℕ → List Entry → ℕ → Type 0 where
    one_plain : {left k from len p : ℕ} → Head d i e k → Plain d e (value_start d i) k from len p
        → One parent used i e left (entry_of d base parent i from len ∷ []) p
    one_level : {m p : ℕ} {ks : List Entry} → Level d i e → Records d base m (suc used) (count_at d i) (suc used) (kids_from d i) (kids_to d i) ks p
        → level_to d i ≤ e
        → One parent used i e (suc m) (entry_of d base parent i (kids_from d i) (kids_to d i - kids_from d i) ∷ ks) (level_to d i)

  -- one record with a fault, its own or one in it
  data Into (used i e : ℕ) : ℕ → ℕ → Type 0 where
    into_here : {left n : ℕ} → Wrong d i e left n → Into used i e left n
    into_level : {m n : ℕ} → Level d i e → Faults d base m (suc used) (count_at d i) (suc used) (kids_from d i) (kids_to d i) n → Into used i e (suc m) n
    into_skip : {m p : ℕ} {ks : List Entry} → Level d i e → Records d base m (suc used) (count_at d i) (suc used) (kids_from d i) (kids_to d i) ks p
        → e < level_to d i
        → Into used i e (suc m) why.cut

  -- how many records pass in one record
  data Pass (used i e : ℕ) : ℕ → ℕ → Type 0 where
    pass_none : {left : ℕ} → Pass used i e left 0
    pass_this : {left k : ℕ} → Head d i e k → Kind k → Pass used i e left 1
    pass_inside : {m n : ℕ} → Level d i e → Passes d base m (suc used) (count_at d i) (suc used) (kids_from d i) (kids_to d i) n → Pass used i e (suc m) (suc n)

  record FormedOne (left parent used i e : ℕ) (r : Read) : Type 0 where
    ends_at : (p : ℕ) → r.stop ≡ at p → One parent used i e left r.entries p
    ends_fault : (n : ℕ) → r.stop ≡ fault n → Into used i e left n
    pass : Pass used i e left (length r.entries)

  record Formed (left parent count used i e : ℕ) (r : Read) : Type 0 where
    ends_at : (p : ℕ) → r.stop ≡ at p → Records d base left parent count used i e r.entries p
    ends_fault : (n : ℕ) → r.stop ≡ fault n → Faults d base left parent count used i e n
    passes : Passes d base left parent count used i e (length r.entries)

  -- what reads children of a record that `used` entries come before
  data KidsFormed (used : ℕ) : ℕ → Children → Type 0 where
    deepest : KidsFormed used 0 none
    deeper : {m : ℕ} {f : ℕ → ℕ → ℕ → Read} → ((count from to : ℕ) → Formed m (suc used) count (suc used) from to (f count from to))
        → KidsFormed used (suc m) (some f)

  -- a reading that ends with a fault
  stopped_one : (left parent used i e : ℕ) (r : Read) (n : ℕ) → r.stop ≡ fault n → Into used i e left n → Pass used i e left (length r.entries)
      → FormedOne left parent used i e r
  stopped_one left parent used i e r n q w k =
      record { ends_at = λ p f. absurd (at≢fault (sym f ∙ q)); ends_fault = λ m f. rw (sym (fault_inj (sym q ∙ f))) w; pass = k }

  -- with a fault of the record itself
  fault_one : (left parent used i e : ℕ) (r : Read) (n : ℕ) → r.stop ≡ fault n → Wrong d i e left n → Pass used i e left (length r.entries)
      → FormedOne left parent used i e r
  fault_one left parent used i e r n q w k = stopped_one left parent used i e r n q (into_here w) k

  -- a value that is no level and ends at p
  at_one : (left parent used i e k from len p : ℕ) → Head d i e k → Plain d e (value_start d i) k from len p
      → FormedOne left parent used i e (entered (entry_of d base parent i from len) (at p))
  at_one left parent used i e k from len p h v =
      record {
        ends_at = λ q f. rw (← at_inj f) (one_plain h v);
        ends_fault = λ n f. absurd (at≢fault f);
        pass = pass_this h (plain_of d e (value_start d i) k from len p v);
      }

  module _ (left parent used i e : ℕ) (within : value_start d i ≤ e) where
    head_of : (k : ℕ) → get_or d i 0 ≡ k → Head d i e k
    head_of k q = record { kind = q; name_within = within }

    fixed_formed : (n : ℕ) → Fixed (get_or d i 0) n → FormedOne left parent used i e (fixed_value n (value_start d i) e (entry_of d base parent i))
    unfolding fixed_value
    fixed_formed n w = go (leb (value_start d i + n) e) refl
      where
        go : (b : Bool) → leb (value_start d i + n) e ≡ b
            → FormedOne left parent used i e (entered (entry_of d base parent i (value_start d i) n) (cond b (at (value_start d i + n)) (fault 6)))
        go true q = at_one left parent used i e (get_or d i 0) (value_start d i) n (value_start d i + n) (head_of (get_or d i 0) refl)
            (fixed w (leb-true _ _ q))
        go false q =
            fault_one left parent used i e _ 6 refl (number_cut (head_of (get_or d i 0) refl) w (leb-false _ _ q))
            (pass_this (head_of (get_or d i 0) refl) (fixed_of (get_or d i 0) n w))

    bytes_formed : get_or d i 0 ≡ 9 → FormedOne left parent used i e (bytes_value d (value_start d i) e (entry_of d base parent i))
    unfolding bytes_value
    bytes_formed k = go (leb (v + 8) e && leb (v + 8 + le_at 8 d v) e) refl
      where
        v : ℕ
        v = value_start d i

        short : (p : Bool) → leb (v + 8) e ≡ p → (q : Bool) → leb (v + 8 + le_at 8 d v) e ≡ q → (p && q) ≡ false → e < v + 8 + le_at 8 d v
        short p a false b z = leb-false (v + 8 + le_at 8 d v) e b
        short false a true b z = let h = leb-false (v + 8) e a in omega arith
        short true a true b z = absurd (true≢false z)

        go : (b : Bool) → (leb (v + 8) e && leb (v + 8 + le_at 8 d v) e) ≡ b
            → FormedOne left parent used i e (entered (entry_of d base parent i (v + 8) (le_at 8 d v)) (cond b (at (v + 8 + le_at 8 d v)) (fault 6)))
        go true q =
            at_one left parent used i e 9 (v + 8) (le_at 8 d v) (v + 8 + le_at 8 d v) (head_of 9 k)
            (bytes (leb-true _ _ (and_right (leb (v + 8) e) (leb (v + 8 + le_at 8 d v) e) q)))
        go false q =
            fault_one left parent used i e _ 6 refl (bytes_cut (head_of 9 k) (short (leb (v + 8) e) refl (leb (v + 8 + le_at 8 d v) e) refl q))
            (pass_this (head_of 9 k) (of_value {k = 9} (omega arith) (omega arith)))

    text_formed : get_or d i 0 ≡ 8 → FormedOne left parent used i e (text_value d (value_start d i) e (entry_of d base parent i))
    unfolding text_value
    text_formed k = go (text_units (units ((e - v) / 2) d v)) (leb (v + 2 * text_units (units ((e - v) / 2) d v) + 2) e) refl (count_text ((e - v) / 2) d v)
      where
        v : ℕ
        v = value_start d i

        m : ℕ
        m = (e - v) / 2

        go : (n : ℕ) (b : Bool) → leb (v + 2 * n + 2) e ≡ b → Units d v n × (n ≤ m) × (n < m → le_at 2 d (v + 2 * n) ≡ 0)
            → FormedOne left parent used i e (entered (entry_of d base parent i v (2 * n)) (at (cond b (v + 2 * n + 2) (v + 2 * n))))
        go n true q (u, h₁, h₂) =
            let h₃ : v + 2 * n + 2 ≤ e = leb-true _ _ q in
            at_one left parent used i e 8 v (2 * n) (v + 2 * n + 2) (head_of 8 k) (text_ended n u (h₂ (omega arith)) h₃)
        go n false q (u, h₁, h₂) =
            let h₃ : e < v + 2 * n + 2 = leb-false _ _ q in
            at_one left parent used i e 8 v (2 * n) (v + 2 * n) (head_of 8 k) (text_cut n u (omega arith) h₃)

  -- a level, from how its children end
  end_formed : (m parent used i e : ℕ) (l : Level d i e) (ks : List Entry) (t : Stop)
      → Formed m (suc used) (count_at d i) (suc used) (kids_from d i) (kids_to d i) (record { entries = ks; stop = t })
      → FormedOne (suc m) parent used i e
      (then (entered (entry_of d base parent i (kids_from d i) (kids_to d i - kids_from d i)) (at (kids_from d i)))
      λ n p. follow ks t λ n q. ends (level_end (count_at d i) (kids_to d i) e))
  unfolding follow level_end
  end_formed m parent used i e l ks (fault n) f =
      record { ends_at = λ p q. absurd (at≢fault (sym q)); ends_fault = λ n q. into_level l (f.ends_fault n q); pass = pass_inside l f.passes }
  end_formed m parent used i e l ks (at q) f = go (leb (level_to d i) e) refl
    where
      whole : Pass used i e (suc m) (suc (length (ks ++ [])))
      whole = subst (λ (x : List Entry). Pass used i e (suc m) (suc (length x))) (sym (append-nil ks)) (pass_inside l f.passes)

      go : (b : Bool) → leb (level_to d i) e ≡ b
          → FormedOne (suc m) parent used i e
          (record {
            entries = (entry_of d base parent i (kids_from d i) (kids_to d i - kids_from d i) ∷ []) ++ (ks ++ []);
            stop = cond b (at (level_to d i)) (fault 6);
          })
      go true h =
          record {
            ends_at = λ p z. rw (append-nil, ← at_inj z) (one_level l (f.ends_at q refl) (leb-true _ _ h));
            ends_fault = λ n z. absurd (at≢fault z);
            pass = whole;
          }
      go false h = stopped_one (suc m) parent used i e _ 6 refl (into_skip l (f.ends_at q refl) (leb-false _ _ h)) whole

  kids_formed : (left parent used i e : ℕ) (c : Children) → KidsFormed used left c → Level d i e
      → FormedOne left parent used i e (children_or9 c (count_at d i) (kids_from d i) (kids_to d i) (entry_of d base parent i) e)
  unfolding children_or9
  kids_formed left parent used i e c deepest l = fault_one 0 parent used i e _ 9 refl (too_deep l) (pass_this l.head of_level)
  kids_formed left parent used i e c (deeper {m = m} {f = f} k) l =
      end_formed m parent used i e l (f (count_at d i) (kids_from d i) (kids_to d i)).entries (f (count_at d i) (kids_from d i) (kids_to d i)).stop
      (k (count_at d i) (kids_from d i) (kids_to d i))

  level_formed : (left parent used i e : ℕ) (c : Children) → KidsFormed used left c → Head d i e 11
      → FormedOne left parent used i e (level_value d c i (value_start d i) e (entry_of d base parent i))
  unfolding level_value
  level_formed left parent used i e c k h =
      pick_by F (ltb e (value_start d i + 4)) _ _ (λ q. wrong 6 (count_cut h (ltb-true _ _ q))) λ q₁.
      let h₁ = ltb-false e (value_start d i + 4) q₁ in
      pick_by F (ltb most_items (count_at d i)) _ _ (λ q. wrong 10 (items_over h h₁ (ltb-true _ _ q))) λ q₂.
      let h₂ = ltb-false most_items (count_at d i) q₂ in
      pick_by F (ltb e (kids_from d i)) _ _ (λ q. wrong 6 (length_cut h h₁ h₂ (ltb-true _ _ q))) λ q₃.
      let h₃ = ltb-false e (kids_from d i) q₃ in
      pick_by F (ltb (kids_to d i) (kids_from d i)) _ _ (λ q. wrong 10 (length_under h h₃ h₂ (ltb-true _ _ q))) λ q₄.
      let h₄ = ltb-false (kids_to d i) (kids_from d i) q₄ in
      pick_by F (ltb e (kids_to d i)) _ _ (λ q. wrong 6 (kids_cut h h₃ h₂ h₄ (ltb-true _ _ q))) λ q₅.
      kids_formed left parent used i e c k
      (record { head = h; header_within = h₃; items_most = h₂; length_least = h₄; kids_within = ltb-false _ _ q₅ })
    where
      F : Read → Type 0
      F = FormedOne left parent used i e

      wrong : (n : ℕ) → Wrong d i e left n → FormedOne left parent used i e (entered (entry_of d base parent i (value_start d i) 0) (fault n))
      wrong n w = fault_one left parent used i e _ n refl w (pass_this h of_level)

  record_formed : (left parent used i e : ℕ) (c : ChildrenAt) → KidsFormed used left (c used)
      → FormedOne left parent used i e (record_at d base c parent used i e)
  unfolding record_at value
  record_formed left parent used i e c k =
      let n = get_or d i 0 in
      stop_if_by F (eqb n packed_type) 8 _ (λ q. stop 8 (packed_type_is (eqb-true n packed_type q))) λ q₁.
      stop_if_by F (eqb n 0 || eqb n 10) 7 _ (λ q. stop 7 (either (eqb n 0) refl (eqb n 10) refl q)) λ q₂.
      let j : Judged n =
      record {
        not_packed = eqb-false n packed_type q₁;
        not_0 = eqb-false n 0 (or_left (eqb n 0) (eqb n 10) q₂);
        not_10 = eqb-false n 10 (or_right (eqb n 0) (eqb n 10) q₂);
      } in
      stop_if_by F (ltb e (value_start d i)) 6 _ (λ q. stop 6 (name_cut j (ltb-true _ _ q))) λ q₃.
      stop_if_by F (not (known n)) 7 _
      (λ q. stop 7 (unknown (record { kind = refl; name_within = ltb-false _ _ q₃ }) j
      λ w. true≢false (sym (kind_known n w).is_known ∙ not-true (known n) q))) λ q₄.
      let within : value_start d i ≤ e = ltb-false _ _ q₃ in
      pick_by F (eqb n 11) _ _ (λ q. level_formed left parent used i e (c used) k (record { kind = eqb-true n 11 q; name_within = within })) λ k₁.
      pick_by F (eqb n 9) _ _ (λ q. bytes_formed left parent used i e within (eqb-true n 9 q)) λ k₂.
      pick_by F (eqb n 8) _ _ (λ q. text_formed left parent used i e within (eqb-true n 8 q)) λ k₃.
      fixed_formed left parent used i e within (fixed_len n) (fixed_kind n (not-false (known n) q₄) k₁ k₂ k₃)
    where
      F : Read → Type 0
      F = FormedOne left parent used i e

      stop : (n : ℕ) → Wrong d i e left n → FormedOne left parent used i e (ends (fault n))
      stop n w = fault_one left parent used i e _ n refl w pass_none

      either : (a : Bool) → eqb (get_or d i 0) 0 ≡ a → (b : Bool) → eqb (get_or d i 0) 10 ≡ b → (a || b) ≡ true → Wrong d i e left why.kind
      either true p b q z = type_0 (eqb-true _ _ p)
      either false p true q z = type_10 (eqb-true _ _ q)
      either false p false q z = absurd (true≢false (sym z))

  -- one record, and the others
  join : (left parent count used i e : ℕ) (es fs : List Entry) (p q : ℕ) → One parent used i e left es p
      → Records d base left parent count (used + length es) p e fs q
      → Records d base left parent (suc count) used i e (es ++ fs) q
  join left parent count used i e es fs p q (one_plain {from = from} {len} h v) r = plain h v (entry_made d base parent i from len) r
  join left parent count used i e es fs p q (one_level l k h) r = nested l (entry_made d base parent i (kids_from d i) (kids_to d i - kids_from d i)) k h r

  join_fault : (left parent count used i e n : ℕ) (es : List Entry) (p : ℕ) → One parent used i e left es p
      → Faults d base left parent count (used + length es) p e n
      → Faults d base left parent (suc count) used i e n
  join_fault left parent count used i e n es p (one_plain h v) r = behind_plain h v r
  join_fault left parent count used i e n es p (one_level l k h) r = behind_level l k h r

  into_faults : (left parent count used i e n : ℕ) → i + 2 ≤ e → Into used i e left n → Faults d base left parent (suc count) used i e n
  into_faults left parent count used i e n h (into_here w) = here h w
  into_faults left parent count used i e n h (into_level l r) = inside l r
  into_faults left parent count used i e n h (into_skip l k s) = skip_cut l k s

  pass_passes : (left parent count used i e n : ℕ) → Pass used i e left n → Passes d base left parent (suc count) used i e n
  pass_passes left parent count used i e n pass_none = none_yet
  pass_passes left parent count used i e n (pass_this h k) = this h k
  pass_passes left parent count used i e n (pass_inside l p) = this_and_inside l p

  join_passes : (left parent count used i e : ℕ) (es fs : List Entry) (p : ℕ) → One parent used i e left es p
      → Passes d base left parent count (used + length es) p e (length fs)
      → Passes d base left parent (suc count) used i e (length (es ++ fs))
  join_passes left parent count used i e es fs p (one_plain h v) r = this_and_more h v r
  join_passes left parent count used i e es fs p (one_level {ks = ks} l k h) r = rw (length-append ks fs) (level_and_more l k h r)

  then_formed : (left parent count used i e : ℕ) (es : List Entry) (t : Stop) (k : ℕ → ℕ → Read) → i + 2 ≤ e
      → FormedOne left parent used i e (record { entries = es; stop = t }) → ((p : ℕ) → Formed left parent count (used + length es) p e (k (length es) p))
      → Formed left parent (suc count) used i e (follow es t k)
  unfolding follow
  then_formed left parent count used i e es (fault n) k h f g =
      record {
        ends_at = λ p z. absurd (at≢fault (sym z));
        ends_fault = λ m z. into_faults left parent count used i e m h (f.ends_fault m z);
        passes = pass_passes left parent count used i e (length es) f.pass;
      }
  then_formed left parent count used i e es (at p) k h f g =
      record {
        ends_at = λ q z. join left parent count used i e es (k (length es) p).entries p q (f.ends_at p refl) ((g p).ends_at q z);
        ends_fault = λ m z. join_fault left parent count used i e m es p (f.ends_at p refl) ((g p).ends_fault m z);
        passes = join_passes left parent count used i e es (k (length es) p).entries p (f.ends_at p refl) (g p).passes;
      }

  records_formed : (left : ℕ) (c : ChildrenAt) → ((u : ℕ) → KidsFormed u left (c u)) → (parent count used i e : ℕ)
      → Formed left parent count used i e (records d base c parent count used i e)
  unfolding records
  records_formed left c k parent zero used i e = record { ends_at = λ p z. rw (← at_inj z) counted; ends_fault = λ n z. absurd (at≢fault z); passes = none_yet }
  records_formed left c k parent (suc count) used i e =
      pick_by (Formed left parent (suc count) used i e) (ltb e (i + 2)) _ _
      (λ q. record { ends_at = λ p z. rw (← at_inj z) (quiet (ltb-true _ _ q)); ends_fault = λ n z. absurd (at≢fault z); passes = none_yet }) λ q.
      then_formed left parent count used i e (record_at d base c parent used i e).entries (record_at d base c parent used i e).stop _ (ltb-false _ _ q)
      (record_formed left parent used i e c (k used))
      λ p. records_formed left c k parent count (used + length (record_at d base c parent used i e).entries) p e

  children_formed : (left used : ℕ) → KidsFormed used left (children_at left d base used)
  unfolding children_at
  children_formed zero used = deepest
  children_formed (suc left) used =
      deeper λ count from to. records_formed left (children_at left d base) (children_formed left) (suc used) count (suc used) from to

-- ---- the faults' numbers

abbrev pub tree_faults : List ℕ
tree_faults = why.cut ∷ why.kind ∷ why.packed ∷ why.deep ∷ why.level ∷ []

wrong_number : (d : List ℕ) (i e left n : ℕ) → Wrong d i e left n → In n tree_faults
wrong_number d i e left n (packed_type_is k) = further (further first)
wrong_number d i e left n (type_0 k) = further first
wrong_number d i e left n (type_10 k) = further first
wrong_number d i e left n (name_cut j h) = first
wrong_number d i e left n (unknown h j u) = further first
wrong_number d i e left n (number_cut h w l) = first
wrong_number d i e left n (bytes_cut h l) = first
wrong_number d i e left n (count_cut h l) = first
wrong_number d i e left n (items_over h k l) = further (further (further (further first)))
wrong_number d i e left n (length_cut h k l m) = first
wrong_number d i e left n (length_under h k l m) = further (further (further (further first)))
wrong_number d i e left n (kids_cut h k l m o) = first
wrong_number d i e left n (too_deep l) = further (further (further first))

faults_number : (d : List ℕ) (base left parent count used i e n : ℕ) → Faults d base left parent count used i e n → In n tree_faults
faults_number d base left parent count used i e n (here h w) = wrong_number d i e left n w
faults_number d base left parent count used i e n (behind_plain {count = m} {p = p} h v r) = faults_number d base left parent m (used + 1) p e n r
faults_number d base left parent count used i e n (behind_level {left = l'} {count = m} {ks = ks} l k h r) =
    faults_number d base (suc l') parent m (used + suc (length ks)) (level_to d i) e n r
faults_number d base left parent count used i e n (inside {left = l'} l r) =
    faults_number d base l' (suc used) (count_at d i) (suc used) (kids_from d i) (kids_to d i) n r
faults_number d base left parent count used i e n (skip_cut l k h) = first

-- ---- trees

module _ (s : List ℕ) (r : Range) where
  formed : Formed (part s r.start r.len) r.start most_depth 0 1 0 0 (length (part s r.start r.len)) (tree_in s r)
  unfolding tree_in read
  formed =
      let d = part s r.start r.len in
      records_formed d r.start most_depth (children_at most_depth d r.start) (children_formed d r.start most_depth) 0 1 0 0 (length d)

  -- what is read whole is a tree of the grammar
  pub tree_read : (p : ℕ) → (tree_in s r).stop ≡ at p → Tree s r (tree_in s r).entries
  tree_read p e = record { place_after = p; record_at_0 = formed.ends_at p e }

  -- and the other way round
  pub read_tree : (es : List Entry) (x : Tree s r es) → tree_in s r ≡ record { entries = es; stop = at x.place_after }
  unfolding tree_in read
  read_tree es x =
      let d = part s r.start r.len in
      records_read d r.start most_depth 0 1 0 0 (length d) es x.place_after x.record_at_0

  pub tree_unique : (es fs : List Entry) → Tree s r es → Tree s r fs → es ≡ fs
  tree_unique es fs x y = ap (λ (z : Read). z.entries) (sym (read_tree es x) ∙ read_tree fs y)

  -- a tree's first fault is the grammar's
  pub fault_read : (n : ℕ) → (tree_in s r).stop ≡ fault n → Faulty s r n
  fault_read n e = formed.ends_fault n e

  pub read_fault : (n : ℕ) → Faulty s r n → (tree_in s r).stop ≡ fault n
  unfolding tree_in read
  read_fault n x =
      let d = part s r.start r.len in
      faults_read d r.start most_depth 0 1 0 0 (length d) n x

  -- its number is one of a tree's
  pub fault_number : (n : ℕ) → Faulty s r n → In n tree_faults
  fault_number n x = let d = part s r.start r.len in faults_number d r.start most_depth 0 1 0 0 (length d) n x

  -- the entries are the records whose type and name pass, before the end or the first fault
  pub passed_read : PassedIn s r (length (tree_in s r).entries)
  passed_read = formed.passes

  pub read_passed : (n : ℕ) → PassedIn s r n → n ≤ length (tree_in s r).entries
  unfolding tree_in read
  read_passed n x =
      let d = part s r.start r.len in
      passes_read d r.start most_depth 0 1 0 0 (length d) n x
