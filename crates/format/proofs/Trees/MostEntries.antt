-- A tree of n bytes has at most n / 2 entries. Assumes nothing.
use Prim.Native.Nat.{ℕ, zero, suc, ◌+◌, ◌-◌, ◌*◌, ◌/◌, ◌≤◌}
use mathlib.Core.Path.{◌≡◌, refl, subst}
use mathlib.Core.Bool.{Bool, true, false, cond, not, ◌||◌, ◌&&◌}
use mathlib.Core.Option.{none, some}
use mathlib.Core.List.{List, [], ◌∷◌, ◌++◌}
use native.Mathlib.Omega.{arith}
use lib.Dec.{eqb, ltb, leb}
use lib.ListN.{length, get_or, length-append, length-take}
use borrow.Author.Tests.{ltb-false, leb-true}
use Rattle.format.proofs.Ground.Tests.{and_right}
use Rattle.format.proofs.Text.Units.{length_units}
use Rattle.format.proofs.Trees.PickedReading.{pick_by, stop_if_by}
use Rattle.format.specs.Bytes.{le_at, part}
use Rattle.format.specs.Text.{units}
use Rattle.format.specs.declared.Range.{Range}
use Rattle.format.specs.Trees.{Stop, at, fault, Read, ends, entered, follow, then, fixed_value, text_units, text_value, bytes_value, level_end}
use Rattle.format.specs.Trees.{Children, children_or9, level_value, fixed_len, value, known, ChildrenAt, entry_of, record_at, records, children_at}
use Rattle.format.specs.Trees.{read, tree_in, most_items, most_depth, packed_type}
use Rattle.format.specs.declared.Entry.{Entry}

-- where a reading stops, and the level's end where it faults
abbrev reach : ℕ → Stop → ℕ
reach e (at p) = p
reach e (fault n) = e

-- a tree's faults are 6 to 10
abbrev Low : Stop → Type 0
Low (at p) = Unit {0}
Low (fault n) = n ≤ 10

-- from i on there are two bytes for each entry
record Fits (i e : ℕ) (r : Read) : Type 0 where
  room : i + 2 * length r.entries ≤ reach e r.stop
  within : reach e r.stop ≤ e
  low : Low r.stop

text_units_is : (d : List ℕ) → text_units d ≤ length d
unfolding text_units
text_units_is [] = omega arith
text_units_is (u ∷ us) = go (eqb u 0) (text_units_is us)
  where
    go : (b : Bool) → text_units us ≤ length us → cond b 0 (suc (text_units us)) ≤ suc (length us)
    go true h = omega arith
    go false h = omega arith

module _ (start v e : ℕ) (head : start + 2 ≤ v) (fits : v ≤ e) (entry : ℕ → ℕ → Entry) where
  fixed_fits : (n : ℕ) → Fits start e (fixed_value n v e entry)
  unfolding fixed_value
  fixed_fits n = go (leb (v + n) e) refl
    where
      go : (b : Bool) → leb (v + n) e ≡ b → Fits start e (entered (entry v n) (cond b (at (v + n)) (fault 6)))
      go true q = let h = leb-true (v + n) e q in record { room = omega arith; within = omega arith; low = omega arith }
      go false q = record { room = omega arith; within = omega arith; low = omega arith }

  text_fits : (d : List ℕ) → Fits start e (text_value d v e entry)
  unfolding text_value
  text_fits d = go (text_units us) (leb (v + 2 * text_units us + 2) e) refl (rw length_units at (text_units_is us))
    where
      us : List ℕ
      us = units ((e - v) / 2) d v

      go : (n : ℕ) (b : Bool) → leb (v + 2 * n + 2) e ≡ b → n ≤ (e - v) / 2 → Fits start e (entered (entry v (2 * n)) (at (cond b (v + 2 * n + 2) (v + 2 * n))))
      go n true q k = let h = leb-true (v + 2 * n + 2) e q in record { room = omega arith; within = omega arith; low = omega arith }
      go n false q k = record { room = omega arith; within = omega arith; low = omega arith }

  bytes_fits : (d : List ℕ) → Fits start e (bytes_value d v e entry)
  unfolding bytes_value
  bytes_fits d = go (le_at 8 d v) (leb (v + 8) e && leb (v + 8 + le_at 8 d v) e) refl
    where
      go : (n : ℕ) (b : Bool) → (leb (v + 8) e && leb (v + 8 + n) e) ≡ b → Fits start e (entered (entry (v + 8) n) (cond b (at (v + 8 + n)) (fault 6)))
      go n true q =
          let h = leb-true (v + 8 + n) e (and_right (leb (v + 8) e) (leb (v + 8 + n) e) q) in
          record { room = omega arith; within = omega arith; low = omega arith }
      go n false q = record { room = omega arith; within = omega arith; low = omega arith }

  faulted : (a n k : ℕ) → k ≤ 10 → Fits start e (entered (entry a n) (fault k))
  faulted a n k low = record { room = omega arith; within = omega arith; low = omega arith }

-- what reads children keeps to this
abbrev Kids : Children → Type 0
Kids none = Unit {0}
Kids (some children) = (count from to : ℕ) → from ≤ to → Fits from to (children count from to)

module _ (start v e : ℕ) (head : start + 2 ≤ v) (fits : v ≤ e) (entry : ℕ → ℕ → Entry) where
  end_fits : (es : List Entry) (t : Stop) (count from to : ℕ) → v ≤ from → to ≤ e → Fits from to (record { entries = es; stop = t })
      → Fits start e (then (entered (entry from (to - from)) (at from)) λ n p. follow es t λ m q. ends (level_end count to e))
  unfolding follow level_end
  end_fits es (fault k) count from to h₁ h₂ f = record { room = omega arith; within = omega arith; low = f.low }
  end_fits es (at q) count from to h₁ h₂ f = go (leb (to + 8 * count) e) refl
    where
      go : (b : Bool) → leb (to + 8 * count) e ≡ b
          → Fits start e (record { entries = (entry from (to - from) ∷ []) ++ es ++ []; stop = cond b (at (to + 8 * count)) (fault 6) })
      go true q = let h = leb-true (to + 8 * count) e q in record { room = rw length-append (omega arith); within = omega arith; low = omega arith }
      go false q = record { room = rw length-append (omega arith); within = omega arith; low = omega arith }

  kids_fits : (c : Children) → Kids c → (count from to : ℕ) → v ≤ from → from ≤ to → to ≤ e → Fits start e (children_or9 c count from to entry e)
  unfolding children_or9
  kids_fits none k count from to h₁ h₂ h₃ = faulted start v e head fits entry from (to - from) 9 (omega arith)
  kids_fits (some children) k count from to h₁ h₂ h₃ =
      end_fits (children count from to).entries (children count from to).stop count from to h₁ h₃ (k count from to h₂)

  level_fits : (d : List ℕ) (c : Children) → Kids c → Fits start e (level_value d c start v e entry)
  unfolding level_value
  level_fits d c k =
      pick_by F (ltb e (v + 4)) _ _ (λ q. wrong 6 (omega arith)) λ q₁.
      pick_by F (ltb most_items (le_at 4 d v)) _ _ (λ q. wrong 10 (omega arith)) λ q₂.
      pick_by F (ltb e (v + 12)) _ _ (λ q. wrong 6 (omega arith)) λ q₃.
      pick_by F (ltb (start + le_at 8 d (v + 4)) (v + 12)) _ _ (λ q. wrong 10 (omega arith)) λ q₄.
      pick_by F (ltb e (start + le_at 8 d (v + 4))) _ _ (λ q. wrong 6 (omega arith)) λ q₅.
      let h₄ = ltb-false (start + le_at 8 d (v + 4)) (v + 12) q₄ in
      let h₅ = ltb-false e (start + le_at 8 d (v + 4)) q₅ in
      kids_fits c k (le_at 4 d v) (v + 12) (start + le_at 8 d (v + 4)) (omega arith) h₄ h₅
    where
      F : Read → Type 0
      F = Fits start e

      wrong : (n : ℕ) → n ≤ 10 → Fits start e (entered (entry v 0) (fault n))
      wrong n low = faulted start v e head fits entry v 0 n low

  value_fits : (d : List ℕ) (c : Children) (k : ℕ) → Kids c → Fits start e (value d c k start v e entry)
  unfolding value
  value_fits d c k h =
      pick_by (Fits start e) (eqb k 11) _ _ (λ q. level_fits d c h) λ q₁.
      pick_by (Fits start e) (eqb k 9) _ _ (λ q. bytes_fits start v e head fits entry d) λ q₂.
      pick_by (Fits start e) (eqb k 8) _ _ (λ q. text_fits start v e head fits entry d) λ q₃.
      fixed_fits start v e head fits entry (fixed_len k)

-- no entry
empty_fits : (i e k : ℕ) → k ≤ 10 → i ≤ e → Fits i e (ends (fault k))
empty_fits i e k l h = record { room = omega arith; within = omega arith; low = omega arith }

record_fits : (d : List ℕ) (base : ℕ) (c : ChildrenAt) (parent used i e : ℕ) → Kids (c used) → i ≤ e → Fits i e (record_at d base c parent used i e)
unfolding record_at
record_fits d base c parent used i e k h =
    let n = get_or d (i + 1) 0 in
    stop_if_by F (eqb (get_or d i 0) packed_type) 8 _ (λ q. empty_fits i e 8 (omega arith) h) λ q₁.
    stop_if_by F (eqb (get_or d i 0) 0 || eqb (get_or d i 0) 10) 7 _ (λ q. empty_fits i e 7 (omega arith) h) λ q₂.
    stop_if_by F (ltb e (i + 2 + 2 * n)) 6 _ (λ q. empty_fits i e 6 (omega arith) h) λ q₃.
    stop_if_by F (not (known (get_or d i 0))) 7 _ (λ q. empty_fits i e 7 (omega arith) h) λ q₄.
    let h₃ = ltb-false e (i + 2 + 2 * n) q₃ in
    value_fits i (i + 2 + 2 * n) e (omega arith) h₃ (entry_of d base parent i) d (c used) (get_or d i 0) k
  where
    F : Read → Type 0
    F = Fits i e

then_fits : (i e : ℕ) (es : List Entry) (t : Stop) (k : ℕ → ℕ → Read) → Fits i e (record { entries = es; stop = t })
    → ((p : ℕ) → p ≤ e → Fits p e (k (length es) p)) → Fits i e (follow es t k)
unfolding follow
then_fits i e es (fault n) k f g = f
then_fits i e es (at p) k f g =
    let h : p ≤ e = f.within in
    let r = g p h in
    record { room = rw length-append (omega arith); within = r.within; low = r.low }

records_fits : (d : List ℕ) (base : ℕ) (c : ChildrenAt) → ((u : ℕ) → Kids (c u)) → (parent count used i e : ℕ) → i ≤ e
    → Fits i e (records d base c parent count used i e)
unfolding records
records_fits d base c k parent zero used i e h = record { room = omega arith; within = h; low = omega arith }
records_fits d base c k parent (suc count) used i e h =
    pick_by (Fits i e) (ltb e (i + 2)) _ _ (λ q. record { room = omega arith; within = h; low = omega arith }) λ q.
    then_fits i e (record_at d base c parent used i e).entries (record_at d base c parent used i e).stop _ (record_fits d base c parent used i e (k used) h)
    λ p hp. records_fits d base c k parent count (used + length (record_at d base c parent used i e).entries) p e hp

children_fits : (levels : ℕ) (d : List ℕ) (base used : ℕ) → Kids (children_at levels d base used)
unfolding children_at
children_fits zero d base used = tt
children_fits (suc levels) d base used =
    λ count from to h. records_fits d base (children_at levels d base) (children_fits levels d base) (suc used) count (suc used) from to h

fits_tree : (s : List ℕ) (r : Range) → Fits 0 (length (part s r.start r.len)) (tree_in s r)
unfolding tree_in read
fits_tree s r =
    let d = part s r.start r.len in
    records_fits d r.start (children_at most_depth d r.start) (children_fits most_depth d r.start) 0 1 0 0 (length d) (omega arith)

-- a tree's fault is never 18
pub fault_low : (s : List ℕ) (r : Range) (n : ℕ) → (tree_in s r).stop ≡ fault n → n ≤ 10
fault_low s r n e = subst Low e (fits_tree s r).low

-- a table with an entry for every two bytes of a tree is always enough
pub suffices : (s : List ℕ) (r : Range) → length (tree_in s r).entries ≤ r.len / 2
unfolding part
suffices s r =
    let f = fits_tree s r in
    let h : length (part s r.start r.len) ≤ r.len = rw length-take (omega arith) in
    omega (arith, f.room, f.within)
