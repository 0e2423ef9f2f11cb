-- The parameters and the counts of a loop. Assumes nothing.
use Prim.Native.Nat.{ℕ, suc, ◌+◌, ◌-◌, ◌≤◌, ◌<◌}
use mathlib.Core.Path.{◌≡◌, refl, sym, ap, ◌∙◌}
use mathlib.Core.Bool.{Bool, true, false, cond, not}
use mathlib.Core.Option.{Option, none, some}
use mathlib.Core.List.{List, [], ◌∷◌}
use native.Mathlib.Nat.{sub-zero}
use native.Mathlib.Numerals.{add-one}
use native.Mathlib.Omega.{arith}
use lib.Dec.{eqb}
use lib.ListN.{take, drop, get_elem?, drop_of_length-le}
use lib.Seq.{take-nil}
use mir.Val.{bool_byte}
use Rattle.std.specs.Prelude as std
use Rattle.format.specs.Given.{maybe}
use Rattle.format.specs.Values.{list, value_at, as_level}
use Rattle.format.specs.Numbers.{unsigned}
use Rattle.format.specs.Loops.{or_zero, loop_params, count_set}
use Rattle.format.specs.declared.Entry.{Entry}
use Rattle.lookup.specs.Table.{found}
use Rattle.lookup.specs.Values.{head_of}
use Rattle.lookup.proofs.Elements.{head_kids, none_kids, get_drop, get_past}

-- a reading, or 0
pub or_zero_is : (n : std.Option ℕ) → std.unwrap_or n 0 ≡ or_zero (maybe n)
unfolding or_zero
or_zero_is (std.Some x) = refl
or_zero_is std.None = refl

-- ---- a list of just one level

module _ (s : List ℕ) (es : List Entry) (l : List ℕ) where
  pub only_none : none ≡ head_of l → none ≡ loop_params s es (some (list l))
  unfolding loop_params
  only_none h = rw (none_kids l h) refl

  module _ (i : ℕ) (h : some i ≡ head_of l) where
    pub only_one : (o : Option ℕ) → none ≡ get_elem? l 1 → o ≡ as_level (some (value_at s es i)) → o ≡ loop_params s es (some (list l))
    unfolding loop_params
    only_one o k q = let (js, e) = head_kids l i h in go js e
      where
        go : (js : List ℕ) → l ≡ i ∷ js → o ≡ loop_params s es (some (list l))
        go [] e = rw e q
        go (j ∷ js) e = absurd (let z : none ≡ some j = k ∙ rw e refl in let y : ◌≡◌ {A = ℕ} 0 1 = cc in omega arith)

    pub only_more : (j : ℕ) → some j ≡ get_elem? l 1 → none ≡ loop_params s es (some (list l))
    unfolding loop_params
    only_more j k = let (js, e) = head_kids l i h in go js e
      where
        go : (js : List ℕ) → l ≡ i ∷ js → none ≡ loop_params s es (some (list l))
        go [] e = absurd (let z : some j ≡ none = k ∙ rw e refl in let y : ◌≡◌ {A = ℕ} 0 1 = cc in omega arith)
        go (m ∷ js) e = rw e refl

-- ---- elements counted, one by one

-- `passed` of the first n of l are passed, `count` of them set, and the next one is at hand
pub record Counting (s : List ℕ) (es : List Entry) (l : List ℕ) (n passed count : ℕ) (next : std.Option ℕ) : Type 0 where
  pub few : count ≤ passed
  pub at : found next ≡ get_elem? l passed
  pub sum : count + count_set s es (take (n - passed) (drop passed l)) ≡ count_set s es (take n l)

module _ (s : List ℕ) (es : List Entry) (l : List ℕ) (n : ℕ) where
  pub counting_first : (next : std.Option ℕ) → found next ≡ head_of l → Counting s es l n 0 0 next
  counting_first next h = record { few = omega arith; at = h; sum = rw sub-zero (omega arith) }

  module _ (passed count : ℕ) (next : std.Option ℕ) (k : Counting s es l n passed count next) where
    pub counting_done : n ≤ passed → count ≡ count_set s es (take n l)
    unfolding count_set
    counting_done h = let z : n - passed ≡ 0 = omega arith in omega (arith, rw z at k.sum)

    pub counting_end : next ≡ std.None → count ≡ count_set s es (take n l)
    unfolding count_set
    counting_end h =
        let e : none ≡ get_elem? l passed = sym (ap found h) ∙ k.at in
        omega (arith, rw (drop_of_length-le l (get_past l passed e), take-nil) at k.sum)

    pub counting_more : (i m : ℕ) (to : std.Option ℕ) → next ≡ std.Some i → passed < n → m ≡ bool_byte (not (eqb (or_zero (unsigned (value_at s es i))) 0))
        → ((j : ℕ) → get_elem? l j ≡ some i → found to ≡ get_elem? l (j + 1)) → Counting s es l n (passed + 1) (count + m) to
    unfolding count_set
    counting_more i m to h p q f =
        let e : get_elem? l passed ≡ some i = sym k.at ∙ ap found h in
        record { few = omega (arith, one (not (eqb (or_zero (unsigned (value_at s es i))) 0)), q); at = f passed e; sum = step e }
      where
        one : (b : Bool) → bool_byte b ≤ 1
        one true = omega arith
        one false = omega arith

        turned : (b : Bool) → bool_byte (not b) ≡ cond b 0 1
        turned true = refl
        turned false = refl

        part : get_elem? l passed ≡ some i → (j : ℕ) → n - passed ≡ suc j
            → count_set s es (take (n - passed) (drop passed l)) ≡ m + count_set s es (take j (drop (suc passed) l))
        part e j r = rw (r, get_drop l passed i e, q, turned) refl

        step : get_elem? l passed ≡ some i → (count + m) + count_set s es (take (n - (passed + 1)) (drop (passed + 1) l)) ≡ count_set s es (take n l)
        step e = rw (add-one passed) (omega (arith, part e (n - suc passed) (omega arith), k.sum))
