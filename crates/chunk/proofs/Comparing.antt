-- Bytes compared part by part, in any order: the parts joined, and the answer. Assumes nothing.
use Prim.Native.Nat.{ℕ, zero, suc, ◌+◌, ◌-◌, ◌≤◌, ◌<◌}
use mathlib.Core.Path.{◌≡◌, refl, sym, ap, ◌∙◌}
use mathlib.Core.Bool.{Bool, true, false, ◌&&◌, true≢false, false≢true}
use mathlib.Core.List.{List}
use native.Mathlib.Omega.{arith}
use native.Mathlib.Nat.{add_assoc, add-zero, add-suc, suc-add}
use lib.Dec.{eqb, ltb}
use lib.ListN.{length, get_or}
use lib.Seq.{ext_get_or}
use borrow.Author.Tests.{eqb-true, eqb-false, ltb-true, ltb-false}
use Rattle.format.specs.Bytes.{le_at, le_bytes, part, ascii, same}
use Rattle.format.specs.Map.{end_mark}
use Rattle.format.proofs.Ground.Bytes.{AllBytes, le_bytes_is, part_length, part_at, part_other}
use Rattle.format.proofs.Ground.Tests.{same_true, true_same, false_same}
use Rattle.cursor.specs.Words.{SameBytes}
use Rattle.chunk.specs.Alike.{Alike, Foreign, Tells}

-- a number in bytes that stand elsewhere too
le_moved : (n : ℕ) (s t : List ℕ) (i j : ℕ) → ((k : ℕ) → k < n → get_or s (i + k) 0 ≡ get_or t (j + k) 0) → le_at n s i ≡ le_at n t j
unfolding le_at
le_moved zero s t i j f = refl
le_moved (suc n) s t i j f =
    let first = rw (add-zero, add-zero) at (f 0 (omega arith)) in
    rw (first, le_moved n s t (suc i) (suc j) λ k l. rw (suc-add, suc-add, ← add-suc, ← add-suc) (f (suc k) (omega arith)))

-- a number in bytes tells each of them
le_bytes_of : (n : ℕ) (s t : List ℕ) (i j : ℕ) → ((k : ℕ) → get_or s k 0 < 256) → ((k : ℕ) → get_or t k 0 < 256) → le_at n s i ≡ le_at n t j → (k : ℕ) → k < n
    → get_or s (i + k) 0 ≡ get_or t (j + k) 0
unfolding le_at
le_bytes_of zero s t i j f g e k h = absurd (omega arith)
le_bytes_of (suc n) s t i j f g e zero h = rw (add-zero, add-zero) (omega (arith, f i, g j))
le_bytes_of (suc n) s t i j f g e (suc k) h =
    rw (add-suc, add-suc, ← suc-add, ← suc-add) (le_bytes_of n s t (suc i) (suc j) f g (omega (arith, f i, g j)) k (omega arith))

module _ {s : List ℕ} {at : ℕ} {e : List ℕ} where
  pub alike_none : (i n : ℕ) → n ≤ i → Alike s at e i n
  alike_none i n h = record { equal = λ k l m. absurd (omega arith) }

  pub alike_one : (n : ℕ) → get_or s (at + n) 0 ≡ get_or e n 0 → Alike s at e n (n + 1)
  alike_one n q = record { equal = λ k l m. let z : k ≡ n = omega arith in rw z q }

  pub differ_one : (n : ℕ) → (get_or s (at + n) 0 ≡ get_or e n 0 → ⊥) → Alike s at e n (n + 1) → ⊥
  differ_one n q a = q (a.equal n (omega arith) (omega arith))

  pub alike_join : {a b c d : ℕ} → Alike s at e a b → Alike s at e c d → c ≤ b → Alike s at e a d
  alike_join {a} {b} {c} {d} f g h = record { equal = λ k l m. by k l m (ltb k b) refl }
    where
      by : (k : ℕ) → k < d → a ≤ k → (t : Bool) → ltb k b ≡ t → get_or s (at + k) 0 ≡ get_or e k 0
      by k l m true q = f.equal k (ltb-true k b q) m
      by k l m false q = let o = ltb-false k b q in g.equal k l (omega arith)

  pub narrow : {a b c d : ℕ} → Alike s at e a b → a ≤ c → d ≤ b → Alike s at e c d
  narrow f h j = record { equal = λ k l m. f.equal k (omega arith) (omega arith) }

  -- a part decides: where it differs, the whole does, and where the rest is alike, as it does
  pub differs : {a b c d : ℕ} → (Alike s at e c d → ⊥) → a ≤ c → d ≤ b → Tells false (Alike s at e a b)
  differs f h j = record { yes = λ q. absurd (false≢true q); no = λ q g. f (narrow g h j) }

  pub tells_join : {t : Bool} {a n i m : ℕ} → Tells t (Alike s at e a n) → Alike s at e i m → i ≤ n → n ≤ m → Tells t (Alike s at e a m)
  tells_join f g h j = record { yes = λ q. alike_join (f.yes q) g h; no = λ q w. f.no q (narrow w (omega arith) j) }

  pub tells_none : (i n : ℕ) → n ≤ i → Tells true (Alike s at e i n)
  tells_none i n h = record { yes = λ q. alike_none i n h; no = λ q. absurd (true≢false q) }

  -- one byte more
  pub tells_more : (t : Bool) (i j : ℕ) → Tells t (Alike s at e i (i + j))
      → Tells (t && eqb (get_or s (at + i + j) 0) (get_or e (i + j) 0)) (Alike s at e i (i + (j + 1)))
  tells_more true i j f =
      let z : i + (j + 1) ≡ i + j + 1 = omega arith in
      rw (add_assoc at i j, z)
      (record {
        yes = λ q. alike_join (f.yes refl) (alike_one (i + j) (eqb-true _ _ q)) (omega arith);
        no = λ q w. eqb-false _ _ q (w.equal (i + j) (omega arith) (omega arith));
      })
  tells_more false i j f = differs (f.no refl) (omega arith) (omega arith)

  -- n bytes compared at once
  pub tells_bytes : {t : Bool} (i n p : ℕ) → p ≡ at + i → (t ≡ true → SameBytes s p e i n) → (t ≡ false → SameBytes s p e i n → ⊥)
      → Tells t (Alike s at e i (i + n))
  tells_bytes i n p q f g =
      record {
        yes = λ y. record { equal = λ k l m. by k (k - i) (omega arith) (f y (k - i) (omega arith)) };
        no = λ y a. g y λ k l. rw (q, add_assoc at i k) (a.equal (i + k) (omega arith) (omega arith));
      }
    where
      by : (k j : ℕ) → k ≡ i + j → get_or s (p + j) 0 ≡ get_or e (i + j) 0 → get_or s (at + k) 0 ≡ get_or e k 0
      by k j z h = rw (q, add_assoc at i j, ← z) at h

  -- two parts, one behind the other
  pub tells_both : (t u : Bool) {a n m : ℕ} → Tells t (Alike s at e a n) → Tells u (Alike s at e n m) → a ≤ n → n ≤ m → Tells (t && u) (Alike s at e a m)
  tells_both true true f g h j = record { yes = λ q. alike_join (f.yes refl) (g.yes refl) (omega arith); no = λ q. absurd (true≢false q) }
  tells_both true false f g h j = differs (g.no refl) h (omega arith)
  tells_both false u f g h j = differs (f.no refl) (omega arith) j

  number_alike : (k i : ℕ) → Alike s at e i (i + k) → le_at k s (at + i) ≡ le_at k e i
  number_alike k i a = le_moved k s e (at + i) i λ j o. rw (add_assoc at i j) (a.equal (i + j) (omega arith) (omega arith))

  -- k bytes compared as a number
  pub tells_number : ((j : ℕ) → get_or s j 0 < 256) → ((j : ℕ) → get_or e j 0 < 256) → (k i : ℕ) {x : ℕ} → x ≡ le_at k s (at + i)
      → Tells (eqb x (le_at k e i)) (Alike s at e i (i + k))
  tells_number f g k i {x} q = record { yes = λ y. by (sym q ∙ eqb-true _ _ y); no = λ y a. eqb-false _ _ y (q ∙ number_alike k i a) }
    where
      by : le_at k s (at + i) ≡ le_at k e i → Alike s at e i (i + k)
      by z =
          record {
            equal = λ j l m.
                let o : i + (j - i) ≡ j = omega arith in
                rw (add_assoc at i (j - i), o) at (le_bytes_of k s e (at + i) i f g z (j - i) (omega arith));
          }

  part_alike : part s at (length e) ≡ e → Alike s at e 0 (length e)
  part_alike z = record { equal = λ k l m. sym (part_at s at (length e) k l) ∙ ap (λ (x : List ℕ). get_or x k 0) z }

  -- where there is no room for e, or a number in it differs, no part is e
  pub foreign_short : length s < at + length e → Foreign s at e
  foreign_short h = record { other = λ n l. part_other s e at n l (omega arith) }

  pub foreign_number : (k i : ℕ) → i + k ≤ length e → (le_at k s (at + i) ≡ le_at k e i → ⊥) → Foreign s at e
  foreign_number k i h f = record { other = λ n l. false_same _ _ (by n l) }
    where
      by : (n : ℕ) → at + n ≤ length s → part s at n ≡ e → ⊥
      by n l z =
          let q : n ≡ length e = sym (part_length s at n l) ∙ ap length z in
          let a = part_alike (rw q at z) in
          f (number_alike k i (narrow a (omega arith) h))

  pub told : {t : Bool} → at + length e ≤ length s → Tells t (Alike s at e 0 (length e)) → t ≡ same (part s at (length e)) e
  told {t} f h = by (same (part s at (length e)) e) refl t h
    where
      q : length (part s at (length e)) ≡ length e
      q = part_length s at (length e) f

      equals : Alike s at e 0 (length e) → part s at (length e) ≡ e
      equals a =
          ext_get_or 0 (part s at (length e)) e q λ k o. let l : k < length e = omega (arith, q) in part_at s at (length e) k l ∙ a.equal k l (omega arith)

      by : (b : Bool) → same (part s at (length e)) e ≡ b → (t : Bool) → Tells t (Alike s at e 0 (length e)) → t ≡ b
      by true z true g = refl
      by false z false g = refl
      by true z false g = absurd (g.no refl (part_alike (same_true _ _ z)))
      by false z true g = absurd (false≢true (sym z ∙ true_same _ _ (equals (g.yes refl))))

-- ---- the end mark, compared as four numbers

mark_bytes : (j : ℕ) → get_or end_mark j 0 < 256
unfolding end_mark ascii le_at le_bytes AllBytes
mark_bytes = le_bytes_is 32 (le_at 32 end_mark 0)

abbrev marks : ℕ → ℕ → Bool
marks i x = eqb x (le_at 8 end_mark i)

pub told_mark : (s : List ℕ) (at : ℕ) → ((j : ℕ) → get_or s j 0 < 256) → at + 32 ≤ length s → {a b c d : ℕ} → a ≡ le_at 8 s at → b ≡ le_at 8 s (at + 8)
    → c ≡ le_at 8 s (at + 16) → d ≡ le_at 8 s (at + 24) → (((marks 0 a && marks 8 b) && marks 16 c) && marks 24 d) ≡ same (part s at 32) end_mark
unfolding end_mark ascii
told_mark s at f h {a} p q r t =
    let two = tells_both _ _ (word 0 {x = a} (rw add-zero p)) (word 8 q) (omega arith) (omega arith) in
    let three = tells_both _ _ two (word 16 r) (omega arith) (omega arith) in
    told {e = end_mark} h (tells_both _ _ three (word 24 t) (omega arith) (omega arith))
  where
    word : (i : ℕ) {x : ℕ} → x ≡ le_at 8 s (at + i) → Tells (marks i x) (Alike s at end_mark i (i + 8))
    word i q = tells_number f mark_bytes 8 i q
