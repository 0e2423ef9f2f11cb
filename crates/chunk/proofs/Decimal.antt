-- A number's digits, the last first, before a '!'. Assumes nothing.
use Prim.Native.Nat.{ℕ, zero, suc, ◌+◌, ◌-◌, ◌/◌, ◌%◌, ◌^◌, ◌≤◌, ◌<◌}
use mathlib.Core.Path.{◌≡◌, refl, sym, ◌∙◌}
use mathlib.Core.List.{List, [], ◌∷◌, ◌++◌, append_assoc}
use native.Mathlib.Omega.{arith}
use lib.ListN.{length, drop, set, replicate, length-set, length-drop, take}
use lib.Seq.{drop-cons, get_or-set_same, drop-set-lt, sets, sets-eq, drop_at, take_all, length-take-le}
use native.Mathlib.Numerals.{towards_suc}
use Rattle.format.specs.Bytes.{ascii}
use Rattle.format.specs.Frames.{digits_from, decimal, frame_name}
use Rattle.format.proofs.Frames.Places.{digits_one, digits_more, digits_before, two_digits, fewer_digits}
use Rattle.chunk.specs.Spelling.{Spelled, Written}
use Rattle.chunk.specs.declared.frame.Name.{Name}

-- what is left to write is m, before position i
pub record Digits (n : ℕ) (name : List ℕ) (i m : ℕ) : Type 0 where
  pub left : ℕ
  pub place : i ≡ 20 + left
  pub high : i ≤ 39
  pub fit : m < 10 ^ suc left
  pub size : length name ≡ 40
  pub rest : decimal n ++ (33 ∷ []) ≡ digits_from (suc left) m (drop i name)

pub digits_start : (n : ℕ) → n < 2 ^ 64 → Digits n (set (replicate 40 0) 39 33) 39 n
unfolding decimal
digits_start n h =
    record { left = 19; place = refl; high = omega arith; fit = omega arith; size = refl; rest = digits_before 20 n [] (33 ∷ []) }

store : (l : List ℕ) (j v : ℕ) → j < length l → drop j (set l j v) ≡ v ∷ drop (suc j) l
store l j v h =
    drop-cons (set l j v) j 0 (rw length-set h) ∙ rw (get_or-set_same l j v 0 h, drop-set-lt (suc j) l j v (omega arith))

module _ {n : ℕ} {name : List ℕ} {i m : ℕ} (h : Digits n name i m) where
  pub digits_turn : 10 ≤ m → Digits n (set name (i - 1) (48 + m % 10)) (i - 1) (m / 10)
  digits_turn t = by h.left h.place h.fit h.rest
    where
      by : (k : ℕ) → i ≡ 20 + k → m < 10 ^ suc k → decimal n ++ (33 ∷ []) ≡ digits_from (suc k) m (drop i name)
          → Digits n (set name (i - 1) (48 + m % 10)) (i - 1) (m / 10)
      by zero p f r = let z : 2 ≤ 1 = two_digits 1 m t f in absurd (omega arith)
      by (suc k) p f r =
          let z : suc (i - 1) ≡ i = omega arith in
          let s : drop (i - 1) (set name (i - 1) (48 + m % 10)) ≡ (48 + m % 10) ∷ drop i name =
          store name (i - 1) (48 + m % 10) (omega (arith, h.size, h.high)) ∙ rw z in
          record {
            left = k;
            place = omega arith;
            high = omega (arith, h.high);
            fit = fewer_digits (suc k) m f;
            size = rw length-set h.size;
            rest = r ∙ digits_more (suc k) m (drop i name) t ∙ rw s;
          }

  pub digits_last : m < 10 → Written n (record { name = set name (i - 1) (48 + m); from = i - 1 })
  digits_last t =
      let z : suc (i - 1) ≡ i = omega (arith, h.place) in
      record {
        spelled = record {
          tail = store name (i - 1) (48 + m) (omega (arith, h.size, h.high)) ∙ (rw z) ∙ sym (h.rest ∙ digits_one h.left m (drop i name) t);
          high = omega (arith, h.high);
          size = rw length-set h.size;
        };
        low = omega (arith, h.place);
      }

-- ---- the name of a frame's chunk

abbrev prefix : List ℕ
prefix = 73 ∷ 109 ∷ 97 ∷ 103 ∷ 101 ∷ 68 ∷ 97 ∷ 116 ∷ 97 ∷ 83 ∷ 101 ∷ 113 ∷ 124 ∷ []

thirteen : (d : List ℕ) (i a b c e f g h j k l m n o : ℕ)
    → set (set (set (set
    (set (set (set (set (set (set (set (set (set d i a) (i + 1) b) (i + 2) c) (i + 3) e) (i + 4) f) (i + 5) g) (i + 6) h) (i + 7) j) (i + 8) k)
    (i + 9) l) (i + 10) m) (i + 11) n) (i + 12) o
    ≡ sets d i (a ∷ b ∷ c ∷ e ∷ f ∷ g ∷ h ∷ j ∷ k ∷ l ∷ m ∷ n ∷ o ∷ [])
thirteen d i a b c e f g h j k l m n o =
    let z9 : i + 9 ≡ suc (i + 8) = omega arith in
    let z10 : i + 10 ≡ suc (i + 9) = omega arith in
    let z11 : i + 11 ≡ suc (i + 10) = omega arith in
    let z12 : i + 12 ≡ suc (i + 11) = omega arith in
    simp (z9, z10, z11, z12, towards_suc)

-- thirteen bytes stored before n's digits
pub named : (n : ℕ) (r : Name) → Written n r → (i : ℕ) → i ≡ r.from - 13
    → drop i (set (set (set
    (set (set (set (set (set (set (set (set (set (set r.name i 73) (i + 1) 109) (i + 2) 97) (i + 3) 103) (i + 4) 101) (i + 5) 68) (i + 6) 97)
    (i + 7) 116) (i + 8) 97) (i + 9) 83) (i + 10) 101) (i + 11) 113) (i + 12) 124)
    ≡ frame_name n
unfolding frame_name ascii
named n r w i q =
    let t = w.spelled in
    let a : i + 13 ≡ r.from = omega (arith, w.low) in
    let b : i + 13 ≤ length r.name = omega (arith, t.high, t.size) in
    rw (thirteen r.name i, sets-eq prefix r.name i b, append_assoc)
    (drop_at (take i r.name) (prefix ++ drop (i + 13) r.name) i (length-take-le i r.name (omega arith))
    ∙ (rw (a, t.tail) (sym (append_assoc prefix (decimal n) (33 ∷ [])))))

-- the part of the array that is handed on is the text
pub name_part : (text : List ℕ) (r : Name) → Spelled text r → take (40 - r.from) (drop r.from r.name) ≡ text
name_part text r s = take_all (40 - r.from) (drop r.from r.name) (omega (arith, length-drop r.from r.name, s.size)) ∙ s.tail
