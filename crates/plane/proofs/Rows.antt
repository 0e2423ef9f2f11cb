-- Pieces of a list and rows of them: how long they are, and what one more makes of a buffer. Assumes nothing.
use Prim.Native.Nat.{ℕ, zero, suc, ◌+◌, ◌-◌, ◌*◌, ◌≤◌, ◌<◌}
use mathlib.Core.Path.{◌≡◌, refl, sym, ap, ap₂, ◌∙◌}
use mathlib.Core.List.{List, [], ◌∷◌, ◌++◌, append_assoc, append-nil}
use native.Mathlib.Nat.{add-zero, add-suc, suc-mul, zero-mul, mul-one, add-mul, le_trans, mul-le-mul_right, add-sub_cancel_left}
use native.Mathlib.Numerals.{add-one}
use native.Mathlib.Omega.{arith}
use lib.ListN.{length, take, drop, get_or, set, length-append}
use lib.Seq.{drop-cons, drop-drop, drop-append-add, sets, sets-eq}
use borrow.Rule.Slice.PartMut.{put_mid}
use Rattle.format.specs.Bytes.{part, over}
use Rattle.format.proofs.Ground.Bytes.{part_length, sets_append}
use Rattle.format.proofs.Ground.Buffers.{part_part, part_join, over_all, over_more, over_stored}
use Rattle.plane.specs.Pieces.{pieces, rows}

-- turn k of n, of a bytes each, ends within them
pub turn : (k n a : ℕ) → k < n → k * a + a ≤ n * a
turn k n a h = rw (← suc-mul) (mul-le-mul_right a h)

pub length_part : (s : List ℕ) (i n : ℕ) → i + n ≤ length s → length (take n (drop i s)) ≡ n
unfolding part
length_part s i n h = part_length s i n h

-- ---- pieces

module _ (s : List ℕ) (at step size : ℕ) (apart : at + size ≤ step) where
  pub pieces_length : (k : ℕ) → k * step ≤ length s → length (pieces s at step size k) ≡ k * size
  unfolding pieces
  pieces_length zero h = sym (zero-mul size)
  pieces_length (suc k) h =
      let h₂ : k * step + step ≤ length s = rw suc-mul at h in
      let e = pieces_length k (omega arith) in
      rw (length-append, e, part_length s (at + k * step) size (omega arith), suc-mul)

-- the pieces of a part are pieces of the whole
pub pieces_part : (s : List ℕ) (i n at step size k : ℕ) → at + size ≤ step → k * step ≤ n → pieces (part s i n) at step size k ≡ pieces s (at + i) step size k
unfolding pieces
pieces_part s i n at step size zero h hk = refl
pieces_part s i n at step size (suc k) h hk =
    let h₂ : k * step + step ≤ n = rw suc-mul at hk in
    let e : i + (at + k * step) ≡ at + i + k * step = omega arith in
    ap₂ ◌++◌ (pieces_part s i n at step size k h (omega arith)) (part_part s i n (at + k * step) size (omega arith) ∙ rw e refl)

-- n pieces behind k of them
pieces_append : (s : List ℕ) (at step size k n : ℕ) → pieces s at step size k ++ pieces s (at + k * step) step size n ≡ pieces s at step size (k + n)
unfolding pieces
pieces_append s at step size k zero = rw (append-nil, add-zero)
pieces_append s at step size k (suc n) =
    let e : at + k * step + n * step ≡ at + (k + n) * step = rw add-mul (omega arith) in
    rw (← append_assoc, pieces_append s at step size k n, e, add-suc) refl

module _ (s : List ℕ) (at step size : ℕ) (apart : at + size ≤ step) where
  -- n of them over the first k of them
  pub over_first : (d : List ℕ) (k n : ℕ) → k ≤ n → n * step ≤ length s
      → over (pieces s at step size n) (over (pieces s at step size k) d) ≡ over (pieces s at step size n) d
  unfolding over
  over_first d k n h hn =
      let hk : k * step ≤ length s = le_trans (mul-le-mul_right step h) hn in
      let p = pieces s at step size k in
      let l = pieces_length s at step size apart k hk in
      let rest = n * size - k * size in
      let e : n * size ≡ length p + rest = omega (arith, l, mul-le-mul_right size h) in
      ap (λ (l : List ℕ). pieces s at step size n ++ l)
      (rw (pieces_length s at step size apart n hn, e) (drop-append-add p (drop (length p) d) rest ∙ drop-drop rest (length p) d))

  -- the bytes of d behind k of them, replaced by the next n
  pub pieces_more : (d₀ d q : List ℕ) (k n : ℕ) → d ≡ over (pieces s at step size k) d₀ → (k + n) * step ≤ length s → (k + n) * size ≤ length d₀
      → q ≡ sets d (k * size) (pieces s (at + k * step) step size n) → q ≡ over (pieces s at step size (k + n)) d₀
  pieces_more d₀ d q k n before hk hd eq =
      let p = pieces s at step size k in
      let x = pieces s (at + k * step) step size n in
      let joined : p ++ x ≡ pieces s at step size (k + n) = pieces_append s at step size k n in
      let first : length p ≡ k * size = pieces_length s at step size apart k (omega (arith, add-mul k n step)) in
      let all : length p + length x ≡ (k + n) * size =
      sym (length-append p x) ∙ ap length joined ∙ pieces_length s at step size apart (k + n) hk in
      eq ∙ rw before (over_stored p x d₀ (k * size) first (omega (arith, first, all))) ∙ ap (λ (y : List ℕ). over y d₀) joined

  -- by the next one of so many
  pub next_more : (d₀ d q : List ℕ) (k count : ℕ) → d ≡ over (pieces s at step size k) d₀ → k < count → count * step ≤ length s → count * size ≤ length d₀
      → q ≡ sets d (k * size) (part s (at + k * step) size) → q ≡ over (pieces s at step size (k + 1)) d₀
  unfolding pieces
  next_more d₀ d q k count before h hk hd eq =
      let e : at + k * step + 0 * step ≡ at + k * step = omega arith in
      let single : part s (at + k * step) size ≡ pieces s (at + k * step) step size 1 = rw e refl in
      let in-s = mul-le-mul_right step h in
      let in-d = mul-le-mul_right size h in
      pieces_more d₀ d q k 1 before (omega (arith, in-s)) (omega (arith, in-d)) (eq ∙ ap (sets d (k * size)) single)

-- pieces with nothing between them are one
pub pieces_joined : (s : List ℕ) (at size k : ℕ) → pieces s at size size k ≡ part s at (k * size)
unfolding pieces part
pieces_joined s at size zero = rw zero-mul refl
pieces_joined s at size (suc k) = rw (pieces_joined s at size k, suc-mul) (part_join s at (k * size) size)

-- so they are copied at once to the front of d
pub pieces_once : (s d q : List ℕ) (w step k : ℕ) → w ≡ step → k * w ≤ length s → q ≡ part s 0 (k * w) → q ++ drop (k * w) d ≡ over (pieces s 0 step w k) d
unfolding over
pieces_once s d q w step k e h eq =
    rw (← e, pieces_joined s 0 w k, part_length s 0 (k * w) (omega arith), eq) refl

-- ---- bytes stored

-- the bytes of d from `to` on replaced by those of s from `from` on, n of them
pub put_stored : (s d q : List ℕ) (from to n : ℕ) → from + n ≤ length s → to + n ≤ length d → q ≡ part s from (from + n - from)
    → put_mid to (to + n - to) d q ≡ sets d to (part s from n)
put_stored s d q from to n hs hd e =
    let p = part s from n in
    let l : length p ≡ n = part_length s from n hs in
    rw (add-sub_cancel_left, e, add-sub_cancel_left, drop-drop, ← append_assoc) (sym (sets-eq p d to (rw l hd) ∙ rw l refl))

-- ---- four pieces stored one behind the other

one : (s : List ℕ) (i : ℕ) → i < length s → part s i 1 ≡ get_or s i 0 ∷ []
unfolding part
one s i h = rw (drop-cons s i 0 h) refl

-- ys stored behind the n bytes xs
stored : (d xs ys : List ℕ) (to n : ℕ) → length xs ≡ n → sets (sets d to xs) (to + n) ys ≡ sets d to (xs ++ ys)
stored d xs ys to n e = rw (← e) (sym (sets_append xs ys d to))

pub four_stored : (s d : List ℕ) (from step size to : ℕ) → from + 3 * step + size ≤ length s
    → sets (sets (sets (sets d to (part s from size)) (to + size) (part s (from + step) size)) (to + 2 * size) (part s (from + 2 * step) size)) (to + 3 * size)
    (part s (from + 3 * step) size)
    ≡ sets d to (pieces s from step size 4)
unfolding pieces
four_stored s d from step size to h =
    let e₀ : from + 0 * step ≡ from = omega arith in
    let e₁ : from + 1 * step ≡ from + step = omega arith in
    let p₀ = part s from size in
    let p₁ = part s (from + step) size in
    let p₂ = part s (from + 2 * step) size in
    let p₃ = part s (from + 3 * step) size in
    let l₀ : length p₀ ≡ size = part_length s from size (omega arith) in
    let l₁ : length (p₀ ++ p₁) ≡ 2 * size = rw (length-append, l₀, part_length s (from + step) size (omega arith)) (omega arith) in
    let l₂ : length ((p₀ ++ p₁) ++ p₂) ≡ 3 * size = rw (length-append, l₁, part_length s (from + 2 * step) size (omega arith)) (omega arith) in
    rw (e₀, e₁, stored d p₀ p₁ to size l₀, stored d (p₀ ++ p₁) p₂ to (2 * size) l₁, stored d ((p₀ ++ p₁) ++ p₂) p₃ to (3 * size) l₂) refl

-- ---- pieces of one byte

-- the byte of d behind k of them, replaced by the next
pub byte_more : (s d₀ d : List ℕ) (at step k v : ℕ) → at + 1 ≤ step → d ≡ over (pieces s at step 1 k) d₀ → k * step + step ≤ length s → k < length d₀
    → v ≡ get_or s (at + k * step) 0 → set d k v ≡ over (pieces s at step 1 (k + 1)) d₀
unfolding pieces
byte_more s d₀ d at step k v apart before hk hd ev =
    let next : part s (at + k * step) 1 ≡ v ∷ [] = rw ev (one s (at + k * step) (omega arith)) in
    let p = pieces s at step 1 k in
    let l : length p ≡ k = pieces_length s at step 1 apart k (omega arith) ∙ mul-one k in
    rw (before, add-one) (over_stored p (v ∷ []) d₀ k l (omega arith) ∙ ap (λ (x : List ℕ). over (p ++ x) d₀) (sym next))

-- the byte of pair k at `at`
pub half_of : (s : List ℕ) (at k : ℕ) → at < 2 → get_or (get_or s (2 * k) 0 ∷ (get_or s (2 * k + 1) 0 ∷ [])) at 0 ≡ get_or s (at + k * 2) 0
half_of s zero k h = ap (λ (i : ℕ). get_or s i 0) (omega arith)
half_of s (suc zero) k h = ap (λ (i : ℕ). get_or s i 0) (omega arith)
half_of s (suc (suc at)) k h = absurd (omega arith)

-- ---- rows

module _ (s : List ℕ) (at stride step size width : ℕ) (apart : at + size ≤ step) (inside : width * step ≤ stride) where
  row_length : (k : ℕ) → k * stride + stride ≤ length s → length (pieces s (at + k * stride) step size width) ≡ width * size
  row_length k h =
      let p = part s (k * stride) stride in
      rw (← pieces_part s (k * stride) stride at step size width apart inside)
      (pieces_length p at step size apart width (rw (part_length s (k * stride) stride h) inside))

  pub rows_length : (k : ℕ) → k * stride ≤ length s → length (rows s at stride step size width k) ≡ k * (width * size)
  unfolding rows
  rows_length zero h = sym (zero-mul (width * size))
  rows_length (suc k) h =
      let h₂ : k * stride + stride ≤ length s = rw suc-mul at h in
      let e = rows_length k (omega arith) in
      rw (length-append, e, row_length k h₂, suc-mul)

  abbrev w : ℕ
  w = width * size

  -- the bytes of d behind k rows replaced by the next row
  pub row_more : (d₀ d q : List ℕ) (k : ℕ) → k * stride + stride ≤ length s → k * w + w ≤ length d → d ≡ over (rows s at stride step size width k) d₀
      → q ≡ over (pieces (take (k * stride + stride - k * stride) (drop (k * stride) s)) at step size width) (take (k * w + w - k * w) (drop (k * w) d))
      → put_mid (k * w) (k * w + w - k * w) d q ≡ over (rows s at stride step size width (k + 1)) d₀
  unfolding rows part
  row_more d₀ d q k hk hd ed eq =
      let row = pieces s (at + k * stride) step size width in
      let l : length row ≡ w = row_length k hk in
      let m : length (take (k * w + w - k * w) (drop (k * w) d)) ≡ w = rw add-sub_cancel_left (length_part d (k * w) w hd) in
      let q₁ : pieces (take (k * stride + stride - k * stride) (drop (k * stride) s)) at step size width ≡ row =
      rw add-sub_cancel_left (pieces_part s (k * stride) stride at step size width apart inside) in
      let q₂ : q ≡ row = eq ∙ rw q₁ (over_all row _ (l ∙ sym m)) in
      rw (add-sub_cancel_left, ed, add-one)
      (over_more (rows s at stride step size width k) q d₀ (k * w) w (rows_length k (omega arith)) (ap length q₂ ∙ l)
      ∙ ap (λ (x : List ℕ). over (rows s at stride step size width k ++ x) d₀) q₂)

-- rows with nothing between their samples
pub rows_joined : (s : List ℕ) (stride size width k : ℕ) → rows s 0 stride size size width k ≡ pieces s 0 stride (width * size) k
unfolding rows pieces
rows_joined s stride size width zero = refl
rows_joined s stride size width (suc k) = rw (rows_joined s stride size width k, pieces_joined s (0 + k * stride) size width) refl
