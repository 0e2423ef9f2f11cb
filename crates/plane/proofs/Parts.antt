-- Two lists in parts of one size: a block copied in one part, and all parts copied. Assumes nothing.
use Prim.Native.Nat.{ℕ, zero, suc, ◌+◌, ◌-◌, ◌*◌, ◌≤◌, ◌<◌}
use mathlib.Core.Path.{◌≡◌, refl, sym, ap, ap₂, ◌∙◌}
use mathlib.Core.Bool.{Bool, true, false}
use mathlib.Core.List.{List, ◌++◌, append-nil}
use native.Mathlib.Nat.{suc-mul, zero-mul, add-zero, zero-add}
use native.Mathlib.Omega.{arith}
use lib.Dec.{ltb}
use lib.ListN.{length, take, drop, take-append-drop}
use Rattle.std.proofs.lemmas.List.{length-take-le, take-append-le}
use lib.Seq.{take-take, drop-drop, drop-length}
use borrow.Author.Tests.{ltb-true, ltb-false}
use borrow.Author.Rules.{part_to_end}
use borrow.Rule.Slice.PartMut.{put_mid, take_put, drop_put}
use Rattle.format.specs.Bytes.{part}
use Rattle.format.proofs.Ground.Bytes.{part_length}
use Rattle.format.proofs.Ground.Buffers.{part_part, part_join, part_first, part_behind}
use Rattle.plane.specs.Parts.{Alike}
use Rattle.plane.proofs.Rows.{turn, length_part}

-- ---- d with q in the place of its bytes a .. e

module _ (a e : ℕ) (d q : List ℕ) (within : a ≤ e) (inside : e ≤ length d) (as_long : length q ≡ e - a) where
  pub part_before : (i n : ℕ) → i + n ≤ a → part (put_mid a (e - a) d q) i n ≡ part d i n
  unfolding part
  part_before i n h =
      let before : (l : List ℕ) → part (take a l) i n ≡ part l i n = λ l. part_part l 0 a i n h ∙ rw zero-add refl in
      sym (before (put_mid a (e - a) d q)) ∙ rw (take_put a (e - a) d q (omega arith)) (before d)

  pub part_after : (i n : ℕ) → e ≤ i → part (put_mid a (e - a) d q) i n ≡ part d i n
  unfolding part
  part_after i n h =
      let k : e + (i - e) ≡ i = omega arith in
      let after : (l : List ℕ) → drop (i - e) (drop e l) ≡ drop i l = λ l. rw (drop-drop, k) refl in
      ap (take n) (sym (after (put_mid a (e - a) d q)) ∙ rw (drop_put a e d q within inside as_long) (after d))

  pub part_put : part (put_mid a (e - a) d q) a (e - a) ≡ q
  unfolding part
  part_put =
      let l : length (take a d) ≡ a = length_part d 0 a (omega arith) in
      rw (l, add-zero) at (part_behind (take a d) (q ++ drop (e - a) (drop a d)) 0 (e - a)) ∙ part_first q (drop (e - a) (drop a d)) (e - a) as_long

-- ---- a block of n bytes, at x, copied in part after part

-- the parts from k on, of count, are alike in x bytes
abbrev pub Still : List ℕ → List ℕ → ℕ → ℕ → ℕ → ℕ → Type 0
Still s d size count k x = (j : ℕ) → k ≤ j → j < count → part d (j * size) x ≡ part s (j * size) x

module _ (s d q : List ℕ) (size count x n k : ℕ) (inside : x + n ≤ size) (equal : length s ≡ length d) (whole : count * size ≤ length d) (next : k < count)
    (same : q ≡ part s (x + k * size) (x + k * size + n - (x + k * size))) where
  abbrev at : ℕ
  at = x + k * size

  abbrev e : ℕ
  e = at + n

  room : e ≤ length d
  room = omega (arith, turn k count size next)

  as_long : length q ≡ e - at
  as_long = ap length same ∙ part_length s at (e - at) (omega (arith, room))

  abbrev put : List ℕ
  put = put_mid at (e - at) d q

  in_part : part d (k * size) x ≡ part s (k * size) x → part put (k * size) (x + n) ≡ part s (k * size) (x + n)
  in_part h =
      let from : k * size + x ≡ at = omega arith in
      let long : e - at ≡ n = omega arith in
      let first = part_before at e d q (omega arith) room as_long (k * size) x (omega arith) ∙ h in
      let then : part put at n ≡ part s at n =
      ap (part put at) (sym long) ∙ part_put at e d q (omega arith) room as_long ∙ same ∙ ap (part s at) long in
      sym (part_join put (k * size) x n) ∙ ap₂ ◌++◌ first (rw from then) ∙ part_join s (k * size) x n

  pub block_more : Alike s d size k (x + n) → Still s d size count k x → Alike s put size (k + 1) (x + n)
  unfolding Alike
  block_more done still j h = go (ltb j k) refl
    where
      go : (b : Bool) → ltb j k ≡ b → part put (j * size) (x + n) ≡ part s (j * size) (x + n)
      go true t =
          let h₂ = ltb-true j k t in
          part_before at e d q (omega arith) room as_long (j * size) (x + n) (omega (arith, turn j k size h₂)) ∙ done j h₂
      go false t =
          let h₂ = ltb-false j k t in
          let here : j ≡ k = omega arith in
          rw here (in_part (still k (omega arith) next))

  pub block_still : Still s d size count k x → Still s put size count (k + 1) x
  block_still still j h hj = part_after at e d q (omega arith) room as_long (j * size) x (omega (arith, turn k j size (omega arith))) ∙ still j (omega arith) hj

-- ---- all of each part

-- where the first `done` bytes are alike and those behind them are copied too, all is
pub rest_all : (s d q : List ℕ) (done m : ℕ) → take done d ≡ take done s → done ≤ length s → length s ≡ length d → m ≡ length d
    → q ≡ take (length s - done) (drop done s) → put_mid done (m - done) d q ≡ s
rest_all s d q done m first hd el em eq =
    let end : done + (m - done) ≡ length d = omega arith in
    rw (drop-drop, end, drop-length, append-nil, eq, part_to_end s done, first) (take-append-drop done s)

module _ (s d : List ℕ) (size : ℕ) where
  -- parts that are wholly alike are alike in one piece
  parts_joined : (k : ℕ) → Alike s d size k size → part d 0 (k * size) ≡ part s 0 (k * size)
  unfolding Alike part
  parts_joined zero h = rw zero-mul refl
  parts_joined (suc k) h =
      let shorter : Alike s d size k size = λ j hj. h j (omega arith) in
      rw (suc-mul) (sym (part_join d 0 (k * size) size) ∙ ap₂ ◌++◌ (parts_joined k shorter) (rw zero-add (h k (omega arith))) ∙ part_join s 0 (k * size) size)

  -- and with the bytes behind them copied too, all is
  pub parts_all : (q : List ℕ) (k done m : ℕ) → Alike s d size k size → done ≡ k * size → done ≤ length s → length s ≡ length d → m ≡ length d
      → q ≡ take (length s - done) (drop done s) → put_mid done (m - done) d q ≡ s
  unfolding part
  parts_all q k done m alike ed hd el em eq = rest_all s d q done m (rw (← ed) at (parts_joined k alike)) hd el em eq

-- ---- the front of a list

-- as many of its first bytes as the front of s has, or fewer
pub front_first : (s d : List ℕ) (m n : ℕ) → m ≤ n → n ≤ length s → take m (take n s ++ d) ≡ take m s
front_first s d m n h hn = take-append-le m (take n s) d (rw (length-take-le n s hn) h) ∙ take-take m n s h

-- d is s in its first bytes, and the bytes behind them replaced by those of s
pub front_more : (s d q : List ℕ) (x e : ℕ) → x ≤ e → e ≤ length d → length s ≡ length d → take x d ≡ take x s → q ≡ take (e - x) (drop x s)
    → take e (put_mid x (e - x) d q) ≡ take e s
unfolding part
front_more s d q x e h he el first same =
    let as_long : length q ≡ e - x = ap length same ∙ part_length s x (e - x) (omega arith) in
    let put = put_mid x (e - x) d q in
    let before : part put 0 x ≡ part s 0 x = part_before x e d q h he as_long 0 x (omega arith) ∙ first in
    let here : part put (0 + x) (e - x) ≡ part s (0 + x) (e - x) = rw zero-add (part_put x e d q h he as_long ∙ same) in
    let all : x + (e - x) ≡ e = omega arith in
    let joined : part put 0 (x + (e - x)) ≡ part s 0 (x + (e - x)) =
    sym (part_join put 0 x (e - x)) ∙ ap₂ ◌++◌ before here ∙ part_join s 0 x (e - x) in
    rw all at joined

-- d is s in fewer of its first bytes
pub front_less : (s d : List ℕ) (m n : ℕ) → m ≤ n → take n d ≡ take n s → take m d ≡ take m s
front_less s d m n h e = sym (take-take m n d h) ∙ ap (take m) e ∙ take-take m n s h
