-- Rows copied to their places in any order: a row once copied stays, and where all are copied they stand one after the other. Assumes nothing.
use Prim.Native.Nat.{ℕ, zero, suc, ◌+◌, ◌-◌, ◌*◌, ◌≤◌, ◌<◌}
use mathlib.Core.Path.{◌≡◌, refl, sym, ap, ap₂, ◌∙◌}
use mathlib.Core.Bool.{Bool, true, false}
use mathlib.Core.List.{List, ◌++◌}
use native.Mathlib.Nat.{zero-add, suc-mul, zero-mul, add-sub_cancel_left}
use native.Mathlib.Omega.{arith}
use lib.Dec.{ltb}
use lib.ListN.{length, take, drop, take-append-drop}
use lib.Seq.{drop-drop}
use borrow.Author.Tests.{ltb-true, ltb-false}
use borrow.Rule.Slice.PartMut.{put_mid, same_len_mid, drop_put}
use Rattle.format.specs.Bytes.{part, over}
use Rattle.format.proofs.Ground.Bytes.{part_length}
use Rattle.format.proofs.Ground.Buffers.{part_join}
use Rattle.plane.specs.Pieces.{pieces}
use Rattle.plane.specs.Parts.{with_row}
use Rattle.plane.proofs.Rows.{turn, length_part, pieces_length}
use Rattle.plane.proofs.Parts.{part_before, part_after, part_put}

-- row j of d is the front of row j of s
abbrev pub Copied : List ℕ → List ℕ → ℕ → ℕ → ℕ → Type 0
Copied s d stride w j = part d (j * w) w ≡ part s (j * stride) w

module _ (s d : List ℕ) (stride w k : ℕ) (in-s : k * stride + w ≤ length s) (in-d : k * w + w ≤ length d) where
  abbrev a : ℕ
  a = k * w

  abbrev e : ℕ
  e = k * w + w

  abbrev row : List ℕ
  row = part s (k * stride) w

  abbrev put : List ℕ
  put = with_row s stride w k d

  long : length row ≡ e - a
  long = part_length s (k * stride) w in-s ∙ sym (add-sub_cancel_left (k * w) w)

  as_put : put ≡ put_mid a (e - a) d row
  unfolding with_row
  as_put = rw add-sub_cancel_left refl

  pub row_put : (q : List ℕ) → q ≡ take (k * stride + w - k * stride) (drop (k * stride) s) → put_mid a (e - a) d q ≡ put
  unfolding with_row part
  row_put q same = rw (same, add-sub_cancel_left, add-sub_cancel_left) refl

  pub with_row_length : length put ≡ length d
  unfolding with_row
  with_row_length = same_len_mid a w d row (part_length s (k * stride) w in-s ∙ sym (length_part d a w in-d))

  -- what lies behind row k is as it was
  pub with_row_drop : (n : ℕ) → e ≤ n → drop n put ≡ drop n d
  with_row_drop n h =
      let rest : e + (n - e) ≡ n = omega arith in
      let from : (l : List ℕ) → drop (n - e) (drop e l) ≡ drop n l = λ l. rw (drop-drop, rest) refl in
      sym (from put) ∙ rw (as_put, drop_put a e d row (omega arith) in-d long) (from d)

  -- row k is copied
  pub row_copied : Copied s put stride w k
  row_copied =
      let n : e - a ≡ w = add-sub_cancel_left (k * w) w in
      rw as_put (ap (part (put_mid a (e - a) d row) a) (sym n) ∙ part_put a e d row (omega arith) in-d long)

  -- and a row that was copied before stays so
  pub row_kept : (j : ℕ) → Copied s d stride w j → Copied s put stride w j
  row_kept j h = go (ltb j k) refl (ltb k j) refl
    where
      go : (b : Bool) → ltb j k ≡ b → (b₂ : Bool) → ltb k j ≡ b₂ → Copied s put stride w j
      go true t b₂ t₂ =
          rw as_put (part_before a e d row (omega arith) in-d long (j * w) w (turn j k w (ltb-true j k t)) ∙ h)
      go false t true t₂ =
          rw as_put (part_after a e d row (omega arith) in-d long (j * w) w (turn k j w (ltb-true k j t₂)) ∙ h)
      go false t false t₂ =
          let x = ltb-false j k t in
          let y = ltb-false k j t₂ in
          let same : j ≡ k = omega arith in
          rw same row_copied

-- all rows copied, and what lies behind them as it was
module _ (s d d₀ : List ℕ) (stride w : ℕ) (fits : w ≤ stride) where
  copied_front : (k : ℕ) → ((j : ℕ) → j < k → Copied s d stride w j) → take (k * w) d ≡ pieces s 0 stride w k
  unfolding part pieces
  copied_front zero h = rw zero-mul refl
  copied_front (suc k) h =
      let last : part d (0 + k * w) w ≡ part s (0 + k * stride) w = rw (zero-add, zero-add) (h k (omega arith)) in
      rw suc-mul (sym (part_join d 0 (k * w) w) ∙ ap₂ ◌++◌ (copied_front k λ j hj. h j (omega arith)) last)

  pub all_copied : (count : ℕ) → count * stride ≤ length s → ((j : ℕ) → j < count → Copied s d stride w j) → drop (count * w) d ≡ drop (count * w) d₀
      → d ≡ over (pieces s 0 stride w count) d₀
  unfolding over
  all_copied count inside h behind =
      let n : length (pieces s 0 stride w count) ≡ count * w = pieces_length s 0 stride w (rw zero-add fits) count inside in
      sym (take-append-drop (count * w) d) ∙ rw n (ap₂ ◌++◌ (copied_front count h) behind)

-- ---- a row of the first half and one of the second by turns

-- k turns: k rows from the first on and k rows from `half` on are copied, and what lies behind all rows is as it was
pub record ByTurns (s d₀ d : List ℕ) (stride w count half k : ℕ) : Type 0 where
  pub near : (j : ℕ) → j < k → Copied s d stride w j
  pub far : (j : ℕ) → half ≤ j → j < half + k → Copied s d stride w j
  pub behind : drop (count * w) d ≡ drop (count * w) d₀

-- a row of those that there are lies in both lists
pub row_in : (k count w stride m : ℕ) → w ≤ stride → k < count → count * stride ≤ m → k * stride + w ≤ m
row_in k count w stride m fits h inside = omega (arith, turn k count stride h)

module _ {s d₀ d : List ℕ} {stride w count half k : ℕ} (t : ByTurns s d₀ d stride w count half k) (fits : w ≤ stride)
    (in-s : count * stride ≤ length s) (in-d : count * w ≤ length d) (next : half + k < count) where
  abbrev one : List ℕ
  one = with_row s stride w k d

  abbrev both : List ℕ
  both = with_row s stride w (half + k) one

  s₁ : k * stride + w ≤ length s
  s₁ = row_in k count w stride (length s) fits (omega arith) in-s

  s₂ : (half + k) * stride + w ≤ length s
  s₂ = row_in (half + k) count w stride (length s) fits next in-s

  d₁ : k * w + w ≤ length d
  d₁ = omega (arith, turn k count w (omega arith))

  d₂ : (half + k) * w + w ≤ length one
  d₂ = omega (arith, turn (half + k) count w next, with_row_length s d stride w k s₁ d₁)

  both_kept : (j : ℕ) → Copied s one stride w j → Copied s both stride w j
  both_kept = row_kept s one stride w (half + k) s₂ d₂

  one_kept : (j : ℕ) → Copied s d stride w j → Copied s both stride w j
  one_kept j h = both_kept j (row_kept s d stride w k s₁ d₁ j h)

  near_more : (j : ℕ) → j < k + 1 → Copied s both stride w j
  near_more j h = go (ltb j k) refl
    where
      go : (b : Bool) → ltb j k ≡ b → Copied s both stride w j
      go true e₁ = one_kept j (t.near j (ltb-true j k e₁))
      go false e₁ =
          let x = ltb-false j k e₁ in
          let last : j ≡ k = omega arith in
          rw last (both_kept k (row_copied s d stride w k s₁ d₁))

  far_more : (j : ℕ) → half ≤ j → j < half + (k + 1) → Copied s both stride w j
  far_more j from h = go (ltb j (half + k)) refl
    where
      go : (b : Bool) → ltb j (half + k) ≡ b → Copied s both stride w j
      go true e₁ = one_kept j (t.far j from (ltb-true j (half + k) e₁))
      go false e₁ =
          let x = ltb-false j (half + k) e₁ in
          let last : j ≡ half + k = omega arith in
          rw last (row_copied s one stride w (half + k) s₂ d₂)

  pub turn_more : ByTurns s d₀ both stride w count half (k + 1)
  turn_more = record {
    near = near_more;
    far = far_more;
    behind =
        with_row_drop s one stride w (half + k) s₂ d₂ (count * w) (turn (half + k) count w next)
        ∙ with_row_drop s d stride w k s₁ d₁ (count * w) (turn k count w (omega arith))
        ∙ t.behind;
  }

-- after as many turns as the larger half has rows, all are copied
pub turns_all : (s d₀ d : List ℕ) (stride w count half k : ℕ) → ByTurns s d₀ d stride w count half k → w ≤ stride → count * stride ≤ length s → half ≤ k
    → half + k ≡ count → d ≡ over (pieces s 0 stride w count) d₀
turns_all s d₀ d stride w count half k t fits inside larger all =
    all_copied s d d₀ stride w fits count inside (λ j h. go j h (ltb j half) refl) t.behind
  where
    go : (j : ℕ) → j < count → (b : Bool) → ltb j half ≡ b → Copied s d stride w j
    go j h true e = let x = ltb-true j half e in t.near j (omega arith)
    go j h false e = t.far j (ltb-false j half e) (omega arith)
