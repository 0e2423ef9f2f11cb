-- The grammar's chunk is the one that is read; each way that a chunk is refused, and its data, test by test. Assumes nothing.
use Prim.Native.Nat.{ℕ, ◌+◌, ◌≤◌, ◌<◌}
use mathlib.Core.Path.{◌≡◌, refl, sym, ap, ◌∙◌}
use mathlib.Core.Bool.{true, false, not, true≢false}
use mathlib.Core.List.{List, ◌++◌, append_assoc}
use native.Mathlib.Omega.{arith}
use lib.Dec.{ltb, eqb, lit<}
use lib.ListN.{length, take, drop, take-append-drop}
use lib.Seq.{take-append_seam}
use borrow.Author.Tests.{ltb-true, ltb-false, lt-ltb, le-ltb, eqb-true, eqb-false, eq-eqb, ne_eqb, not-true, not-false}
use Rattle.format.proofs.Ground.Tests.{same_true, true_same}
use Rattle.format.proofs.Ground.Answers.{refuse_if_given, given_inj, not_refused, Numbered, answer, refuse_if_numbered}
use Rattle.format.proofs.Ground.Stages.{DecidesAt, gives, goes, tests}
use Rattle.format.specs.Answer.{Answer, refused, given, refuse_if}
use Rattle.format.specs.Bytes.{le_at, part, begins}
use Rattle.format.specs.declared.Range.{Range}
use Rattle.format.specs.Chunks.{chunk_mark, chunk_data}
use Rattle.format.specs.Grammar.Lists.{In, here, behind}
use Rattle.format.specs.Grammar.Chunks.{Begins, Headed, own_name_at, DataWithin, Chunk}
use Rattle.format.specs.Refusals as why
use Rattle.format.specs.Refused.Chunk.{ChunkStage, head, own_name, body, chunk_order, ChunkRefusal, no_head, misnamed, no_data}

pub begins_true : (p s : List ℕ) → begins p s ≡ true → Begins p s
unfolding begins
begins_true p s e =
    let q = same_true p (take (length p) s) e in
    record { rest = drop (length p) s; joined = sym (take-append-drop (length p) s) ∙ ap (λ (l : List ℕ). l ++ drop (length p) s) (sym q) }

true_begins : (p s : List ℕ) → Begins p s → begins p s ≡ true
unfolding begins
true_begins p s b = true_same p (take (length p) s) (rw (b.joined, take-append_seam) refl)

-- `w` is the refusal of a wrong name
module _ (w : ℕ) (name s : List ℕ) (at : ℕ) where
  pub chunk_read : (r : Range) → chunk_data w name s at ≡ given r → Chunk name s at r
  unfolding chunk_data
  chunk_read r e =
      let n = le_at 4 s (at + 4) in
      let l = le_at 8 s (at + 8) in
      let (f₁, e₁) = refuse_if_given (ltb (length s) (at + 16)) 4 _ e in
      let (f₂, e₂) = refuse_if_given (not (eqb (le_at 4 s at) chunk_mark)) 4 _ e₁ in
      let (f₃, e₃) = refuse_if_given (ltb (length s) (at + 16 + n)) 4 _ e₂ in
      let (f₄, e₄) = refuse_if_given (not (begins name (part s (at + 16) n))) w _ e₃ in
      let (f₅, e₅) = refuse_if_given (ltb (length s) (at + 16 + n + l)) 4 _ e₄ in
      let q = given_inj e₅ in
      record {
        headed = record { header_within = ltb-false _ _ f₁; mark = eqb-true _ _ (not-false _ f₂); name_within = ltb-false _ _ f₃ };
        name_begins = begins_true _ _ (not-false _ f₄);
        data_within = ltb-false _ _ f₅;
        data_start = ap (λ (x : Range). x.start) (sym q);
        data_len = ap (λ (x : Range). x.len) (sym q);
      }

  pub read_chunk : (r : Range) → Chunk name s at r → chunk_data w name s at ≡ given r
  unfolding chunk_data
  read_chunk r c =
      not_refused _ 4 _ _ (le-ltb _ _ c.headed.header_within)
      (not_refused _ 4 _ _ (ap not (eq-eqb _ _ c.headed.mark))
      (not_refused _ 4 _ _ (le-ltb _ _ c.headed.name_within)
      (not_refused _ w _ _ (ap not (true_begins _ _ c.name_begins))
      (not_refused _ 4 _ _ (le-ltb _ _ c.data_within)
      (sym (λ i. given (record { start = c.data_start i; len = c.data_len i })))))))

  pub chunk_numbered : (P : ℕ → Type 0) → P 4 → P w → Numbered P (chunk_data w name s at)
  unfolding chunk_data
  chunk_numbered P h k =
      let n = le_at 4 s (at + 4) in
      refuse_if_numbered (ltb (length s) (at + 16)) 4 _ h
      (refuse_if_numbered (not (eqb (le_at 4 s at) chunk_mark)) 4 _ h
      (refuse_if_numbered (ltb (length s) (at + 16 + n)) 4 _ h
      (refuse_if_numbered (not (begins name (part s (at + 16) n))) w _ k
      (refuse_if_numbered (ltb (length s) (at + 16 + n + le_at 8 s (at + 8))) 4 _ h (answer {a = record { start = at + 16 + n; len = le_at 8 s (at + 8) }})))))

pub chunk_unique : (name s : List ℕ) (at : ℕ) (r q : Range) → Chunk name s at r → Chunk name s at q → r ≡ q
chunk_unique name s at r q x y = given_inj (sym (read_chunk 4 name s at r x) ∙ read_chunk 4 name s at q y)

-- a chunk of a longer name is one of that name too
pub longer_passes : (name more s : List ℕ) (at : ℕ) (r : Range) → Chunk (name ++ more) s at r → Chunk name s at r
longer_passes name more s at r c =
    let b = c.name_begins in
    record {
      headed = c.headed;
      name_begins = record { rest = more ++ b.rest; joined = b.joined ∙ append_assoc name more b.rest };
      data_within = c.data_within;
      data_start = c.data_start;
      data_len = c.data_len;
    }

-- ---- by stages, where the map has the chunk under the name

past : {a b : ℕ} → a < b → b ≤ a → ⊥
past h k = omega arith

module _ (name s : List ℕ) (o : ℕ) where
  abbrev Q : ChunkStage → ℕ → Type 0
  Q = ChunkRefusal name s o

  head_passes : Headed s o → (n : ℕ) → Q head n → ⊥
  head_passes h n (no_head f) = f h

  name_passes : Begins name (own_name_at s o) → (n : ℕ) → Q own_name n → ⊥
  name_passes b n (misnamed x) = x.another b

  body_passes : DataWithin s o → (n : ℕ) → Q body n → ⊥
  body_passes k n (no_data h f) = f k

  -- 4, 29, 4
  pub chunk_decides : DecidesAt Q chunk_order (chunk_data why.chunk_name name s o)
  unfolding chunk_data
  chunk_decides =
      let n = le_at 4 s (o + 4) in
      let l = le_at 8 s (o + 8) in
      tests (ltb (length s) (o + 16)) _ _ (λ q. no_head λ h. past (ltb-true _ _ q) h.header_within) λ q₁.
      tests (not (eqb (le_at 4 s o) chunk_mark)) _ _ (λ q. no_head λ h. eqb-false _ _ (not-true _ q) h.mark) λ q₂.
      tests (ltb (length s) (o + 16 + n)) _ _ (λ q. no_head λ h. past (ltb-true _ _ q) h.name_within) λ q₃.
      let h : Headed s o = record { header_within = ltb-false _ _ q₁; mark = eqb-true _ _ (not-false _ q₂); name_within = ltb-false _ _ q₃ } in
      goes (head_passes h)
      (tests (not (begins name (part s (o + 16) n))) _ _
      (λ q. misnamed (record { headed = h; another = λ b. true≢false (sym (true_begins _ _ b) ∙ not-true _ q) })) λ q₄.
      goes (name_passes (begins_true _ _ (not-false _ q₄)))
      (tests (ltb (length s) (o + 16 + n + l)) _ _ (λ q. no_data h (past (ltb-true _ _ q))) λ q₅.
      goes (body_passes (ltb-false _ _ q₅)) gives))

  -- each stage has one number, which is not 0
  pub chunk_once : (a : ChunkStage) (n m : ℕ) → Q a n → Q a m → n ≡ m
  chunk_once a n m (no_head f) (no_head g) = refl
  chunk_once a n m (misnamed x) (misnamed y) = refl
  chunk_once a n m (no_data h f) (no_data k g) = refl

  pub chunk_staged : (a : ChunkStage) (n : ℕ) → Q a n → In a chunk_order × (0 < n)
  chunk_staged a n (no_head f) = (here, lit< tt)
  chunk_staged a n (misnamed x) = (behind here, lit< tt)
  chunk_staged a n (no_data h f) = (behind (behind here), lit< tt)

-- ---- test by test

-- the tests of a chunk, with its two lengths in hand
in_hand : ℕ → List ℕ → List ℕ → ℕ → ℕ → ℕ → Answer Range
in_hand w p s at n d =
    refuse_if (ltb (length s) (at + 16)) 4
    (refuse_if (not (eqb (le_at 4 s at) chunk_mark)) 4
    (refuse_if (ltb (length s) (at + 16 + n)) 4
    (refuse_if (not (begins p (part s (at + 16) n))) w
    (refuse_if (ltb (length s) (at + 16 + n + d)) 4 (given (record { start = at + 16 + n; len = d }))))))

module _ (w : ℕ) (p s : List ℕ) (at : ℕ) where
  tested : in_hand w p s at (le_at 4 s (at + 4)) (le_at 8 s (at + 8)) ≡ chunk_data w p s at
  unfolding in_hand chunk_data
  tested = refl

  pub cut_head : length s < at + 16 → refused 4 ≡ chunk_data w p s at
  unfolding chunk_data
  cut_head h = rw (lt-ltb _ _ h)

  module _ (h : at + 16 ≤ length s) where
    pub wrong_mark : (le_at 4 s at ≡ chunk_mark → ⊥) → refused 4 ≡ chunk_data w p s at
    unfolding chunk_data
    wrong_mark m = rw (le-ltb _ _ h, ne_eqb _ _ m)

    module _ (m : le_at 4 s at ≡ chunk_mark) {n : ℕ} (en : n ≡ le_at 4 s (at + 4)) where
      pub cut_name : length s < at + 16 + n → refused 4 ≡ chunk_data w p s at
      unfolding in_hand refuse_if
      cut_name l = rw (le-ltb (length s) (at + 16) h, eq-eqb (le_at 4 s at) chunk_mark m, ← en, lt-ltb (length s) (at + 16 + n) l) at tested

      module _ (l : at + 16 + n ≤ length s) where
        pub wrong_name : begins p (part s (at + 16) n) ≡ false → refused w ≡ chunk_data w p s at
        unfolding in_hand refuse_if
        wrong_name b = rw (le-ltb (length s) (at + 16) h, eq-eqb (le_at 4 s at) chunk_mark m, ← en, le-ltb (length s) (at + 16 + n) l, b) at tested

        module _ (b : begins p (part s (at + 16) n) ≡ true) {d : ℕ} (ed : d ≡ le_at 8 s (at + 8)) where
          pub cut_data : length s < at + 16 + n + d → refused 4 ≡ chunk_data w p s at
          unfolding in_hand refuse_if
          cut_data k =
              rw (
                le-ltb (length s) (at + 16) h,
                eq-eqb (le_at 4 s at) chunk_mark m,
                ← en,
                le-ltb (length s) (at + 16 + n) l,
                b,
                ← ed,
                lt-ltb (length s) (at + 16 + n + d) k,
              ) at tested

          pub whole_chunk : at + 16 + n + d ≤ length s → given (record { start = at + 16 + n; len = d }) ≡ chunk_data w p s at
          unfolding in_hand refuse_if
          whole_chunk k =
              rw (
                le-ltb (length s) (at + 16) h,
                eq-eqb (le_at 4 s at) chunk_mark m,
                ← en,
                le-ltb (length s) (at + 16 + n) l,
                b,
                ← ed,
                le-ltb (length s) (at + 16 + n + d) k,
              ) at tested
