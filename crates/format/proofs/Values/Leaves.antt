-- The value that is computed of an entry that is no level is the one that the grammar's rule gives. Assumes nothing.
use Prim.Native.Nat.{ℕ, ◌+◌, ◌-◌, ◌*◌, ◌/◌, ◌^◌, ◌≤◌}
use mathlib.Core.Path.{◌≡◌, refl, ap}
use mathlib.Core.Bool.{Bool, true, false, not}
use mathlib.Core.List.{List}
use native.Mathlib.Omega.{arith}
use lib.Dec.{eqb, ltb}
use lib.IntN.{ℤ, pos, negsuc}
use borrow.Author.Tests.{eqb-true, eqb-false, ne_eqb, ltb-true, ltb-false, lt-ltb, le-ltb}
use Rattle.format.proofs.Ground.Tests.{cond_by}
use Rattle.format.specs.Bytes.{le_at}
use Rattle.format.specs.Values.{Value, flag, whole, leaf, twos_complement}
use Rattle.format.specs.Grammar.Trees.{Kind, of_value, of_level}
use Rattle.format.specs.Grammar.Values.{Complement, positive, negative, beyond, LeafOf, of_unset, of_set, of_i32, of_u32, of_i64, of_u64}
use Rattle.format.specs.Grammar.Values.{of_f64, of_pointer, of_text, of_bytes}
use Rattle.format.specs.declared.Entry.{Entry}

-- ---- two's complement, of w bits

module _ (w half : ℕ) (top : 2 ^ (w - 1) ≡ half) (all : 2 ^ w ≡ half + half) (n : ℕ) where
  complement_read : Complement half n (twos_complement w n)
  unfolding twos_complement
  complement_read =
      cond_by (Complement half n) (ltb n (2 ^ (w - 1))) _ _ (λ q. positive (let h = ltb-true n (2 ^ (w - 1)) q in omega arith)) λ q.
      let h = ltb-false n (2 ^ (w - 1)) q in
      from (omega arith) (ltb n (half + half)) refl
    where
      from : half ≤ n → (b : Bool) → ltb n (half + half) ≡ b → Complement half n (negsuc (2 ^ w - 1 - n))
      from h true q = let l = ltb-true n (half + half) q in negative {m = 2 ^ w - 1 - n} h (omega arith)
      from h false q = let l = ltb-false n (half + half) q in let z : 2 ^ w - 1 - n ≡ 0 = omega arith in rw z (beyond l)

  read_complement : (z : ℤ) → Complement half n z → twos_complement w n ≡ z
  unfolding twos_complement
  read_complement z (positive h) = rw (lt-ltb n (2 ^ (w - 1)) (omega arith)) refl
  read_complement z (negative {m = m} h e) =
      let k : 2 ^ w - 1 - n ≡ m = omega arith in
      rw (le-ltb n (2 ^ (w - 1)) (omega arith), k) refl
  read_complement z (beyond h) =
      let k : 2 ^ w - 1 - n ≡ 0 = omega arith in
      rw (le-ltb n (2 ^ (w - 1)) (omega arith), k) refl

-- ---- leaves

-- an entry of a known type; the size of a text is even
pub record Typed (e : Entry) : Type 0 where
  pub known : Kind e.kind
  pub even : e.kind ≡ 8 → (n : ℕ) × (e.size ≡ 2 * n)

-- which types are left where some are not
value_kind : (k : ℕ) → Kind k → (k ≡ 11 → ⊥) → (1 ≤ k) × (k ≤ 9)
value_kind k (of_value l m) f = (l, m)
value_kind k of_level f = absurd (f refl)

least_five : (k : ℕ) → 1 ≤ k → (k ≡ 1 → ⊥) → (k ≡ 2 → ⊥) → (k ≡ 3 → ⊥) → (k ≡ 4 → ⊥) → 5 ≤ k
least_five k l a b c d = omega arith

most_seven : (k : ℕ) → k ≤ 9 → (k ≡ 8 → ⊥) → (k ≡ 9 → ⊥) → k ≤ 7
most_seven k l a b = omega arith

module _ (s : List ℕ) (e : Entry) where
  flag_read : e.kind ≡ 1 → LeafOf s e (flag (not (eqb (le_at 1 s e.value) 0)))
  flag_read k = go (eqb (le_at 1 s e.value) 0) refl
    where
      go : (b : Bool) → eqb (le_at 1 s e.value) 0 ≡ b → LeafOf s e (flag (not b))
      go true q = of_unset k (eqb-true (le_at 1 s e.value) 0 q)
      go false q = of_set k (eqb-false (le_at 1 s e.value) 0 q)

  text_read : e.kind ≡ 8 → (n : ℕ) × (e.size ≡ 2 * n) → LeafOf s e (Value.text e.value (e.size / 2))
  text_read k (n, q) = let h : e.size / 2 ≡ n = omega arith in rw h (of_text k q)

  pub leaf_read : Typed e → (e.kind ≡ 11 → ⊥) → LeafOf s e (leaf s e)
  unfolding leaf
  leaf_read t f =
      let k = e.kind in
      cond_by (LeafOf s e) (eqb k 1) _ _ (λ q. flag_read (eqb-true k 1 q)) λ q₁.
      cond_by (LeafOf s e) (eqb k 2) _ _ (λ q. of_i32 (eqb-true k 2 q) (complement_read 32 (2 ^ 31) refl refl (le_at 4 s e.value))) λ q₂.
      cond_by (LeafOf s e) (eqb k 3) _ _ (λ q. of_u32 (eqb-true k 3 q)) λ q₃.
      cond_by (LeafOf s e) (eqb k 4) _ _ (λ q. of_i64 (eqb-true k 4 q) (complement_read 64 (2 ^ 63) refl refl (le_at 8 s e.value))) λ q₄.
      cond_by (LeafOf s e) (eqb k 6) _ _ (λ q. of_f64 (eqb-true k 6 q)) λ q₅.
      cond_by (LeafOf s e) (eqb k 8) _ _ (λ q. text_read (eqb-true k 8 q) (t.even (eqb-true k 8 q))) λ q₆.
      cond_by (LeafOf s e) (eqb k 9) _ _ (λ q. of_bytes (eqb-true k 9 q)) λ q₇.
      let (least, most) = value_kind k t.known f in
      let l : 5 ≤ k = least_five k least (eqb-false k 1 q₁) (eqb-false k 2 q₂) (eqb-false k 3 q₃) (eqb-false k 4 q₄) in
      let m : k ≤ 7 = most_seven k most (eqb-false k 8 q₆) (eqb-false k 9 q₇) in
      wide l m (eqb-false k 6 q₅) (eqb k 5) refl
    where
      -- u64 and pointer
      wide : 5 ≤ e.kind → e.kind ≤ 7 → (e.kind ≡ 6 → ⊥) → (b : Bool) → eqb e.kind 5 ≡ b → LeafOf s e (whole (pos (le_at 8 s e.value)))
      wide l m g true q = of_u64 (eqb-true e.kind 5 q)
      wide l m g false q = let h = eqb-false e.kind 5 q in of_pointer (omega arith)

  pub read_leaf : (v : Value) → LeafOf s e v → leaf s e ≡ v
  unfolding leaf
  read_leaf v (of_unset k h) = rw (k, h) refl
  read_leaf v (of_set k h) = rw (k, ne_eqb (le_at 1 s e.value) 0 h) refl
  read_leaf v (of_i32 {z = z} k h) = rw k (ap whole (read_complement 32 (2 ^ 31) refl refl (le_at 4 s e.value) z h))
  read_leaf v (of_u32 k) = rw k refl
  read_leaf v (of_i64 {z = z} k h) = rw k (ap whole (read_complement 64 (2 ^ 63) refl refl (le_at 8 s e.value) z h))
  read_leaf v (of_u64 k) = rw k refl
  read_leaf v (of_f64 k) = rw k refl
  read_leaf v (of_pointer k) = rw k refl
  read_leaf v (of_text {n = n} k h) = let l : e.size / 2 ≡ n = omega arith in rw (k, l) refl
  read_leaf v (of_bytes k) = rw k refl

  -- it is no level
  pub leaf_kind : (v : Value) → LeafOf s e v → e.kind ≡ 11 → ⊥
  leaf_kind v (of_unset k h) q = omega arith
  leaf_kind v (of_set k h) q = omega arith
  leaf_kind v (of_i32 k h) q = omega arith
  leaf_kind v (of_u32 k) q = omega arith
  leaf_kind v (of_i64 k h) q = omega arith
  leaf_kind v (of_u64 k) q = omega arith
  leaf_kind v (of_f64 k) q = omega arith
  leaf_kind v (of_pointer k) q = omega arith
  leaf_kind v (of_text k h) q = omega arith
  leaf_kind v (of_bytes k) q = omega arith
