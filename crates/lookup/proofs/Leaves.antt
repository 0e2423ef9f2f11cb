-- Laws of the values of entries that are no levels, by their type, and of the readings of values. Assumes nothing.
use Prim.Native.Nat.{ℕ, ◌+◌, ◌-◌, ◌/◌, ◌≤◌}
use mathlib.Core.Path.{◌≡◌, refl, sym, ◌∙◌}
use mathlib.Core.Bool.{not, cond}
use mathlib.Core.List.{List}
use native.Mathlib.Nat.{add-zero}
use lib.Dec.{eqb, ltb}
use lib.Ieee.{Float, binary64, of_bits}
use lib.IntN.{pos, negsuc}
use lib.ListN.{get_or}
use borrow.Author.Tests.{ne_eqb}
use Rattle.format.specs.Bytes.{le_at}
use Rattle.format.specs.Trees.{fixed_len}
use Rattle.format.specs.Values.{Value, flag, whole, double, text, bytes, leaf, twos_complement}
use Rattle.format.specs.declared.Entry.{Entry}
use Rattle.lookup.specs.Table.{Lies}

-- ---- the bytes of a value of a fixed size lie in the file

pub lies_fixed : (n : ℕ) (e : Entry) (k w : ℕ) → Lies n e → e.kind ≡ k → (k ≡ 8 → ⊥) → (k ≡ 9 → ⊥) → (k ≡ 11 → ⊥) → fixed_len k ≡ w → e.value + w ≤ n
lies_fixed n e k w l h a b d f = rw (← f, ← h) (l.fixed (λ z. a (sym h ∙ z)) (λ z. b (sym h ∙ z)) (λ z. d (sym h ∙ z)))

-- of type 5, 7 and any other
pub lies_wide : (n : ℕ) (e : Entry) → Lies n e → (e.kind ≡ 1 → ⊥) → (e.kind ≡ 2 → ⊥) → (e.kind ≡ 3 → ⊥)
    → (e.kind ≡ 8 → ⊥) → (e.kind ≡ 9 → ⊥) → (e.kind ≡ 11 → ⊥) → e.value + 8 ≤ n
unfolding fixed_len
lies_wide n e l p q r a b d = lies_fixed n e e.kind 8 l refl a b d (eight e.kind p q r)
  where
    eight : (k : ℕ) → (k ≡ 1 → ⊥) → (k ≡ 2 → ⊥) → (k ≡ 3 → ⊥) → fixed_len k ≡ 8
    eight k p q r = rw (ne_eqb k 1 p, ne_eqb k 2 q, ne_eqb k 3 r)

-- ---- the value, by the type

module _ (s : List ℕ) (e : Entry) where
  pub leaf_flag : e.kind ≡ 1 → flag (not (eqb (get_or s e.value 0) 0)) ≡ leaf s e
  unfolding leaf le_at
  leaf_flag h = rw (h, add-zero)

  -- the number n in two's complement, where `most` is the largest number of its bits
  abbrev pub signed_of : ℕ → ℕ → Value
  signed_of n most = whole (cond (ltb n (most / 2 + 1)) (pos n) (negsuc (most - n)))

  pub leaf_i32 : (n : ℕ) (v : Value) → e.kind ≡ 2 → n ≡ le_at 4 s e.value → v ≡ signed_of n 0xFFFF_FFFF → v ≡ leaf s e
  unfolding leaf twos_complement
  leaf_i32 n v h i q = q ∙ rw (h, i)

  pub leaf_u32 : (n : ℕ) → e.kind ≡ 3 → n ≡ le_at 4 s e.value → whole (pos n) ≡ leaf s e
  unfolding leaf
  leaf_u32 n h i = rw (h, ← i)

  pub leaf_i64 : (n : ℕ) (v : Value) → e.kind ≡ 4 → n ≡ le_at 8 s e.value → v ≡ signed_of n 0xFFFF_FFFF_FFFF_FFFF → v ≡ leaf s e
  unfolding leaf twos_complement
  leaf_i64 n v h i q = q ∙ rw (h, i)

  pub leaf_double : (n : ℕ) (x : Float) → e.kind ≡ 6 → n ≡ le_at 8 s e.value → x ≡ of_bits binary64 n → double x ≡ leaf s e
  unfolding leaf
  leaf_double n x h i j = rw (h, ← i, ← j)

  pub leaf_text : e.kind ≡ 8 → text e.value (e.size / 2) ≡ leaf s e
  unfolding leaf
  leaf_text h = rw h

  pub leaf_bytes : e.kind ≡ 9 → bytes e.value e.size ≡ leaf s e
  unfolding leaf
  leaf_bytes h = rw h

  pub leaf_rest : (n : ℕ) → n ≡ le_at 8 s e.value → (e.kind ≡ 1 → ⊥) → (e.kind ≡ 2 → ⊥) → (e.kind ≡ 3 → ⊥) → (e.kind ≡ 4 → ⊥)
      → (e.kind ≡ 6 → ⊥) → (e.kind ≡ 8 → ⊥) → (e.kind ≡ 9 → ⊥) → whole (pos n) ≡ leaf s e
  unfolding leaf
  leaf_rest n i a b c d f g h =
      rw (ne_eqb _ 1 a, ne_eqb _ 2 b, ne_eqb _ 3 c, ne_eqb _ 4 d, ne_eqb _ 6 f, ne_eqb _ 8 g, ne_eqb _ 9 h, ← i)
