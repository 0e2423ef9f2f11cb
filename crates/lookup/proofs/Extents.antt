-- The entries of a tree lie in the file, and their numbers are small. Assumes nothing.
use Prim.Native.Nat.{ℕ, suc, ◌+◌, ◌-◌, ◌≤◌}
use mathlib.Core.Path.{◌≡◌, refl, ◌∙◌}
use mathlib.Core.List.{List, [], ◌∷◌, ◌++◌}
use native.Mathlib.Omega.{arith}
use lib.ListN.{length, length-append}
use Rattle.format.specs.Grammar.Trees.{value_start, Head, Fixed, bool, i32, u32, i64, u64, f64, pointer, Plain, fixed, text_ended, text_cut, bytes}
use Rattle.format.specs.Grammar.Trees.{count_at, kids_from, kids_to, level_to, Records, counted, quiet, plain, nested}
use Rattle.format.specs.Trees.{fixed_len, entry_of}
use Rattle.format.proofs.Trees.ByRules.{entry_is}
use Rattle.format.specs.declared.Entry.{Entry}
use Rattle.lookup.specs.Table.{Lies}

-- an entry of a tree in a file of n bytes, whose parent is one of m entries
pub record Entered (n m : ℕ) (e : Entry) : Type 0 where
  pub kind : e.kind ≤ 11
  pub lies : Lies n e
  pub parent : e.parent ≤ m

abbrev pub AllEntered : ℕ → ℕ → List Entry → Type 0
AllEntered n m [] = Unit
AllEntered n m (e ∷ es) = Entered n m e × AllEntered n m es

entered_append : (n m : ℕ) (a b : List Entry) → AllEntered n m a → AllEntered n m b → AllEntered n m (a ++ b)
entered_append n m [] b f g = g
entered_append n m (e ∷ a) b f g = (f.0, entered_append n m a b f.1 g)

-- ---- values that are no levels

record Ends (d : List ℕ) (k from len : ℕ) : Type 0 where
  kind : k ≤ 11
  value : from + len ≤ length d
  fixed : (k ≡ 8 → ⊥) → (k ≡ 9 → ⊥) → (k ≡ 11 → ⊥) → from + fixed_len k ≤ length d

fixed_ends : (d : List ℕ) (v k n : ℕ) → Fixed k n → v + n ≤ length d → Ends d k v n
unfolding fixed_len
fixed_ends d v k n bool h = record { kind = omega arith; value = h; fixed = λ a b c. h }
fixed_ends d v k n i32 h = record { kind = omega arith; value = h; fixed = λ a b c. h }
fixed_ends d v k n u32 h = record { kind = omega arith; value = h; fixed = λ a b c. h }
fixed_ends d v k n i64 h = record { kind = omega arith; value = h; fixed = λ a b c. h }
fixed_ends d v k n u64 h = record { kind = omega arith; value = h; fixed = λ a b c. h }
fixed_ends d v k n f64 h = record { kind = omega arith; value = h; fixed = λ a b c. h }
fixed_ends d v k n pointer h = record { kind = omega arith; value = h; fixed = λ a b c. h }

plain_ends : (d : List ℕ) (e v k from len p : ℕ) → Plain d e v k from len p → e ≤ length d → Ends d k from len
plain_ends d e v k from len p (fixed {n = n} w h) l = fixed_ends d v k n w (omega arith)
plain_ends d e v k from len p (text_ended n u z h) l = record { kind = omega arith; value = omega arith; fixed = λ a b c. absurd (a refl) }
plain_ends d e v k from len p (text_cut n u z h) l = record { kind = omega arith; value = omega arith; fixed = λ a b c. absurd (a refl) }
plain_ends d e v k from len p (bytes h) l = record { kind = omega arith; value = omega arith; fixed = λ a b c. absurd (b refl) }

-- ---- records

module _ (d : List ℕ) (base n m : ℕ) (within : base + length d ≤ n) where
  head_entered : (parent i e k from len : ℕ) → Head d i e k → e ≤ length d → parent ≤ m → Ends d k from len → Entered n m (entry_of d base parent i from len)
  head_entered parent i e k from len h l q b =
      let z = h.kind in
      let w = h.name_within in
      record {
        kind = omega (arith, b.kind);
        lies =
            record {
              name = omega arith;
              value = omega (arith, b.value);
              fixed = λ x y v. let f : from + fixed_len k ≤ length d = b.fixed (λ t. x (z ∙ t)) (λ t. y (z ∙ t)) (λ t. v (z ∙ t)) in rw z (omega arith);
            };
        parent = q;
      }

  pub records_entered : (left parent count used i e : ℕ) (es : List Entry) (p : ℕ) → Records d base left parent count used i e es p
      → e ≤ length d → parent ≤ m → used + length es ≤ m → AllEntered n m es
  records_entered left parent count used i e es p counted l q s = tt
  records_entered left parent count used i e es p (quiet h) l q s = tt
  records_entered left parent count used i e es p (plain {count = c} {k = k} {from} {len} {p = x} {en = en} {es = fs} h v y r) l q s = (
    rw (entry_is d base parent i from len en y) (head_entered parent i e k from len h l q (plain_ends d e (value_start d i) k from len x v l)),
    records_entered left parent c (used + 1) x e fs p r l q (omega arith),
  )
  records_entered left parent count used i e es p (nested {left = left'} {count = c} {p = x} {en = en} {ks = ks} {es = fs} v y kr h r) l q s =
      let t = simp length-append at s in (
        rw (entry_is d base parent i (kids_from d i) (kids_to d i - kids_from d i) en y)
            (head_entered parent i e 11 (kids_from d i) (kids_to d i - kids_from d i) v.head l q
            (record { kind = omega arith; value = omega (arith, v.length_least, v.kids_within); fixed = λ a b c. absurd (c refl) })),
        entered_append n m ks fs
            (records_entered left' (suc used) (count_at d i) (suc used) (kids_from d i) (kids_to d i) ks x kr (omega (arith, v.kids_within))
            (omega arith) (omega arith))
            (records_entered left parent c (used + suc (length ks)) (level_to d i) e fs p r l q (omega arith)),
      )
