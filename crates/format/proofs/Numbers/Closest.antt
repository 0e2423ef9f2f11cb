-- A fraction to the nearest whole number, the even one of two as near: what the machine compares, and that it is what the rules say. Assumes nothing.
use mathlib.Core.Path.{◌≡◌, refl, sym, ap, ◌∙◌, subst}
use mathlib.Core.Logic.{◌⊎◌, inl, inr}
use mathlib.Core.Bool.{Bool, true, false, not}
use Prim.Native.Nat.{ℕ, suc, ◌+◌, ◌-◌, ◌*◌, ◌/◌, ◌%◌, ◌≤◌, ◌<◌, compare, Ordering}
use native.Mathlib.Nat.{le_antisymm, eq_of_mul-eq-mul_right, mod-lt, div-add-mod', add-mul, one-mul, mul-le-mul_right}
use native.Mathlib.Decide.{ℕ_discrete}
use native.Mathlib.Omega.{arith}
use borrow.Author.Tests.{ltb-true, ltb-false}
use lib.Dec.{ltb, T, is_le, compare_is_eq, leb→le, nleb→lt, eqb→eq, eqb_refl}
use lib.Ieee.{nearest}
use lib.Ieee.Nearest.{closest, closest_mono}
use Rattle.format.specs.Grammar.Picometres.{distance, Rounds}

-- ---- what `compare` says

compare_lt : (a b : ℕ) → a < b → compare a b ≡ Ordering.lt
compare_lt a b h = go (compare a b) (nleb→lt a b) (eqb→eq a b)
  where
    no : a ≡ b → ⊥
    no e = omega arith

    nope : b < a → ⊥
    nope l = omega arith

    go : (o : Ordering) → (T (not (is_le o)) → b < a) → (T (compare_is_eq o) → a ≡ b) → o ≡ Ordering.lt
    go Ordering.lt k e = refl
    go Ordering.eq k e = absurd (no (e tt))
    go Ordering.gt k e = absurd (nope (k tt))

compare_gt : (a b : ℕ) → b < a → compare a b ≡ Ordering.gt
compare_gt a b h = go (compare a b) (leb→le a b)
  where
    no : a ≤ b → ⊥
    no e = omega arith

    go : (o : Ordering) → (T (is_le o) → a ≤ b) → o ≡ Ordering.gt
    go Ordering.lt k = absurd (no (k tt))
    go Ordering.eq k = absurd (no (k tt))
    go Ordering.gt k = refl

compare_eq : (a b : ℕ) → a ≡ b → compare a b ≡ Ordering.eq
compare_eq a b h = go (compare a b) (subst (λ (x : ℕ). T (compare_is_eq (compare a x))) h (eqb_refl a))
  where
    go : (o : Ordering) → T (compare_is_eq o) → o ≡ Ordering.eq
    go Ordering.lt k = absurd k
    go Ordering.eq k = refl
    go Ordering.gt k = absurd k

module _ (q u : ℕ) where
  pub under_half : q % u * 2 < u → q / u ≡ closest q u
  under_half h = sym (ap (nearest (q / u)) (compare_lt (q % u * 2) u h))

  pub over_half : u < q % u * 2 → q / u + 1 ≡ closest q u
  over_half h = sym (ap (nearest (q / u)) (compare_gt (q % u * 2) u h) ∙ go (q / u))
    where
      go : (a : ℕ) → suc a ≡ a + 1
      go a = omega arith

  pub at_half : q % u * 2 ≡ u → q / u + q / u % 2 ≡ closest q u
  at_half h = sym (ap (nearest (q / u)) (compare_eq (q % u * 2) u h))

-- ---- by the rules

-- on which side of a half the rest lies
data Half (r b : ℕ) : Type 0 where
  under : r * 2 < b → Half r b
  over : b < r * 2 → Half r b
  at : r * 2 ≡ b → Half r b

half : (r b : ℕ) → Half r b
half r b = go (ltb (r * 2) b) refl (ltb b (r * 2)) refl
  where
    go : (x : Bool) → ltb (r * 2) b ≡ x → (y : Bool) → ltb b (r * 2) ≡ y → Half r b
    go true h y k = under (ltb-true (r * 2) b h)
    go false h true k = over (ltb-true b (r * 2) k)
    go false h false k = at (le_antisymm (ltb-false b (r * 2) k) (ltb-false (r * 2) b h))

-- Where k stands: of a / b the whole part is q, r parts below it, the next number is b − r above it, and every other is a whole further off. d is how far k is.
data Place (q r b k d : ℕ) : Type 0 where
  lower : k < q → b + r ≤ d → Place q r b k d
  whole_part : k ≡ q → d ≡ r → Place q r b k d
  next : k ≡ q + 1 → d + r ≡ b → Place q r b k d
  higher : q + 1 < k → b + b ≤ d + r → Place q r b k d

module _ {q r b : ℕ} (R : r < b) {k d : ℕ} where
  -- under a half nothing is nearer than the whole part, and nothing else as near; over a half the next number
  at_least_rest : r * 2 ≤ b → Place q r b k d → r ≤ d
  at_least_rest h (lower l e) = omega arith
  at_least_rest h (whole_part l e) = omega arith
  at_least_rest h (next l e) = omega arith
  at_least_rest h (higher l e) = omega arith

  at_least_other : b ≤ r * 2 → Place q r b k d → b - r ≤ d
  at_least_other h (lower l e) = omega arith
  at_least_other h (whole_part l e) = omega arith
  at_least_other h (next l e) = omega arith
  at_least_other h (higher l e) = omega arith

  only_whole_part : r * 2 < b → Place q r b k d → d ≡ r → k ≡ q
  only_whole_part h (lower l e) f = omega arith
  only_whole_part h (whole_part l e) f = l
  only_whole_part h (next l e) f = omega arith
  only_whole_part h (higher l e) f = omega arith

  only_next : b < r * 2 → Place q r b k d → d ≡ b - r → k ≡ q + 1
  only_next h (lower l e) f = omega arith
  only_next h (whole_part l e) f = omega arith
  only_next h (next l e) f = l
  only_next h (higher l e) f = omega arith

  -- what is no further off than both is one of them
  one_of_two : Place q r b k d → d ≤ r → d ≤ b - r → (k ≡ q) ⊎ (k ≡ q + 1)
  one_of_two (lower l e) f g = absurd (omega arith)
  one_of_two (whole_part l e) f g = inl l
  one_of_two (next l e) f g = inr l
  one_of_two (higher l e) f g = absurd (omega arith)

-- even or odd, and an odd number and 1 are even
parity : (n : ℕ) → (n + n % 2 ≡ n) ⊎ (n + n % 2 ≡ n + 1)
parity n = go (ltb (n % 2) 1) refl
  where
    go : (x : Bool) → ltb (n % 2) 1 ≡ x → (n + n % 2 ≡ n) ⊎ (n + n % 2 ≡ n + 1)
    go true h = let l = ltb-true (n % 2) 1 h in inl (omega arith)
    go false h = let l = ltb-false (n % 2) 1 h in inr (omega arith)

even : (n : ℕ) → (n + n % 2) % 2 ≡ 0
even n = omega arith

-- one more is b parts more
more : (n b : ℕ) → (n + 1) * b ≡ n * b + b
more n b = add-mul n 1 b ∙ ap (λ (x : ℕ). n * b + x) (one-mul b)

module _ (a b : ℕ) (B : 0 < b) where
  parts : a / b * b + a % b ≡ a
  parts = div-add-mod' a b

  place : (k : ℕ) → Place (a / b) (a % b) b k (distance a b k)
  place k = go (ltb k q) refl (ltb (q + 1) k) refl
    where
      q : ℕ
      q = a / b

      go : (x : Bool) → ltb k q ≡ x → (y : Bool) → ltb (q + 1) k ≡ y → Place (a / b) (a % b) b k (distance a b k)
      go true h y g =
          let p = parts in
          let l = ltb-true k q h in
          let m = mul-le-mul_right {m = k + 1} {n = q} b (omega arith) in
          let o = more k b in
          lower l (omega arith)
      go false h true g =
          let p = parts in
          let l = ltb-true (q + 1) k g in
          let m = mul-le-mul_right {m = q + 1 + 1} {n = k} b (omega arith) in
          let o = more q b in
          let o₂ = more (q + 1) b in
          let t = mod-lt a B in
          higher l (omega arith)
      go false h false g = last (ltb q k) refl
        where
          last : (z : Bool) → ltb q k ≡ z → Place (a / b) (a % b) b k (distance a b k)
          last true z =
              let p = parts in
              let l = ltb-true q k z in
              let u = ltb-false (q + 1) k g in
              let e : k ≡ q + 1 = omega arith in
              let o : k * b ≡ q * b + b = ap (λ (x : ℕ). x * b) e ∙ more q b in
              let t = mod-lt a B in
              next e (omega arith)
          last false z =
              let p = parts in
              let l = ltb-false q k z in
              let u = ltb-false k q h in
              let e : k ≡ q = omega arith in
              let o : k * b ≡ q * b = ap (λ (x : ℕ). x * b) e in
              whole_part e (omega arith)

  at_whole_part : distance a b (a / b) ≡ a % b
  at_whole_part = let p = parts in omega arith

  at_next : distance a b (a / b + 1) ≡ b - a % b
  at_next = let p = parts in let o = more (a / b) b in let t = mod-lt a B in omega arith

  -- The nearest whole number, the even one of two as near, is what the comparison with a half gives.
  pub closest_rounds : Rounds a b (closest a b)
  closest_rounds = go (half (a % b) b)
    where
      t : a % b < b
      t = mod-lt a B

      tied : a % b * 2 ≡ b → distance a b (a / b + a / b % 2) ≡ a % b
      tied h = elim (parity (a / b)) [
        | inl e ↦ rw e at_whole_part
        | inr e ↦ rw e (at_next ∙ omega arith)
      ]

      go : Half (a % b) b → Rounds a b (closest a b)
      go (under h) =
          subst (Rounds a b) (under_half a b h)
          (record {
            nearest = λ k. rw at_whole_part (at_least_rest t (omega arith) (place k));
            even_of_two = λ k e n. absurd (n (only_whole_part t h (place k) (e ∙ at_whole_part)));
          })
      go (over h) =
          subst (Rounds a b) (over_half a b h)
          (record {
            nearest = λ k. rw at_next (at_least_other t (omega arith) (place k));
            even_of_two = λ k e n. absurd (n (only_next t h (place k) (e ∙ at_next)));
          })
      go (at h) =
          subst (Rounds a b) (at_half a b h)
          (record {
            nearest = λ k. rw (tied h) (at_least_rest t (omega arith) (place k));
            even_of_two = λ k e n. even (a / b);
          })

  -- No other number is.
  pub rounds_only : (n m : ℕ) → Rounds a b n → Rounds a b m → n ≡ m
  rounds_only n m x y = go (ℕ_discrete n m)
    where
      t : a % b < b
      t = mod-lt a B

      low : (k : ℕ) → Rounds a b k → (k ≡ a / b) ⊎ (k ≡ a / b + 1)
      low k z = one_of_two t (place k) (rw at_whole_part at (z.nearest (a / b))) (rw at_next at (z.nearest (a / b + 1)))

      same : distance a b m ≡ distance a b n
      same = le_antisymm (y.nearest n) (x.nearest m)

      apart : (n ≡ m → ⊥) → (n ≡ a / b) ⊎ (n ≡ a / b + 1) → (m ≡ a / b) ⊎ (m ≡ a / b + 1) → ⊥
      apart f p q =
          let e = x.even_of_two m same (λ z. f (sym z)) in
          let o = y.even_of_two n (sym same) f in
          elim p [
            | inl u ↦ elim q [ inl v ↦ f (u ∙ sym v) | inr v ↦ omega arith ]
            | inr u ↦ elim q [ inl v ↦ omega arith | inr v ↦ f (u ∙ sym v) ]
          ]

      go : Dec (n ≡ m) → n ≡ m
      go (yes e) = e
      go (no f) = absurd (apart f (low n x) (low m y))

-- ---- what follows

-- a whole number is its own nearest
pub rounds_whole : (n b : ℕ) → 0 < b → Rounds (n * b) b n
rounds_whole n b B =
    record {
      nearest = λ k. omega arith;
      even_of_two = λ k e f. absurd (f (eq_of_mul-eq-mul_right b B k n (omega arith)));
    }

-- of two fractions the larger has no smaller one
pub rounds_mono : (a b c d n m : ℕ) → 0 < b → 0 < d → a * d ≤ c * b → Rounds a b n → Rounds c d m → n ≤ m
rounds_mono a b c d n m B D h x y =
    rw (rounds_only a b B n (closest a b) x (closest_rounds a b B), rounds_only c d D m (closest c d) y (closest_rounds c d D)) (closest_mono a b c d B D h)
