-- A whole number to the nearest f64 of either sign, as a pattern. Assumes nothing.
use mathlib.Core.Path.{◌≡◌, refl, sym, ap, ◌∙◌, subst}
use mathlib.Core.Logic.{inr}
use mathlib.Core.Bool.{Bool, true, false, cond}
use Prim.Native.Nat.{ℕ, suc, ◌+◌, ◌-◌, ◌*◌, ◌/◌, ◌%◌, ◌^◌, ◌≤◌, ◌<◌, compare}
use native.Mathlib.Nat.{le_trans, le_of_eq, le_of_lt, lt_of_lt_of_le, lt_of_le_of_lt, mul-one, one-mul, mul_assoc, mul_comm, mul-pos, mul-le-mul_right}
use native.Mathlib.Nat.{le-div_iff_mul-le, div-lt_iff_lt-mul, div-one, mod-one}
use native.Mathlib.Omega.{arith}
use lib.Dec.{lit<}
use lib.Pow.{pow-add, pow_pos, pow-lt, shl_lt, shl_exact}
use lib.Ieee.{binary64, size, nearest, units, round, of_bits}
use lib.Ieee.Fits.{round_is, nearest-le}
use lib.Ieee.Nearest.{closest, closest_same, nearest-ge}
use Rattle.number.specs.Patterns.{Nearest}
use Rattle.number.proofs.Rounding.{size_is, rounded_bits}

whole : (a : ℕ) → closest a 1 ≡ a
whole a = ap (λ (x : ℕ). nearest x (compare (a % 1 * 2) 1)) (div-one a) ∙ ap (λ (x : ℕ). nearest a (compare (x * 2) 1)) (mod-one a)

pub zero_nearest : Nearest 0 0
zero_nearest = record { small = lit< tt; is = go }
  where
    go : (s : Bool) → of_bits binary64 (cond s 0x8000_0000_0000_0000 0 + 0) ≡ round binary64 s 0 1
    go true = unfold of_bits round in refl
    go false = unfold of_bits round in refl

-- n's highest digit is at j
pub record Highest (n j : ℕ) : Type 0 where
  pub low : 2 ^ j ≤ n
  pub high : n < 2 ^ (j + 1)
  pub small : j < 64

pub highest : (n i j : ℕ) → 2 ^ i ≤ n → n < 2 * 2 ^ i → i < 64 → j ≡ i → Highest n j
highest n i j l h s e =
    subst (Highest n) (sym e) (record { low = l; high = lt_of_lt_of_le h (le_of_eq (mul_comm 2 (2 ^ i) ∙ sym (pow-add 2 i 1))); small = s })

module _ (n j : ℕ) (H : Highest n j) where
  abbrev wide : ℕ
  wide = n * 2 ^ 1074

  dropped : size (wide / 1) - 53 ≡ 1022 + j
  dropped =
      let e : j + 1 + 1074 ≡ suc (j + 1074) = omega arith in
      let b : j + 1 + 1074 - 53 ≡ 1022 + j = omega arith in
      ap (λ (x : ℕ). size x - 53) (div-one wide)
      ∙ ap (λ (x : ℕ). x - 53)
      (size_is wide (j + 1074) (j + 1 + 1074) e (le_trans (le_of_eq (pow-add 2 j 1074)) (mul-le-mul_right (2 ^ 1074) H.low))
      (shl_lt (j + 1) 1074 H.high))
      ∙ b

  at : (s : Bool) → round binary64 s n 1 ≡ units binary64 s (closest wide (1 * 2 ^ (1022 + j))) (1022 + j)
  at s = round_is binary64 s n 1 ∙ ap (λ (k : ℕ). units binary64 s (closest wide (1 * 2 ^ k)) k) dropped

  cross_pos : 0 < 1 * 2 ^ (1022 + j)
  cross_pos = mul-pos (lit< tt) (pow_pos (1022 + j))

  exact : j < 53 → closest wide (1 * 2 ^ (1022 + j)) ≡ n * 2 ^ (52 - j)
  exact h =
      let e : 52 - j + (1022 + j) ≡ 1074 = omega arith in
      closest_same wide (1 * 2 ^ (1022 + j)) (n * 2 ^ (52 - j)) 1 cross_pos (lit< tt)
      (mul-one wide ∙ sym (ap (λ (x : ℕ). n * 2 ^ (52 - j) * x) (one-mul (2 ^ (1022 + j))) ∙ mul_assoc n (2 ^ (52 - j)) (2 ^ (1022 + j))
      ∙ ap (λ (x : ℕ). n * x) (sym (pow-add 2 (52 - j) (1022 + j)) ∙ ap (λ (x : ℕ). 2 ^ x) e)))
      ∙ whole (n * 2 ^ (52 - j))

  inexact : 53 ≤ j → closest wide (1 * 2 ^ (1022 + j)) ≡ closest n (2 ^ (j - 52))
  inexact h =
      let e : 1074 + (j - 52) ≡ 1022 + j = omega arith in
      closest_same wide (1 * 2 ^ (1022 + j)) n (2 ^ (j - 52)) cross_pos (pow_pos (j - 52))
      (mul_assoc n (2 ^ 1074) (2 ^ (j - 52)) ∙ ap (λ (x : ℕ). n * x) (sym (pow-add 2 1074 (j - 52)) ∙ ap (λ (x : ℕ). 2 ^ x) e ∙ sym (one-mul (2 ^ (1022 + j)))))

  -- 53 digits, or 2 ^ 53
  bits : (q : ℕ) → closest wide (1 * 2 ^ (1022 + j)) ≡ q → 2 ^ 52 ≤ q → q ≤ 2 ^ 53 → Nearest n ((1022 + j) * 0x10_0000_0000_0000 + q)
  bits q e l h = record {
    small = omega (arith, H.small);
    is = λ s. rounded_bits binary64 s n 1 q (1022 + j) (at s ∙ ap (λ (x : ℕ). units binary64 s x (1022 + j)) e) h (inr l)
        (lt_of_le_of_lt (le_trans (mul-le-mul_right (2 ^ (1022 + j)) h) (le_of_eq (sym (pow-add 2 53 (1022 + j)))))
        (pow-lt {i = 53 + (1022 + j)} {j = 2098} (omega (arith, H.small))));
  }

  module _ (h : j < 53) where
    up_hi : n * 2 ^ (52 - j) < 2 ^ 53
    up_hi = let e : j + 1 + (52 - j) ≡ 53 = omega arith in subst (λ (x : ℕ). n * 2 ^ (52 - j) < 2 ^ x) e (shl_lt (j + 1) (52 - j) H.high)

    up_lo : 2 ^ 52 ≤ n * 2 ^ (52 - j)
    up_lo =
        let e : 52 ≡ j + (52 - j) = omega arith in
        le_trans (le_of_eq (ap (λ (x : ℕ). 2 ^ x) e ∙ pow-add 2 j (52 - j))) (mul-le-mul_right (2 ^ (52 - j)) H.low)

    pub up_bits : Nearest n ((1022 + j) * 0x10_0000_0000_0000 + n * 2 ^ (52 - j) % 2 ^ 64)
    up_bits =
        let is : n * 2 ^ (52 - j) % 2 ^ 64 ≡ n * 2 ^ (52 - j) = shl_exact (j + 1) (52 - j) 64 H.high (omega arith) in
        subst (λ (x : ℕ). Nearest n ((1022 + j) * 0x10_0000_0000_0000 + x)) (sym is) (bits (n * 2 ^ (52 - j)) (exact h) up_lo (le_of_lt up_hi))

  module _ (h : 53 ≤ j) where
    abbrev u : ℕ
    u = 2 ^ (j - 52)

    down_hi : closest n u ≤ 2 ^ 53
    down_hi =
        let e : j + 1 ≡ 53 + (j - 52) = omega arith in
        le_trans (nearest-le (n / u) (compare (n % u * 2) u))
        ((div-lt_iff_lt-mul (pow_pos (j - 52))).1 (lt_of_lt_of_le H.high (le_of_eq (ap (λ (x : ℕ). 2 ^ x) e ∙ pow-add 2 53 (j - 52)))))

    down_lo : 2 ^ 52 ≤ closest n u
    down_lo =
        let e : 52 + (j - 52) ≡ j = omega arith in
        le_trans ((le-div_iff_mul-le (pow_pos (j - 52))).1 (le_trans (le_of_eq (sym (pow-add 2 52 (j - 52)) ∙ ap (λ (x : ℕ). 2 ^ x) e)) H.low))
        (nearest-ge (n / u) (compare (n % u * 2) u))

    pub down_bits : (r : ℕ) → r ≡ closest n u → Nearest n ((1022 + j) * 0x10_0000_0000_0000 + r)
    down_bits r e = bits r (inexact h ∙ sym e) (le_trans down_lo (le_of_eq (sym e))) (le_trans (le_of_eq e) down_hi)
