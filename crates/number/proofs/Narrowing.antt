-- An f64's fields narrow to an f32: the digits shifted right and rounded, as a pattern. Assumes nothing.
use mathlib.Core.Path.{◌≡◌, refl, sym, ap, ◌∙◌, subst}
use mathlib.Core.Logic.{◌⊎◌, inl, inr}
use mathlib.Core.Bool.{Bool, true, false, not, cond}
use Prim.Native.Nat.{ℕ, zero, suc, ◌+◌, ◌-◌, ◌*◌, ◌/◌, ◌%◌, ◌^◌, ◌≤◌, ◌<◌, compare}
use native.Mathlib.Nat.{le_trans, le_of_eq, lt_of_lt_of_le, lt_of_le_of_lt, mul-one, mul_assoc, mul_comm, mul_right_comm, mul-pos, mul-le-mul_left}
use native.Mathlib.Nat.{mul-le-mul_right, mul-lt-mul_of_pos_right, le-div_iff_mul-le, div-lt_iff_lt-mul, one-mul, mul_left_comm, zero-add}
use native.Mathlib.Omega.{arith}
use lib.Dec.{T, ltb, ltb→lt, nltb→le, lit≤, lit<}
use lib.Arith.{le-zero}
use borrow.Author.Tests.{ne_eqb}
use lib.Pow.{pow-add, pow_pos, pow_mono, pow-lt, shl_lt}
use lib.Ieee.{Float, nan, inf, binary32, binary64, size, units, round, of_fields, of_bits}
use lib.Ieee.Fits.{round_is, nearest-le}
use lib.Ieee.Digits.{size-le}
use lib.Ieee.Exact.{HasValue}
use lib.Ieee.Nearest.{closest, closest_same, closest_mono, nearest-ge}
use lib.Ieee.Scale.{round_same}
use Rattle.format.specs.Numbers.{narrow}
use Rattle.format.proofs.Numbers.Doubles.{narrow_is}
use Rattle.number.specs.Patterns.{Narrowed}
use Rattle.number.proofs.Reading.{at_zero, normal}
use Rattle.number.proofs.Rounding.{size_is, rounded_bits, units_inf}

-- ---- `round` at q * 2 ^ k / 2 ^ 1074

exchange : (a j b c d : ℕ) → a * b ≡ c * d → a * j * b ≡ c * j * d
exchange a j b c d h = mul_right_comm a j b ∙ ap (λ (x : ℕ). x * j) h ∙ mul_right_comm c d j

pull : (q a j b : ℕ) → q * (a * j) * b ≡ q * j * (a * b)
pull q a j b = simp (mul_assoc, mul_left_comm)

module _ (s : Bool) (q : ℕ) (hi : q < 2 ^ 53) where
  -- a normal result: 29 digits are dropped
  round_mid : (j : ℕ) → 2 ^ 52 ≤ q → round binary32 s (q * 2 ^ (896 + j)) (2 ^ 1074) ≡ units binary32 s (closest q (2 ^ 29)) j
  round_mid j lo =
      let n = q * 2 ^ j * 2 ^ 149 in
      let d = 2 ^ 178 in
      let low : 2 ^ (23 + j) * d ≤ n =
      le_trans (le_of_eq (ap (λ (x : ℕ). x * d) (pow-add 2 23 j) ∙ exchange (2 ^ 23) (2 ^ j) d (2 ^ 52) (2 ^ 149) refl))
      (mul-le-mul_right (2 ^ 149) (mul-le-mul_right (2 ^ j) lo)) in
      let high : n < 2 ^ (24 + j) * d =
      lt_of_lt_of_le (mul-lt-mul_of_pos_right (mul-lt-mul_of_pos_right hi (pow_pos j)) (pow_pos 149))
      (le_of_eq (sym (ap (λ (x : ℕ). x * d) (pow-add 2 24 j) ∙ exchange (2 ^ 24) (2 ^ j) d (2 ^ 53) (2 ^ 149) refl))) in
      let drop : size (n / d) - 24 ≡ j =
      ap (λ (x : ℕ). x - 24)
      (size_is (n / d) (23 + j) (24 + j) (one j) ((le-div_iff_mul-le (pow_pos 178)).1 low) ((div-lt_iff_lt-mul (pow_pos 178)).1 high)) ∙ back j in
      round_same binary32 s (q * 2 ^ (896 + j)) (2 ^ 1074) (q * 2 ^ j) d (pow_pos 1074) (pow_pos 178)
      (ap (λ (x : ℕ). q * x * d) (pow-add 2 896 j) ∙ pull q (2 ^ 896) (2 ^ j) d)
      ∙ round_is binary32 s (q * 2 ^ j) d
      ∙ ap (λ (k : ℕ). units binary32 s (closest n (d * 2 ^ k)) k) drop
      ∙ ap (λ (x : ℕ). units binary32 s x j)
      (closest_same n (d * 2 ^ j) q (2 ^ 29) (mul-pos (pow_pos 178) (pow_pos j)) (pow_pos 29)
      (mul_assoc (q * 2 ^ j) (2 ^ 149) (2 ^ 29) ∙ mul_assoc q (2 ^ j) d ∙ ap (λ (x : ℕ). q * x) (mul_comm (2 ^ j) d)))
    where
      one : (j : ℕ) → 24 + j ≡ suc (23 + j)
      one j = omega arith

      back : (j : ℕ) → 24 + j - 24 ≡ j
      back j = omega arith

  -- a subnormal result: all digits below the smallest value are dropped
  round_low : (k : ℕ) → k ≤ 895 → round binary32 s (q * 2 ^ k) (2 ^ 1074) ≡ units binary32 s (closest q (2 ^ (925 - k))) 0
  round_low k h =
      let n = q * 2 ^ k * 2 ^ 149 in
      let d = 2 ^ 1074 in
      let high : n < 2 ^ 24 * d =
      lt_of_lt_of_le (mul-lt-mul_of_pos_right (lt_of_lt_of_le (shl_lt 53 k hi) (pow_mono {i = 53 + k} {j = 948} (more k h))) (pow_pos 149)) (lit≤ tt) in
      let drop : size (n / d) - 24 ≡ 0 = none (size (n / d)) (size-le (n / d) 24 ((div-lt_iff_lt-mul (pow_pos 1074)).1 high)) in
      let w : n * 2 ^ (925 - k) ≡ q * d =
      mul_right_comm (q * 2 ^ k) (2 ^ 149) (2 ^ (925 - k))
      ∙ ap (λ (x : ℕ). x * 2 ^ 149)
      (mul_assoc q (2 ^ k) (2 ^ (925 - k)) ∙ ap (λ (x : ℕ). q * x) (sym (pow-add 2 k (925 - k)) ∙ ap (λ (x : ℕ). 2 ^ x) (join k h)))
      ∙ mul_assoc q (2 ^ 925) (2 ^ 149) in
      round_is binary32 s (q * 2 ^ k) d
      ∙ ap (λ (k : ℕ). units binary32 s (closest n (d * 2 ^ k)) k) drop
      ∙ ap (λ (x : ℕ). units binary32 s x 0) (closest_same n (d * 2 ^ 0) q (2 ^ (925 - k)) (pow_pos 1074) (pow_pos (925 - k)) w)
    where
      more : (k : ℕ) → k ≤ 895 → 53 + k ≤ 948
      more k h = omega arith

      none : (z : ℕ) → z ≤ 24 → z - 24 ≡ 0
      none z h = omega arith

      join : (k : ℕ) → k ≤ 895 → k + (925 - k) ≡ 925
      join k h = omega arith

  -- ---- how large the rounded digits are
  closest_le : closest q (2 ^ 29) ≤ 2 ^ 24
  closest_le = le_trans (nearest-le (q / 2 ^ 29) (compare (q % 2 ^ 29 * 2) (2 ^ 29))) (go q hi)
    where
      go : (q : ℕ) → q < 9007199254740992 → suc (q / 536870912) ≤ 16777216
      go q h = omega arith

  closest_ge : 2 ^ 52 ≤ q → 2 ^ 23 ≤ closest q (2 ^ 29)
  closest_ge lo = le_trans (go q lo) (nearest-ge (q / 2 ^ 29) (compare (q % 2 ^ 29 * 2) (2 ^ 29)))
    where
      go : (q : ℕ) → 4503599627370496 ≤ q → 8388608 ≤ q / 536870912
      go q h = omega arith

  pub closest_less : (n : ℕ) → 29 ≤ n → closest q (2 ^ n) ≤ 2 ^ 24
  closest_less n h = le_trans (closest_mono q (2 ^ n) q (2 ^ 29) (pow_pos n) (pow_pos 29) (mul-le-mul_left q (pow_mono h))) closest_le

  -- below a third of a unit nothing is left
  closest_none : (n : ℕ) → 55 ≤ n → closest q (2 ^ n) ≡ 0
  closest_none n h = le-zero (closest_mono q (2 ^ n) 1 3 (pow_pos n) (lit< tt) (le_trans (go q hi) (le_trans (pow_mono h) (le_of_eq (sym (one-mul (2 ^ n)))))))
    where
      go : (q : ℕ) → q < 9007199254740992 → q * 3 ≤ 36028797018963968
      go q h = omega arith

split : (a b : ℕ) → (a < b) ⊎ (b ≤ a)
split a b = go (ltb a b) (ltb→lt a b) (nltb→le a b)
  where
    go : (t : Bool) → (T t → a < b) → (T (not t) → b ≤ a) → (a < b) ⊎ (b ≤ a)
    go true h k = inl (h tt)
    go false h k = inr (k tt)

-- ---- which patterns are below the infinity's

module _ (j q : ℕ) (lo : 2 ^ 23 ≤ q) (hi : q ≤ 2 ^ 24) where
  under_top : j * 8388608 + q < 2139095040 → q * 2 ^ j < 2 ^ 277
  under_top h = elim (split j 253) [
    | inl l ↦ lt_of_le_of_lt (le_trans (mul-le-mul_right (2 ^ j) hi) (le_of_eq (sym (pow-add 2 24 j)))) (pow-lt {i = 24 + j} {j = 277} (omega arith))
    | inr g ↦ let small : q < 2 ^ 24 = omega arith in lt_of_lt_of_le (shl_lt 24 j small) (pow_mono {i = 24 + j} {j = 277} (omega arith))
  ]

  over_top : 2139095040 ≤ j * 8388608 + q → 2 ^ 277 ≤ q * 2 ^ j
  over_top h = elim (split j 254) [
    | inl l ↦ let large : 2 ^ 24 ≤ q = omega arith in
        le_trans (pow_mono {i = 277} {j = 24 + j} (omega arith)) (le_trans (le_of_eq (pow-add 2 24 j)) (mul-le-mul_right (2 ^ j) large))
    | inr g ↦ le_trans (pow_mono {i = 277} {j = 23 + j} (omega arith)) (le_trans (le_of_eq (pow-add 2 23 j)) (mul-le-mul_right (2 ^ j) lo))
  ]

infinity : (s : Bool) → of_bits binary32 (cond s 0x8000_0000 0 + 0x7f80_0000) ≡ inf s
unfolding of_bits
infinity true = refl
infinity false = refl

no_number : (s : Bool) → of_bits binary32 (cond s 0x8000_0000 0 + 0x7fc0_0000) ≡ nan
unfolding of_bits
no_number true = refl
no_number false = refl

-- ---- the patterns, of a value q * 2 ^ k / 2 ^ 1074

module _ (v : Float) (s : Bool) (q : ℕ) (hi : q < 2 ^ 53) where
  low_bits : (k : ℕ) → HasValue v s (q * 2 ^ k) (2 ^ 1074) → k ≤ 895 → of_bits binary32 (cond s 0x8000_0000 0 + closest q (2 ^ (925 - k))) ≡ narrow v
  low_bits k h l =
      let r = closest q (2 ^ (925 - k)) in
      let small : r ≤ 2 ^ 24 = closest_less s q hi (925 - k) (room k l) in
      ap (λ (x : ℕ). of_bits binary32 (cond s 0x8000_0000 0 + x)) (sym (zero-add r))
      ∙ rounded_bits binary32 s (q * 2 ^ k) (2 ^ 1074) r 0 (round_low s q hi k l) small (inl refl)
      (lt_of_le_of_lt (le_trans (le_of_eq (mul-one r)) small) (pow-lt {i = 24} {j = 277} (lit< tt)))
      ∙ sym (narrow_is v s (q * 2 ^ k) (2 ^ 1074) (pow_pos 1074) h)
    where
      room : (k : ℕ) → k ≤ 895 → 29 ≤ 925 - k
      room k h = omega arith

  module _ (j : ℕ) (h : HasValue v s (q * 2 ^ (896 + j)) (2 ^ 1074)) (lo : 2 ^ 52 ≤ q) where
    mid_bits : j * 8388608 + closest q (2 ^ 29) < 2139095040 → of_bits binary32 (cond s 0x8000_0000 0 + (j * 8388608 + closest q (2 ^ 29))) ≡ narrow v
    mid_bits p =
        rounded_bits binary32 s (q * 2 ^ (896 + j)) (2 ^ 1074) (closest q (2 ^ 29)) j (round_mid s q hi j lo) (closest_le s q hi)
        (inr (closest_ge s q hi lo)) (under_top j (closest q (2 ^ 29)) (closest_ge s q hi lo) (closest_le s q hi) p)
        ∙ sym (narrow_is v s (q * 2 ^ (896 + j)) (2 ^ 1074) (pow_pos 1074) h)

    over_bits : 2139095040 ≤ j * 8388608 + closest q (2 ^ 29) → of_bits binary32 (cond s 0x8000_0000 0 + 2139095040) ≡ narrow v
    over_bits p =
        infinity s
        ∙ sym (units_inf binary32 s (closest q (2 ^ 29)) j (over_top j (closest q (2 ^ 29)) (closest_ge s q hi lo) (closest_le s q hi) p))
        ∙ sym (round_mid s q hi j lo)
        ∙ sym (narrow_is v s (q * 2 ^ (896 + j)) (2 ^ 1074) (pow_pos 1074) h)

-- ---- `narrow_fields`, by cases

module _ (x t : ℕ) (D : t < 2 ^ 52) where
  abbrev q : ℕ
  q = 2 ^ 52 + t

  q_hi : q < 2 ^ 53
  q_hi = omega arith

  q_lo : 2 ^ 52 ≤ q
  q_lo = omega arith

  pub inf_fields : x ≡ 2047 → t ≡ 0 → Narrowed x t 0x7f80_0000
  inf_fields e z =
      record {
        small = lit< tt;
        is = λ s. infinity s ∙ is s ∙ sym (ap (λ (k : ℕ). narrow (of_fields binary64 s k t)) e ∙ ap (λ (k : ℕ). narrow (of_fields binary64 s 2047 k)) z);
      }
    where
      is : (s : Bool) → inf s ≡ narrow (of_fields binary64 s 2047 0)
      is s = unfold of_fields narrow in refl

  pub nan_fields : x ≡ 2047 → (t ≡ 0 → ⊥) → Narrowed x t 0x7fc0_0000
  unfolding of_fields narrow
  nan_fields e z =
      record {
        small = lit< tt;
        is =
            λ s. no_number s ∙ sym (ap (λ (k : ℕ). narrow (of_fields binary64 s k t)) e ∙ ap (λ (b : Bool). narrow (cond b (inf s) nan)) (ne_eqb t 0 z));
      }

  pub low_fields : 1 ≤ x → x < 897 → Narrowed x t (closest q (2 ^ (926 - x)))
  low_fields lo hi =
      let k = x - 1 in
      let e : 925 - k ≡ 926 - x = omega arith in
      record {
        small = lt_of_le_of_lt (closest_less true q q_hi (926 - x) (omega arith)) (pow-lt {i = 24} {j = 31} (lit< tt));
        is =
            λ s. ap (λ (n : ℕ). of_bits binary32 (cond s 0x8000_0000 0 + closest q (2 ^ n))) (sym e)
            ∙ low_bits (of_fields binary64 s x t) s q q_hi k (normal binary64 s x k t (omega arith) (omega arith)) (omega arith);
      }

  module _ (lo : 897 ≤ x) (hi : x < 2047) where
    value : (s : Bool) → HasValue (of_fields binary64 s x t) s (q * 2 ^ (896 + (x - 897))) (2 ^ 1074)
    value s = normal binary64 s x (896 + (x - 897)) t (omega arith) hi

    pub mid_fields : (x - 897) * 8388608 + closest q (2 ^ 29) < 2139095040 → Narrowed x t ((x - 897) * 8388608 + closest q (2 ^ 29))
    mid_fields p = record { small = omega arith; is = λ s. mid_bits (of_fields binary64 s x t) s q q_hi (x - 897) (value s) q_lo p }

    pub over_fields : 2139095040 ≤ (x - 897) * 8388608 + closest q (2 ^ 29) → Narrowed x t 2139095040
    over_fields p = record { small = lit< tt; is = λ s. over_bits (of_fields binary64 s x t) s q q_hi (x - 897) (value s) q_lo p }

pub tiny_fields : (x t : ℕ) → t < 2 ^ 52 → x < 871 → Narrowed x t 0
tiny_fields zero t D h =
    let small : t < 2 ^ 53 = omega arith in
    record {
      small = lit< tt;
      is =
          λ s. ap (λ (r : ℕ). of_bits binary32 (cond s 0x8000_0000 0 + r)) (sym (closest_none s t small 925 (lit≤ tt)))
          ∙ low_bits (of_fields binary64 s 0 t) s t small 0 (at_zero binary64 s t) (lit≤ tt);
    }
tiny_fields (suc k) t D h =
    let one : 1 ≤ suc k = omega arith in
    let l : suc k < 897 = omega arith in
    subst (Narrowed (suc k) t) (closest_none true (2 ^ 52 + t) (q_hi (suc k) t D) (926 - suc k) (omega arith)) (low_fields (suc k) t D one l)
