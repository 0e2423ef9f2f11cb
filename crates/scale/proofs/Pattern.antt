-- The picometres that an f64's pattern says, by the exponent's field x and the digits t. Its sign is not looked at. Assumes nothing.
use mathlib.Core.Path.{◌≡◌, refl, sym, ap, ◌∙◌}
use mathlib.Core.Logic.{inl, inr}
use mathlib.Core.Bool.{Bool, true, false, cond}
use mathlib.Core.Option.{Option, none}
use Prim.Native.Nat.{ℕ, ◌+◌, ◌-◌, ◌*◌, ◌/◌, ◌%◌, ◌^◌, ◌≤◌, ◌<◌, compare}
use native.Mathlib.Nat.{le_trans, le-add_right, mul-one, mul_assoc, mul_left_comm, mul-le-mul_right, le-div_iff_mul-le, eq-or-lt_of_le}
use native.Mathlib.Omega.{arith}
use lib.Dec.{leb, eqb}
use lib.IntN.{pos}
use lib.Pow.{pow-add, pow_pos, pow_mono}
use lib.Ieee.{inf, nan, binary64, of_fields, of_bits}
use lib.Ieee.Nearest.{closest, closest_same, nearest-ge}
use Rattle.format.specs.Numbers.{in_u64}
use Rattle.format.specs.Picometres.{picometres}
use Rattle.format.proofs.Numbers.Wholes.{no_u64}
use Rattle.format.proofs.Numbers.Picometres.{picometres_at}
use Rattle.number.proofs.Reading.{at_zero, normal}

-- the picometres that q / 2^n micrometres are
abbrev said : ℕ → ℕ → Option ℕ
said q n = in_u64 (pos (closest (q * 1_000_000) (2 ^ n)))

-- a fraction is rounded to its whole part or more
whole_part : (a c k : ℕ) → 0 < c → k * c ≤ a → k ≤ closest a c
whole_part a c k C h = le_trans ((le-div_iff_mul-le C).1 h) (nearest-ge (a / c) (compare (a % c * 2) c))

-- ---- the fields, with either sign

module _ (s : Bool) (t : ℕ) where
  abbrev q : ℕ
  q = 2 ^ 52 + t

  -- the digits alone
  low_field : said t 1074 ≡ picometres (of_fields binary64 s 0 t)
  low_field =
      sym (picometres_at (of_fields binary64 s 0 t) s (t * 2 ^ 0) (2 ^ 1074) (pow_pos 1074) (at_zero binary64 s t)
      ∙ ap (λ (z : ℕ). said z 1074) (mul-one t))

  -- an infinity or a NaN
  no_size : none ≡ picometres (of_fields binary64 s 2047 t)
  unfolding of_fields picometres
  no_size = go (eqb t 0)
    where
      go : (b : Bool) → none ≡ picometres (cond b (inf s) nan)
      go true = refl
      go false = refl

  module _ (x : ℕ) where
    -- in units of the smallest double
    valued : 1 ≤ x → x < 2047 → picometres (of_fields binary64 s x t) ≡ said (q * 2 ^ (x - 1)) 1074
    valued lo hi =
        picometres_at (of_fields binary64 s x t) s (q * 2 ^ (x - 1)) (2 ^ 1074) (pow_pos 1074) (normal binary64 s x (x - 1) t (omega arith) hi)

    -- the digits with the leading one, over a power of two
    mid_field : 1 ≤ x → x < 1075 → said q (1075 - x) ≡ picometres (of_fields binary64 s x t)
    mid_field lo hi =
        ap (λ (z : ℕ). in_u64 (pos z))
        (closest_same (q * 1_000_000) (2 ^ (1075 - x)) (q * 2 ^ (x - 1) * 1_000_000) (2 ^ 1074) (pow_pos (1075 - x)) (pow_pos 1074) same)
        ∙ sym (valued lo (omega arith))
      where
        unit : 2 ^ 1074 ≡ 2 ^ (x - 1) * 2 ^ (1075 - x)
        unit = let e : 1074 ≡ x - 1 + (1075 - x) = omega arith in ap (λ (z : ℕ). 2 ^ z) e ∙ pow-add 2 (x - 1) (1075 - x)

        go : (m p u : ℕ) → q * m * (p * u) ≡ q * p * m * u
        go m p u = simp (mul_assoc, mul_left_comm)

        same : q * 1_000_000 * 2 ^ 1074 ≡ q * 2 ^ (x - 1) * 1_000_000 * 2 ^ (1075 - x)
        same = ap (λ (z : ℕ). q * 1_000_000 * z) unit ∙ go 1_000_000 (2 ^ (x - 1)) (2 ^ (1075 - x))

    -- 2^52 micrometres and more, an infinity, a NaN
    high_field : 1075 ≤ x → x ≤ 2047 → none ≡ picometres (of_fields binary64 s x t)
    high_field lo hi = elim (eq-or-lt_of_le hi) [
      | inl e ↦ no_size ∙ ap (λ (z : ℕ). picometres (of_fields binary64 s z t)) (sym e)
      | inr l ↦
          sym (no_u64 (closest a (2 ^ 1074)) (whole_part a (2 ^ 1074) (2 ^ 64) (pow_pos 1074) (go (2 ^ 1074) (2 ^ (x - 1)) (q * 2 ^ (x - 1)) p m)))
          ∙ sym (valued (omega arith) l)
    ]
      where
        a : ℕ
        a = q * 2 ^ (x - 1) * 1_000_000

        p : 2 ^ 1074 ≤ 2 ^ (x - 1)
        p = pow_mono {i = 1074} {j = x - 1} (omega arith)

        m : 2 ^ 52 * 2 ^ (x - 1) ≤ q * 2 ^ (x - 1)
        m = mul-le-mul_right (2 ^ (x - 1)) (le-add_right (2 ^ 52) t)

        go : (c p r : ℕ) → c ≤ p → 2 ^ 52 * p ≤ r → 2 ^ 64 * c ≤ r * 1_000_000
        go c p r h k = omega arith

-- ---- a pattern b

module _ (b : ℕ) where
  abbrev x : ℕ
  x = b % 2 ^ 63 / 2 ^ 52

  abbrev t : ℕ
  t = b % 2 ^ 63 % 2 ^ 52

  fields_are : picometres (of_fields binary64 (leb (2 ^ 63) b) x t) ≡ picometres (of_bits binary64 b)
  unfolding of_bits
  fields_are = let e : t ≡ b % 2 ^ 52 = omega arith in ap (λ (z : ℕ). picometres (of_fields binary64 (leb (2 ^ 63) b) x z)) e

  pub low_pattern : x ≡ 0 → said t 1074 ≡ picometres (of_bits binary64 b)
  low_pattern e = low_field (leb (2 ^ 63) b) t ∙ ap (λ (z : ℕ). picometres (of_fields binary64 (leb (2 ^ 63) b) z t)) (sym e) ∙ fields_are

  pub mid_pattern : (x ≡ 0 → ⊥) → x < 1075 → said (2 ^ 52 + t) (1075 - x) ≡ picometres (of_bits binary64 b)
  mid_pattern lo hi = mid_field (leb (2 ^ 63) b) t x (omega arith) hi ∙ fields_are

  pub high_pattern : 1075 ≤ x → none ≡ picometres (of_bits binary64 b)
  high_pattern lo = high_field (leb (2 ^ 63) b) t x lo (omega arith) ∙ fields_are
