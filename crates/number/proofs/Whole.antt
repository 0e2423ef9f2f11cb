-- An f64's pattern as a whole number, by shifts: where it is one, where it has a fraction, and with its sign. Assumes nothing.
use mathlib.Core.Path.{◌≡◌, refl, sym, ap, ◌∙◌}
use mathlib.Core.Logic.{◌⊎◌, inl, inr}
use mathlib.Core.Bool.{Bool, true, false, cond}
use mathlib.Core.Option.{Option, none, some}
use Prim.Native.Nat.{ℕ, zero, suc, ◌+◌, ◌-◌, ◌*◌, ◌/◌, ◌%◌, ◌^◌, ◌≤◌, ◌<◌}
use native.Mathlib.Nat.{le_trans, le_of_eq, le_of_lt, lt_of_lt_of_le, mul_assoc, mul-pos, mul-le-mul_right, mul-lt-mul_of_pos_right, le-add_right}
use native.Mathlib.Nat.{one-mul, add-zero, add-mul, div-le_self, div-add-mod', mod-lt, mod-eq_of_lt, eq-or-lt_of_le}
use native.Mathlib.Omega.{arith}
use borrow.Author.Tests.{ltb-true, ltb-false, lt-leb, le-leb, eqb-true, eqb-false}
use lib.Dec.{leb, ltb, eqb, lit≤}
use lib.Pow.{pow-add, pow_pos, pow_mono, shl_lt, shl_exact}
use lib.Ieee.{Float, nan, inf, Format, binary64, prec, low, hid, ones, odd, of_fields, of_bits}
use lib.Ieee.Exact.{HasValue}
use Rattle.format.specs.Values.{double, bind, map_option}
use Rattle.format.specs.Numbers.{unsigned, signed}
use Rattle.format.proofs.Numbers.Wholes.{sized_unsigned, between_unsigned, large_unsigned, below_unsigned, unsigned_absent, Bears, by_sign, sign_signed}
use Rattle.format.specs.Grammar.Numbers.{not_a_number, infinite}
use Rattle.number.proofs.Reading as reading
use Rattle.number.proofs.Reading.{of_bits_is, nan_above, clears, at_zero, normal}

-- a double, read unsigned
abbrev read : Float → Option ℕ
read v = unsigned (double v)

-- ---- a number over a power of two, c = u × p

module _ (q u p c : ℕ) (C : c ≡ u * p) where
  part : q / u * u + q % u ≡ q
  part = div-add-mod' q u

  over_is : (w : ℕ) → w * c ≡ w * u * p
  over_is w = ap (λ (z : ℕ). w * z) C ∙ sym (mul_assoc w u p)

  exact : q % u ≡ 0 → q * p ≡ q / u * c
  exact e = ap (λ (z : ℕ). z * p) (sym part ∙ ap (λ (z : ℕ). q / u * u + z) e ∙ add-zero (q / u * u)) ∙ sym (over_is (q / u))

  more : 0 < p → (q % u ≡ 0 → ⊥) → q / u * c < q * p
  more P n = let h = part in rw (over_is (q / u)) (mul-lt-mul_of_pos_right (omega arith) P)

  less : 0 < u → 0 < p → q * p < (q / u + 1) * c
  less U P =
      let h = part in
      let l = mod-lt q U in
      let k : (q / u + 1) * u ≡ q / u * u + u = add-mul (q / u) 1 u ∙ ap (λ (z : ℕ). q / u * u + z) (one-mul u) in
      rw (over_is (q / u + 1)) (mul-lt-mul_of_pos_right (omega arith) P)

-- ---- fields without a sign, by the exponent's field x and the digits t

module _ (t : ℕ) (D : t < 2 ^ 52) where
  abbrev q : ℕ
  q = 2 ^ 52 + t

  q_hi : q < 2 ^ 53
  q_hi = omega arith

  -- what the fields say, read unsigned
  abbrev said : ℕ → Option ℕ
  said x = read (of_fields binary64 false x t)

  below_one : (v : Float) (r k : ℕ) → 0 < r → r < 2 ^ 53 → k ≤ 1021 → HasValue v false (r * 2 ^ k) (2 ^ 1074) → none ≡ unsigned (double v)
  below_one v r k P R K h =
      sym (between_unsigned v 0 (r * 2 ^ k) (2 ^ 1074) (pow_pos 1074) h
      (mul-pos P (pow_pos k))
      (lt_of_lt_of_le (shl_lt 53 k R) (pow_mono {i = 53 + k} {j = 1074} (omega arith))))

  small : (x : ℕ) → 0 < x + t → x < 1023 → none ≡ said x
  small zero p h = below_one (of_fields binary64 false 0 t) t 0 (omega arith) (omega arith) (lit≤ tt) (at_zero binary64 false t)
  small (suc k) p h = below_one (of_fields binary64 false (suc k) t) q k (omega arith) q_hi (omega arith) (normal binary64 false (suc k) k t refl (omega arith))

  module _ (x : ℕ) where
    -- the value, where the field is none of the ends
    valued : 1 ≤ x → x < 2047 → HasValue (of_fields binary64 false x t) false (q * 2 ^ (x - 1)) (2 ^ 1074)
    valued lo hi = normal binary64 false x (x - 1) t (omega arith) hi

    -- the point lies in the digits
    inside : 1023 ≤ x → x < 1076 → cond (eqb (q % 2 ^ (1075 - x)) 0) (some (q / 2 ^ (1075 - x))) none ≡ said x
    inside lo hi = go (eqb (q % 2 ^ (1075 - x)) 0) refl
      where
        unit : 2 ^ 1074 ≡ 2 ^ (1075 - x) * 2 ^ (x - 1)
        unit = let e : 1074 ≡ 1075 - x + (x - 1) = omega arith in ap (λ (z : ℕ). 2 ^ z) e ∙ pow-add 2 (1075 - x) (x - 1)

        h : HasValue (of_fields binary64 false x t) false (q * 2 ^ (x - 1)) (2 ^ 1074)
        h = valued (omega arith) (omega arith)

        go : (b : Bool) → eqb (q % 2 ^ (1075 - x)) 0 ≡ b → cond b (some (q / 2 ^ (1075 - x))) none ≡ said x
        go true e =
            let l = div-le_self q (2 ^ (1075 - x)) in
            let w = q / 2 ^ (1075 - x) in
            sym (sized_unsigned (of_fields binary64 false x t) w (2 ^ 1074) (pow_pos 1074) (omega arith)
            (rw (exact q (2 ^ (1075 - x)) (2 ^ (x - 1)) (2 ^ 1074) unit (eqb-true (q % 2 ^ (1075 - x)) 0 e)) at h))
        go false e =
            sym (between_unsigned (of_fields binary64 false x t) (q / 2 ^ (1075 - x)) (q * 2 ^ (x - 1)) (2 ^ 1074) (pow_pos 1074) h
            (more q (2 ^ (1075 - x)) (2 ^ (x - 1)) (2 ^ 1074) unit (pow_pos (x - 1)) (eqb-false (q % 2 ^ (1075 - x)) 0 e))
            (less q (2 ^ (1075 - x)) (2 ^ (x - 1)) (2 ^ 1074) unit (pow_pos (1075 - x)) (pow_pos (x - 1))))

    -- the point lies behind them
    behind : 1076 ≤ x → x < 1087 → some (q * 2 ^ (x - 1075) % 2 ^ 64) ≡ said x
    behind lo hi =
        let k = x - 1075 in
        let e : x - 1 ≡ k + 1074 = omega arith in
        let w : q * 2 ^ (x - 1) ≡ q * 2 ^ k * 2 ^ 1074
        = ap (λ (z : ℕ). q * 2 ^ z) e ∙ ap (λ (z : ℕ). q * z) (pow-add 2 k 1074) ∙ sym (mul_assoc q (2 ^ k) (2 ^ 1074)) in
        ap some (shl_exact 53 k 64 q_hi (omega arith))
        ∙ sym (sized_unsigned (of_fields binary64 false x t) (q * 2 ^ k) (2 ^ 1074) (pow_pos 1074)
        (lt_of_lt_of_le (shl_lt 53 k q_hi) (pow_mono {i = 53 + k} {j = 64} (omega arith)))
        (rw w at (valued (omega arith) (omega arith))))

    -- no u64 is so large, and no whole number is infinite or a NaN
    beyond : 1087 ≤ x → x ≤ 2047 → none ≡ said x
    beyond lo hi = elim (eq-or-lt_of_le hi) [
      | inl e ↦ go (eqb t 0) refl e
      | inr l ↦ sym (large_unsigned (of_fields binary64 false x t) (q * 2 ^ (x - 1)) (2 ^ 1074) (pow_pos 1074) (valued (omega arith) l) (far l))
    ]
      where
        far : x < 2047 → 2 ^ 64 * 2 ^ 1074 ≤ q * 2 ^ (x - 1)
        far l =
            le_trans (le_of_eq (sym (pow-add 2 64 1074)))
            (le_trans (pow_mono {i = 1138} {j = 52 + (x - 1)} (omega arith))
            (le_trans (le_of_eq (pow-add 2 52 (x - 1))) (mul-le-mul_right (2 ^ (x - 1)) (le-add_right (2 ^ 52) t))))

        go : (b : Bool) → eqb t 0 ≡ b → x ≡ 2047 → none ≡ said x
        go true z e = sym (ap read (reading.infinite binary64 false x t e (eqb-true t 0 z)) ∙ (unsigned_absent (inf false)).0 infinite)
        go false z e = sym (ap read (reading.no_number binary64 false x t e (eqb-false t 0 z)) ∙ (unsigned_absent nan).0 not_a_number)

-- ---- a pattern b without a sign

module _ (b : ℕ) (I : b < 2 ^ 63) where
  abbrev x : ℕ
  x = b / 2 ^ 52

  abbrev t : ℕ
  t = b % 2 ^ 52

  D : t < 2 ^ 52
  D = omega arith

  fields_are : said t D x ≡ unsigned (double (of_bits binary64 b))
  fields_are =
      ap read
      (sym
      (of_bits_is binary64 b
      ∙ ap (λ (s : Bool). of_fields binary64 s (b % 2 ^ 63 / 2 ^ 52) t) (lt-leb (2 ^ 63) b I)
      ∙ ap (λ (z : ℕ). of_fields binary64 false (z / 2 ^ 52) t) (mod-eq_of_lt I)))

  pub nothing : b ≡ 0 → some 0 ≡ unsigned (double (of_bits binary64 b))
  nothing e = sym (ap (λ (z : ℕ). unsigned (double (of_bits binary64 z))) e ∙ zero_read)
    where
      zero_read : unsigned (double (of_bits binary64 0)) ≡ some 0
      zero_read = unfold of_bits unsigned bind map_option in refl

  pub all_fraction : (b ≡ 0 → ⊥) → x < 1023 → none ≡ unsigned (double (of_bits binary64 b))
  all_fraction n h = small t D x (omega arith) h ∙ fields_are

  pub point_inside : 1023 ≤ x → x < 1076
      → cond (eqb ((2 ^ 52 + t) % 2 ^ (1075 - x)) 0) (some ((2 ^ 52 + t) / 2 ^ (1075 - x))) none ≡ unsigned (double (of_bits binary64 b))
  point_inside lo hi = inside t D x lo hi ∙ fields_are

  pub point_behind : 1076 ≤ x → x < 1087 → some ((2 ^ 52 + t) * 2 ^ (x - 1075) % 2 ^ 64) ≡ unsigned (double (of_bits binary64 b))
  point_behind lo hi = behind t D x lo hi ∙ fields_are

  pub no_whole : 1087 ≤ x → none ≡ unsigned (double (of_bits binary64 b))
  no_whole lo = beyond t D x lo (omega arith) ∙ fields_are

-- ---- with a sign

odd_bears : (d : ℕ) (s : Bool) (r k l : ℕ) → Bears s (odd d s r k l)
unfolding odd
odd_bears d s zero k l = refl
odd_bears d s (suc r) k l = refl

fields_bear : (f : Format) (s : Bool) (x t : ℕ) → Bears s (of_fields f s x t)
unfolding of_fields
fields_bear f s zero t = odd_bears (prec f) s t 0 (low f)
fields_bear f s (suc x) t = go (eqb (suc x) (ones f)) (eqb t 0)
  where
    go : (a b : Bool) → Bears s (cond a (cond b (inf s) nan) (odd (prec f) s (hid f + t) x (low f)))
    go true true = tt
    go true false = tt
    go false b = odd_bears (prec f) s (hid f + t) x (low f)

-- the sign of a pattern is its highest digit
pub signed_is : (b : ℕ) (s : Bool) (o : Option ℕ) → leb (2 ^ 63) b ≡ s → o ≡ unsigned (double (of_bits binary64 (b % 2 ^ 63)))
    → by_sign s o ≡ signed (double (of_bits binary64 b))
signed_is b s o e h =
    ap (by_sign s) (h ∙ ap read (clears binary64 b))
    ∙ sym (sign_signed s (of_bits binary64 b) (rw (of_bits_is binary64 b, e) (fields_bear binary64 s (b % 2 ^ 63 / 2 ^ 52) (b % 2 ^ 52))))

-- finite with the sign s, above zero in size where the pattern is, or an infinity
abbrev Found : Bool → ℕ → ℕ → Type 0
Found s x t = ((a : ℕ) × HasValue (of_fields binary64 s x t) s a (2 ^ 1074) × (0 < x + t → 0 < a)) ⊎ (of_fields binary64 s x t ≡ inf s)

found : (s : Bool) (x t : ℕ) → x ≤ 2047 → (x ≡ 2047 → t ≡ 0) → Found s x t
found s zero t h z = inl (t * 2 ^ 0, at_zero binary64 s t, λ (p : 0 < 0 + t). mul-pos {m = t} {n = 2 ^ 0} (omega arith) (pow_pos 0))
found s (suc k) t h z = elim (eq-or-lt_of_le h) [
  | inl e ↦ inr (reading.infinite binary64 s (suc k) t e (z e))
  | inr l ↦ inl
      ((2 ^ 52 + t) * 2 ^ k, normal binary64 s (suc k) k t refl l, λ (p : 0 < suc k + t). mul-pos {m = 2 ^ 52 + t} {n = 2 ^ k} (omega arith) (pow_pos k))
]

module _ (b : ℕ) (F : b < 2 ^ 64) where
  abbrev r : ℕ
  r = b % 2 ^ 63

  below_zero : 2 ^ 63 < b → r ≤ 0x7ff0_0000_0000_0000 → unsigned (double (of_bits binary64 b)) ≡ none
  below_zero h I = ap read minus ∙ go (found true (r / 2 ^ 52) (b % 2 ^ 52) (omega arith) (λ (e : r / 2 ^ 52 ≡ 2047). omega arith))
    where
      minus : of_bits binary64 b ≡ of_fields binary64 true (r / 2 ^ 52) (b % 2 ^ 52)
      minus = of_bits_is binary64 b ∙ ap (λ (z : Bool). of_fields binary64 z (r / 2 ^ 52) (b % 2 ^ 52)) (le-leb (2 ^ 63) b (le_of_lt h))

      some_left : 0 < r / 2 ^ 52 + b % 2 ^ 52
      some_left = omega arith

      go : Found true (r / 2 ^ 52) (b % 2 ^ 52) → unsigned (double (of_fields binary64 true (r / 2 ^ 52) (b % 2 ^ 52))) ≡ none
      go (inl v) = below_unsigned (of_fields binary64 true (r / 2 ^ 52) (b % 2 ^ 52)) v.0 (2 ^ 1074) (pow_pos 1074) v.1 (v.2 some_left)
      go (inr e) = ap read e ∙ (unsigned_absent (inf true)).0 infinite

  pub absent_below : 2 ^ 63 < b → none ≡ unsigned (double (of_bits binary64 b))
  absent_below h = sym (go (ltb 0x7ff0_0000_0000_0000 r) refl)
    where
      go : (c : Bool) → ltb 0x7ff0_0000_0000_0000 r ≡ c → unsigned (double (of_bits binary64 b)) ≡ none
      go true e = ap read (nan_above binary64 b (ltb-true 0x7ff0_0000_0000_0000 r e)) ∙ (unsigned_absent nan).0 not_a_number
      go false e = below_zero h (ltb-false 0x7ff0_0000_0000_0000 r e)

  -- -0 is read as 0
  pub natural_is : b ≤ 2 ^ 63 → unsigned (double (of_bits binary64 r)) ≡ unsigned (double (of_bits binary64 b))
  natural_is h = elim (eq-or-lt_of_le h) [
    | inl e ↦ let z : r ≡ 0 = omega arith in
        ap (λ (k : ℕ). unsigned (double (of_bits binary64 k))) z ∙ minus_zero ∙ ap (λ (k : ℕ). unsigned (double (of_bits binary64 k))) (sym e)
    | inr l ↦ ap (λ (k : ℕ). unsigned (double (of_bits binary64 k))) (mod-eq_of_lt l)
  ]
    where
      minus_zero : unsigned (double (of_bits binary64 0)) ≡ unsigned (double (of_bits binary64 (2 ^ 63)))
      minus_zero = unfold of_bits unsigned bind map_option in refl

-- the cases of a pattern without a sign
pub ruleset patterns = (nothing, all_fraction, point_inside, point_behind, no_whole)
