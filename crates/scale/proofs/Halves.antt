-- A fraction to the nearest whole number, where the number over the power of two comes in two halves. Assumes nothing.
use mathlib.Core.Path.{◌≡◌, refl, sym, ap, ◌∙◌}
use mathlib.Core.Bool.{Bool, true, false}
use mathlib.Core.Option.{none, some}
use Prim.Native.Nat.{ℕ, ◌+◌, ◌-◌, ◌*◌, ◌/◌, ◌%◌, ◌^◌, ◌≤◌, ◌<◌, compare, Ordering}
use native.Mathlib.Nat.{le_trans, le_of_eq, lt_of_lt_of_le, mul_comm, mul_assoc, mul_left_comm, mul-le-mul_right, mul-add-div_right}
use native.Mathlib.Nat.{mul-add-mod_self_right, div-div-eq-div-mul, div-eq_of_lt, mod-eq_of_lt, div-lt_iff_lt-mul, le-div_iff_mul-le}
use native.Mathlib.Omega.{arith}
use borrow.Author.Tests.{ltb-true, ltb-false}
use lib.Dec.{ltb}
use lib.Arith.{digits_div, digits_mod, mod-mul}
use lib.IntN.{pos}
use lib.Pow.{pow-add, pow_pos, pow_mono, shl_exact}
use lib.Ieee.{nearest}
use lib.Ieee.Nearest.{closest, closest_same}
use Rattle.std.specs.Prelude as std
use Rattle.std.specs.Option.{SomeIff}
use Rattle.format.specs.Numbers.{in_u64}
use Rattle.format.proofs.Numbers.Wholes.{below_u64, no_u64}
use Rattle.format.proofs.Numbers.Closest.{under_half, over_half}
use Rattle.number.specs.Readings.{natural}

-- ---- less than a half is 0

pub nothing_left : (a b : ℕ) → a * 2 < b → closest a b ≡ 0
nothing_left a b h =
    let l : a < b = omega arith in
    sym (under_half a b (rw (mod-eq_of_lt l) h)) ∙ div-eq_of_lt l

-- less than half a picometre
pub tiny : (q n : ℕ) → q < 2 ^ 53 → 73 < n → some 0 ≡ in_u64 (pos (closest (q * 1_000_000) (2 ^ n)))
tiny q n h k =
    let l : q * 1_000_000 * 2 < 2 ^ 74 = omega arith in
    let m : q * 1_000_000 * 2 < 2 ^ n = lt_of_lt_of_le l (pow_mono {i = 74} {j = n} k) in
    sym (below_u64 0 (omega arith)) ∙ ap (λ (z : ℕ). in_u64 (pos z)) (sym (nothing_left (q * 1_000_000) (2 ^ n) m))

-- ---- an even whole part passes through

even_nearest : (c w : ℕ) (o : Ordering) → nearest (2 * c + w) o ≡ 2 * c + nearest w o
even_nearest c w Ordering.lt = refl
even_nearest c w Ordering.eq = omega arith
even_nearest c w Ordering.gt = omega arith

pub even_through : (c b l : ℕ) → 0 < b → closest (2 * c * b + l) b ≡ 2 * c + closest l b
even_through c b l B = rw (mul-add-div_right B (2 * c) l, mul-add-mod_self_right (2 * c) b l) (even_nearest c (l / b) (compare (l % b * 2) b))

-- ---- (h + l / g) / d with an even d, where l / g is a fraction: only whether that is 0 counts

module _ (h g l e : ℕ) (L : l < g) (E : 0 < e) where
  abbrev d : ℕ
  d = 2 * e

  abbrev r : ℕ
  r = h % d

  G : 0 < g
  G = omega arith

  whole : (h * g + l) / (g * d) ≡ h / d
  whole = sym (div-div-eq-div-mul (h * g + l) g d) ∙ ap (λ (x : ℕ). x / d) (digits_div h L)

  rest : (h * g + l) % (g * d) ≡ r * g + l
  rest =
      ap (λ (x : ℕ). (h * g + l) % x) (mul_comm g d)
      ∙ mod-mul (h * g + l) {m = d} (omega arith) G
      ∙ ap (λ (x : ℕ). x % d * g + (h * g + l) % g) (digits_div h L)
      ∙ ap (λ (x : ℕ). r * g + x) (digits_mod h L)

  below : r < e → h / d ≡ closest (h * g + l) (g * d)
  below k =
      let m : (r + 1) * g ≤ e * g = mul-le-mul_right g (omega arith) in
      sym whole ∙ under_half (h * g + l) (g * d) (rw rest (omega arith))

  above : e ≤ r → 0 < l → h / d + 1 ≡ closest (h * g + l) (g * d)
  above k p =
      let m : e * g ≤ r * g = mul-le-mul_right g k in
      ap (λ (x : ℕ). x + 1) (sym whole) ∙ over_half (h * g + l) (g * d) (rw rest (omega arith))

-- any fraction will do for it, and so a half
pub sticky : (h g l e : ℕ) → l < g → 0 < e → 0 < l → closest (h * g + l) (g * (2 * e)) ≡ closest (h * 2 + 1) (2 * (2 * e))
sticky h g l e L E p = go (ltb (h % (2 * e)) e) refl
  where
    go : (b : Bool) → ltb (h % (2 * e)) e ≡ b → closest (h * g + l) (g * (2 * e)) ≡ closest (h * 2 + 1) (2 * (2 * e))
    go true q = let k = ltb-true (h % (2 * e)) e q in sym (below h g l e L E k) ∙ below h 2 1 e (omega arith) E k
    go false q = let k = ltb-false (h % (2 * e)) e q in sym (above h g l e L E k p) ∙ above h 2 1 e (omega arith) E k (omega arith)

-- ---- a number of two halves

abbrev halves : ℕ → ℕ → ℕ
halves high low = high * 2 ^ 64 + low

-- ---- the point in the low half, n digits before its end

module _ (high low n : ℕ) (N : n < 63) where
  abbrev front : ℕ
  front = high * 2 ^ (64 - n)

  -- what stands before the point is even
  before : high * 2 ^ 64 ≡ 2 * (high * 2 ^ (63 - n)) * 2 ^ n
  before =
      let e : 64 ≡ 1 + (63 - n) + n = omega arith in
      ap (λ (z : ℕ). high * z) (ap (λ (z : ℕ). 2 ^ z) e ∙ pow-add 2 (1 + (63 - n)) n ∙ ap (λ (z : ℕ). z * 2 ^ n) (pow-add 2 1 (63 - n)))
      ∙ go (2 ^ (63 - n)) (2 ^ n)
    where
      go : (p u : ℕ) → high * (2 * p * u) ≡ 2 * (high * p) * u
      go p u = simp (mul_assoc, mul_left_comm)

  even : 2 * (high * 2 ^ (63 - n)) ≡ front
  even =
      let e : 1 + (63 - n) ≡ 64 - n = omega arith in
      mul_left_comm 2 high (2 ^ (63 - n)) ∙ ap (λ (z : ℕ). high * z) (sym (pow-add 2 1 (63 - n)) ∙ ap (λ (z : ℕ). 2 ^ z) e)

  low_point : closest (halves high low) (2 ^ n) ≡ front + closest low (2 ^ n)
  low_point =
      ap (λ (z : ℕ). closest (z + low) (2 ^ n)) before
      ∙ even_through (high * 2 ^ (63 - n)) (2 ^ n) low (pow_pos n)
      ∙ ap (λ (z : ℕ). z + closest low (2 ^ n)) even

  joined : 2 ^ n * 2 ^ (64 - n) ≡ 2 ^ 64
  joined = let e : n + (64 - n) ≡ 64 = omega arith in sym (pow-add 2 n (64 - n)) ∙ ap (λ (z : ℕ). 2 ^ z) e

  -- the high half alone is too large
  pub low_over : (high / 2 ^ n ≡ 0 → ⊥) → none ≡ in_u64 (pos (closest (halves high low) (2 ^ n)))
  low_over h =
      let l : 1 * 2 ^ n ≤ high = (le-div_iff_mul-le (pow_pos n)).0 (omega arith) in
      let m : 2 ^ n * 2 ^ (64 - n) ≤ front = mul-le-mul_right (2 ^ (64 - n)) (omega arith) in
      sym (no_u64 (closest (halves high low) (2 ^ n)) (rw low_point (le_trans (le_of_eq (sym joined)) (omega arith))))

  module _ (h : high / 2 ^ n ≡ 0) (back : ℕ) (B : back ≡ closest low (2 ^ n)) where
    -- nothing is shifted out
    front_is : front % 2 ^ 64 ≡ front
    front_is =
        let l : high < 1 * 2 ^ n = (div-lt_iff_lt-mul (pow_pos n)).0 (omega arith) in
        shl_exact n (64 - n) 64 (omega arith) (omega arith)

    sum_is : front % 2 ^ 64 + back ≡ closest (halves high low) (2 ^ n)
    sum_is = let f = front_is in let p = low_point in omega arith

    -- the sum, where it fits
    pub low_sum : (o : std.Option ℕ) → SomeIff o (front % 2 ^ 64 + back < 2 ^ 64) (front % 2 ^ 64 + back)
        → natural o ≡ in_u64 (pos (closest (halves high low) (2 ^ n)))
    low_sum (std.Some x) k = ap some k.1 ∙ sym (below_u64 (front % 2 ^ 64 + back) k.0) ∙ ap (λ (z : ℕ). in_u64 (pos z)) sum_is
    low_sum std.None k = let s = sum_is in sym (no_u64 (closest (halves high low) (2 ^ n)) (omega arith))

-- ---- the point in the high half, where the lowest word is all behind it

module _ (high low n : ℕ) (N : 34 ≤ n) where
  -- without its lowest word
  abbrev upper : ℕ
  upper = high * 2 ^ 32 + low / 2 ^ 32

  words : halves high low ≡ upper * 2 ^ 32 + low % 2 ^ 32
  words = omega arith

  unit : 2 ^ n ≡ 2 ^ 32 * (2 * 2 ^ (n - 33))
  unit = let e : n ≡ 32 + (1 + (n - 33)) = omega arith in
      ap (λ (z : ℕ). 2 ^ z) e ∙ pow-add 2 32 (1 + (n - 33)) ∙ ap (λ (z : ℕ). 2 ^ 32 * z) (pow-add 2 1 (n - 33))

  unit_2 : 2 ^ (n - 31) ≡ 2 * (2 * 2 ^ (n - 33))
  unit_2 = let e : n - 31 ≡ 1 + (1 + (n - 33)) = omega arith in
      ap (λ (z : ℕ). 2 ^ z) e ∙ pow-add 2 1 (1 + (n - 33)) ∙ ap (λ (z : ℕ). 2 * z) (pow-add 2 1 (n - 33))

  -- the lowest word is 0
  pub high_point : low % 2 ^ 32 ≡ 0 → closest (upper * 2) (2 ^ (n - 31)) ≡ closest (halves high low) (2 ^ n)
  high_point e =
      closest_same (upper * 2) (2 ^ (n - 31)) (halves high low) (2 ^ n) (pow_pos (n - 31)) (pow_pos n)
      (rw (unit, unit_2, words, e) (go upper (2 ^ (n - 33))))
    where
      go : (a p : ℕ) → a * 2 * (2 ^ 32 * (2 * p)) ≡ (a * 2 ^ 32 + 0) * (2 * (2 * p))
      go a p = omega arith

  -- it is not: one digit stands for it
  pub high_point_more : (low % 2 ^ 32 ≡ 0 → ⊥) → closest (upper * 2 + 1) (2 ^ (n - 31)) ≡ closest (halves high low) (2 ^ n)
  high_point_more e =
      ap (closest (upper * 2 + 1)) unit_2
      ∙ sym (sticky upper (2 ^ 32) (low % 2 ^ 32) (2 ^ (n - 33)) (omega arith) (pow_pos (n - 33)) (omega arith))
      ∙ ap (λ (z : ℕ). closest z (2 ^ 32 * (2 * 2 ^ (n - 33)))) (sym words)
      ∙ ap (closest (halves high low)) (sym unit)
