-- Reading a pattern: which are a NaN's, and what clearing the sign's bit does. Assumes nothing.
use mathlib.Core.Path.{◌≡◌, refl, sym, ap, ◌∙◌, subst}
use mathlib.Core.Bool.{Bool, true, false, not, cond, false≢true}
use Prim.Native.Nat.{ℕ, zero, suc, ◌+◌, ◌-◌, ◌/◌, ◌%◌, ◌^◌, ◌≤◌, ◌<◌, ◌*◌}
use native.Mathlib.Nat.{mod-lt, mod-eq_of_lt, mod-mod_of_dvd, dvd-mul_right, mul-pos, zero-lt-suc, ne_of_lt}
use native.Mathlib.Omega.{arith}
use borrow.Author.Tests.{le-ltb, lt-ltb, lt-leb, eq-eqb, ne_eqb}
use lib.Dec.{T, leb, eqb}
use lib.Pow.{pow_pos}
use lib.Ieee.{Float, nan, inf, fin, Format, prec, emax, low, odd, is_nan, hid, ones, top, of_fields, of_bits, nan_bits}
use lib.Ieee.Bits.{nan_bits_is, nan_bits_above}
use lib.Ieee.Exact.{HasValue, odd_sign}
use Rattle.format.specs.Numbers.{magnitude}
use Rattle.format.proofs.Numbers.Doubles.{least_bits, most_bits}

-- ---- which values and which patterns are a NaN's

pub nan_is : (x : Float) → is_nan x ≡ true → x ≡ nan
unfolding is_nan
nan_is nan h = refl
nan_is (inf s) h = absurd (false≢true h)
nan_is (fin s m e) h = absurd (false≢true h)

no : {b : Bool} → b ≡ false → T (not b)
no h = subst (λ (a : Bool). T (not a)) (sym h) tt

-- with the sign's bit off, the patterns above the infinity's are the NaNs'
pub nan_above : (f : Format) (b : ℕ) → ones f * hid f < b % top f → of_bits f b ≡ nan
nan_above f b h = nan_is (of_bits f b) (sym (nan_bits_is f b) ∙ nan_bits_above f b ∙ lt-ltb (ones f * hid f) (b % top f) h)

pub no_nan_below : (f : Format) (b : ℕ) → b % top f ≤ ones f * hid f → T (not (nan_bits f b))
no_nan_below f b h = no (nan_bits_above f b ∙ le-ltb (ones f * hid f) (b % top f) h)

-- ---- the sign's bit

pub of_bits_is : (f : Format) (b : ℕ) → of_bits f b ≡ of_fields f (leb (top f) b) (b % top f / hid f) (b % hid f)
unfolding of_bits
of_bits_is f b = refl

pub odd_clear : (d : ℕ) (s : Bool) (q k l : ℕ) → odd d false q k l ≡ magnitude (odd d s q k l)
unfolding odd magnitude
odd_clear d s zero k l = refl
odd_clear d s (suc q) k l = refl

fields_clear : (f : Format) (s : Bool) (x t : ℕ) → of_fields f false x t ≡ magnitude (of_fields f s x t)
unfolding of_fields magnitude
fields_clear f s zero t = odd_clear (prec f) s t 0 (low f)
fields_clear f s (suc x) t = go (eqb (suc x) (ones f)) (eqb t 0)
  where
    go : (a b : Bool) → cond a (cond b (inf false) nan) (odd (prec f) false (hid f + t) x (low f))
        ≡ magnitude (cond a (cond b (inf s) nan) (odd (prec f) s (hid f + t) x (low f)))
    go true true = refl
    go true false = refl
    go false b = odd_clear (prec f) s (hid f + t) x (low f)

pub clears : (f : Format) (b : ℕ) → of_bits f (b % top f) ≡ magnitude (of_bits f b)
clears f b =
    let l : b % top f < top f = mod-lt b (mul-pos (pow_pos (prec f - 1)) (zero-lt-suc (ones f))) in
    of_bits_is f (b % top f)
    ∙ ap (λ (s : Bool). of_fields f s (b % top f % top f / hid f) (b % top f % hid f)) (lt-leb (top f) (b % top f) l)
    ∙ ap (λ (x : ℕ). of_fields f false (x / hid f) (b % top f % hid f)) (mod-eq_of_lt l)
    ∙ ap (λ (t : ℕ). of_fields f false (b % top f / hid f) t) (mod-mod_of_dvd (hid f) b (dvd-mul_right (hid f) (suc (ones f))))
    ∙ fields_clear f (leb (top f) b) (b % top f / hid f) (b % hid f)
    ∙ ap magnitude (sym (of_bits_is f b))

-- ---- what the fields are read as: in units of the format's smallest value, the digits t, or with the leading one before them

pub at_zero : (f : Format) (s : Bool) (t : ℕ) → HasValue (of_fields f s 0 t) s (t * 2 ^ 0) (2 ^ low f)
unfolding of_fields
at_zero f s t = odd_sign (prec f) s t 0 (low f)

under_ones : (f : Format) (s : Bool) (x t : ℕ) → suc x < ones f → HasValue (of_fields f s (suc x) t) s ((hid f + t) * 2 ^ x) (2 ^ low f)
unfolding of_fields
under_ones f s x t h =
    subst (λ (b : Bool). HasValue (cond b (cond (eqb t 0) (inf s) nan) (odd (prec f) s (hid f + t) x (low f))) s ((hid f + t) * 2 ^ x) (2 ^ low f))
    (sym (ne_eqb (suc x) (ones f) (ne_of_lt h)))
    (odd_sign (prec f) s (hid f + t) x (low f))

pub normal : (f : Format) (s : Bool) (x k t : ℕ) → x ≡ suc k → x < ones f → HasValue (of_fields f s x t) s ((hid f + t) * 2 ^ k) (2 ^ low f)
normal f s x k t e h =
    subst (λ (z : ℕ). HasValue (of_fields f s z t) s ((hid f + t) * 2 ^ k) (2 ^ low f)) (sym e)
    (under_ones f s k t (subst (λ (z : ℕ). z < ones f) e h))

pub infinite : (f : Format) (s : Bool) (x t : ℕ) → x ≡ ones f → t ≡ 0 → of_fields f s x t ≡ inf s
unfolding of_fields
infinite f s zero t e z = absurd (go (2 * emax f) e)
  where
    go : (a : ℕ) → 0 ≡ a + 1 → ⊥
    go a h = omega arith
infinite f s (suc x) t e z =
    ap (λ (b : Bool). cond b (cond (eqb t 0) (inf s) nan) (odd (prec f) s (hid f + t) x (low f))) (eq-eqb (suc x) (ones f) e)
    ∙ ap (λ (b : Bool). cond b (inf s) nan) (eq-eqb t 0 z)

pub no_number : (f : Format) (s : Bool) (x t : ℕ) → x ≡ ones f → (t ≡ 0 → ⊥) → of_fields f s x t ≡ nan
unfolding of_fields
no_number f s zero t e z = absurd (go (2 * emax f) e)
  where
    go : (a : ℕ) → 0 ≡ a + 1 → ⊥
    go a h = omega arith
no_number f s (suc x) t e z =
    ap (λ (b : Bool). cond b (cond (eqb t 0) (inf s) nan) (odd (prec f) s (hid f + t) x (low f))) (eq-eqb (suc x) (ones f) e)
    ∙ ap (λ (b : Bool). cond b (inf s) nan) (ne_eqb t 0 z)

-- the limits of class 1, by their bits
pub ruleset limits = (least_bits, most_bits)
