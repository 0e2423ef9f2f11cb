-- Document 01, Attributes, and change request 4: how a value is read as a number. Doubles go by the logic's account of IEEE 754, lib.Ieee.
use Rattle.std.specs.Prelude.{ℕ, ◌^◌, ◌*◌, ◌/◌, ◌%◌, Bool, true, false, cond, ltb, eqb, ℤ, pos, negsuc, neg_ℤ}
use Rattle.std.proofs.Math.Option.{Option, none, some}
use lib.Ieee.{Float, nan, inf, fin, binary32, binary64, of_int, round, lt, up, down}
use Rattle.format.specs.Values.{Value, flag, whole, double, text, bytes, level, list, map_option, bind}

abbrev pub zero_float : Float
zero_float = fin false 0 (pos 0)

abbrev pub one_float : Float
one_float = fin false 1 (pos 0)

-- the number of a flag
abbrev pub one_if : Bool → ℕ
one_if true = 1
one_if false = 0

-- ---- whole numbers

-- the whole number of this size, below 0 where the sign is a minus: the size 0 has no sign
abbrev pub with_sign : Bool → ℕ → ℤ
with_sign minus n = cond minus (neg_ℤ (pos n)) (pos n)

-- the size m × 2^e of a double, where it is whole: as a fraction of two whole numbers it divides and leaves nothing over
unfoldable pub whole_size : ℕ → ℤ → Option ℕ
whole_size m e = cond (eqb (m * up e % down e) 0) (some (m * up e / down e)) none

-- the whole number that a double is: a fraction, a NaN or an infinity is none (change request 4), and −0 is 0
unfoldable pub whole_double : Float → Option ℤ
unfolding whole_size
whole_double nan = none
whole_double (inf s) = none
whole_double (fin s m e) = map_option (with_sign s) (whole_size m e)

-- the whole number that a value is
unfoldable pub whole_number : Value → Option ℤ
unfolding whole_double
whole_number (flag b) = some (pos (one_if b))
whole_number (whole z) = some z
whole_number (double x) = whole_double x
whole_number (text i n) = none
whole_number (bytes i n) = none
whole_number (level i) = none
whole_number (list l) = none

-- where u64 holds it
unfoldable pub in_u64 : ℤ → Option ℕ
in_u64 (pos n) = cond (ltb n (2 ^ 64)) (some n) none
in_u64 (negsuc n) = none

-- where i64 holds it: negsuc n is −(n + 1)
unfoldable pub in_i64 : ℤ → Option ℤ
in_i64 (pos n) = cond (ltb n (2 ^ 63)) (some (pos n)) none
in_i64 (negsuc n) = cond (ltb n (2 ^ 63)) (some (negsuc n)) none

-- a value read unsigned
unfoldable pub unsigned : Value → Option ℕ
unfolding whole_number in_u64
unsigned v = bind (whole_number v) in_u64

-- a value read signed, as eCompression and eType are
unfoldable pub signed : Value → Option ℤ
unfolding whole_number in_i64
signed v = bind (whole_number v) in_i64

-- a number read below 2^32: absent from there on
unfoldable pub below32 : Option ℕ → Option ℕ
below32 none = none
below32 (some n) = cond (ltb n (2 ^ 32)) (some n) none

-- ---- doubles

-- a value read as a double: of a whole number the f64 nearest to it, ties to even
unfoldable pub float : Value → Option Float
float (flag b) = some (of_int binary64 (pos (one_if b)))
float (whole z) = some (of_int binary64 z)
float (double x) = some x
float (text i n) = none
float (bytes i n) = none
float (level i) = none
float (list l) = none

-- the f32 nearest to a double, ties to even
unfoldable pub narrow : Float → Float
narrow nan = nan
narrow (inf s) = inf s
narrow (fin s m e) = round binary32 s (m * up e) (down e)

-- a double without a minus sign
unfoldable pub magnitude : Float → Float
magnitude nan = nan
magnitude (inf s) = inf false
magnitude (fin s m e) = fin false m e

-- whether a double is above 0, which a NaN is not
unfoldable pub positive : Float → Bool
positive x = lt zero_float x

unfoldable pub finite : Float → Bool
finite nan = false
finite (inf s) = false
finite (fin s m e) = true
