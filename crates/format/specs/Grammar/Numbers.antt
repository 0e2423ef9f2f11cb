-- Document 01, The grammar: the numbers that a tree states, as rules. i is the number of a level's entry. A double is a whole number where its value is one
-- (change request 4); negsuc n is −(n + 1).
use Rattle.std.specs.Prelude.{ℕ, suc, ◌+◌, ◌*◌, ◌^◌, ◌≤◌, ◌<◌, ◌≡◌, Bool, true, false, List, ℤ, pos, negsuc, Float}
use Rattle.std.proofs.Math.Option.{some}
use Rattle.std.specs.Float.{nan, inf}
use Rattle.std.specs.Float.Ieee.Exact.{HasValue}
use Rattle.format.specs.Values.{Value, flag, whole, double}
use Rattle.format.specs.Numbers.{float}
use Rattle.format.specs.Grammar.Values.{Field}
use Rattle.format.specs.declared.Entry.{Entry}

-- ---- whole numbers

-- the value of the double x is the whole number: its sign, and its size over 1. Zero is 0 with either sign
pub data Equals (x : Float) : ℤ → Type 0 where
  plus : {n : ℕ} → HasValue x false n 1 → Equals x (pos n)
  minus_zero : HasValue x true 0 1 → Equals x (pos 0)
  minus : {n : ℕ} → HasValue x true (suc n) 1 → Equals x (negsuc n)

-- the value v is the whole number: a flag that is not set 0, one that is 1
pub data Number : Value → ℤ → Type 0 where
  unset : Number (flag false) (pos 0)
  set : Number (flag true) (pos 1)
  stored : {z : ℤ} → Number (whole z) z
  of_double : {x : Float} {z : ℤ} → Equals x z → Number (double x) z

-- read unsigned it is n, a u64
pub record ReadsUnsigned (v : Value) (n : ℕ) : Type 0 where
  pub number : Number v (pos n)
  pub below_u64 : n < 2 ^ 64

-- read signed it is this, an i64
pub data ReadsSigned (v : Value) : ℤ → Type 0 where
  not_below_0 : {n : ℕ} → Number v (pos n) → n < 2 ^ 63 → ReadsSigned v (pos n)
  below_0 : {n : ℕ} → Number v (negsuc n) → n < 2 ^ 63 → ReadsSigned v (negsuc n)

-- ---- doubles that count as absent

-- the size of x is `size` over `unit`, and its sign is a minus where `sign` is true
pub record Measures (x : Float) (sign : Bool) (size unit : ℕ) : Type 0 where
  pub unit_some : 0 < unit
  pub value : HasValue x sign size unit

-- x has a fraction: its size lies between a whole number and the next
pub record Fraction (x : Float) : Type 0 where
  pub sign : Bool
  pub size : ℕ
  pub unit : ℕ
  pub measured : Measures x sign size unit
  pub whole_part : ℕ
  pub above : whole_part * unit < size
  pub below : size < (whole_part + 1) * unit

-- x is no whole number from −low on and below the limit
pub data NotWhole (low limit : ℕ) : Float → Type 0 where
  not_a_number : NotWhole low limit nan
  infinite : {sign : Bool} → NotWhole low limit (inf sign)
  fraction : {x : Float} → Fraction x → NotWhole low limit x
  too_small : {x : Float} {size unit : ℕ} → Measures x true size unit → low * unit < size → NotWhole low limit x
  too_large : {x : Float} {size unit : ℕ} → Measures x false size unit → limit * unit ≤ size → NotWhole low limit x

-- from 0 on: the limit is 2^64 for a u64, 2^32 for a u32
abbrev pub NotUnsigned : ℕ → Float → Type 0
NotUnsigned limit = NotWhole 0 limit

-- an i64 has the numbers from −2^63 on and below 2^63
abbrev pub NotSigned : Float → Type 0
NotSigned = NotWhole (2 ^ 63) (2 ^ 63)

-- ---- fields

module _ (s : List ℕ) (es : List Entry) where
  -- the field `name` of the level i has the unsigned reading n
  pub record Unsigned (i : ℕ) (name : List ℕ) (n : ℕ) : Type 0 where
    pub value : Value
    pub stated : Field s es (suc i) name value
    pub reads : ReadsUnsigned value n

  -- its signed reading is n
  pub record Signed (i : ℕ) (name : List ℕ) (n : ℤ) : Type 0 where
    pub value : Value
    pub stated : Field s es (suc i) name value
    pub reads : ReadsSigned value n

  -- it is x as a double
  pub record Double (i : ℕ) (name : List ℕ) (x : Float) : Type 0 where
    pub value : Value
    pub stated : Field s es (suc i) name value
    pub reads : float value ≡ some x
