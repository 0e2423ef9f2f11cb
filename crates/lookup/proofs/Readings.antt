-- The readings of values, by their kind. Assumes nothing.
use Prim.Native.Nat.{ℕ, ◌^◌, ◌<◌}
use mathlib.Core.Path.{◌≡◌, refl, ap, ◌∙◌, subst}
use mathlib.Core.Bool.{Bool, true, false}
use mathlib.Core.Option.{Option, none, some}
use mathlib.Core.List.{List, [], ◌∷◌}
use lib.Ieee.{Float, binary64, of_int}
use lib.IntN.{ℤ, pos, negsuc}
use borrow.Author.Tests.{lt-ltb}
use denote.Enum.Declared.{tag_of}
use types.Run.{OneOf, miss}
use Rattle.format.specs.Numbers.{one_if, unsigned, signed, float}
use Rattle.format.specs.Values.{whole, double, as_level, bind}
use Rattle.format.specs.declared.Entry.{Entry}
use Rattle.lookup.specs.Values.{meaning, Inside}
use Rattle.lookup.specs.declared.ClxValue.{ClxValue}
use Rattle.lookup.specs.declared.ClxValue.TheVariants as clx
use Rattle.lookup.specs.contracts.ClxValue.{the_type}

module _ (s : List ℕ) (es : List Entry) where
  -- ---- a level

  pub level_is : (v : ClxValue) (i : ℕ) → v ≡ clx.Level i → some i ≡ as_level (some (meaning s es v))
  unfolding meaning as_level
  level_is v i h = rw h refl

  -- ---- an unsigned number

  pub unsigned_flag : (v : ClxValue) (b : Bool) (n : ℕ) → v ≡ clx.Flag b → n ≡ one_if b → some n ≡ unsigned (meaning s es v)
  unfolding meaning unsigned bind
  unsigned_flag v true n h k = rw h (ap some k)
  unsigned_flag v false n h k = rw h (ap some k)

  pub unsigned_whole : (v : ClxValue) (n : ℕ) → n < 2 ^ 64 → v ≡ clx.Whole n → some n ≡ unsigned (meaning s es v)
  unfolding meaning unsigned bind
  unsigned_whole v n l h = rw (h, lt-ltb n (2 ^ 64) l) refl

  pub unsigned_double : (v : ClxValue) (x : Float) (o : Option ℕ) → v ≡ clx.Double x → o ≡ unsigned (double x) → o ≡ unsigned (meaning s es v)
  unfolding meaning
  unsigned_double v x o h k = rw h k

  pub unsigned_other : (v : ClxValue) → OneOf (2 ∷ 4 ∷ 5 ∷ 6 ∷ 7 ∷ []) (tag_of the_type v) → none ≡ unsigned (meaning s es v)
  unfolding meaning unsigned bind
  unsigned_other (clx.Flag b) h = absurd (miss (2 ∷ 4 ∷ 5 ∷ 6 ∷ 7 ∷ []) 0 tt h)
  unsigned_other (clx.Whole n) h = absurd (miss (2 ∷ 4 ∷ 5 ∷ 6 ∷ 7 ∷ []) 1 tt h)
  unsigned_other (clx.Below n) h = refl
  unsigned_other (clx.Double x) h = absurd (miss (2 ∷ 4 ∷ 5 ∷ 6 ∷ 7 ∷ []) 3 tt h)
  unsigned_other (clx.Text a n) h = refl
  unsigned_other (clx.Bytes a n) h = refl
  unsigned_other (clx.Level i) h = refl
  unsigned_other (clx.List i) h = refl

  -- ---- a signed one

  pub signed_flag : (v : ClxValue) (b : Bool) (n : ℤ) → v ≡ clx.Flag b → n ≡ pos (one_if b) → some n ≡ signed (meaning s es v)
  unfolding meaning signed bind
  signed_flag v true n h k = rw h (ap some k)
  signed_flag v false n h k = rw h (ap some k)

  pub signed_whole : (v : ClxValue) (n : ℕ) (o : Option ℤ) → v ≡ clx.Whole n → o ≡ signed (whole (pos n)) → o ≡ signed (meaning s es v)
  unfolding meaning
  signed_whole v n o h k = rw h k

  pub signed_below : (v : ClxValue) (n : ℕ) (o : Option ℤ) → v ≡ clx.Below n → o ≡ signed (whole (negsuc n)) → o ≡ signed (meaning s es v)
  unfolding meaning
  signed_below v n o h k = rw h k

  pub signed_double : (v : ClxValue) (x : Float) (o : Option ℤ) → v ≡ clx.Double x → o ≡ signed (double x) → o ≡ signed (meaning s es v)
  unfolding meaning
  signed_double v x o h k = rw h k

  pub signed_other : (v : ClxValue) → OneOf (4 ∷ 5 ∷ 6 ∷ 7 ∷ []) (tag_of the_type v) → none ≡ signed (meaning s es v)
  unfolding meaning signed bind
  signed_other (clx.Flag b) h = absurd (miss (4 ∷ 5 ∷ 6 ∷ 7 ∷ []) 0 tt h)
  signed_other (clx.Whole n) h = absurd (miss (4 ∷ 5 ∷ 6 ∷ 7 ∷ []) 1 tt h)
  signed_other (clx.Below n) h = absurd (miss (4 ∷ 5 ∷ 6 ∷ 7 ∷ []) 2 tt h)
  signed_other (clx.Double x) h = absurd (miss (4 ∷ 5 ∷ 6 ∷ 7 ∷ []) 3 tt h)
  signed_other (clx.Text a n) h = refl
  signed_other (clx.Bytes a n) h = refl
  signed_other (clx.Level i) h = refl
  signed_other (clx.List i) h = refl

  -- ---- a double

  pub float_flag : (v : ClxValue) (b : Bool) (n : ℕ) (x : Float) → v ≡ clx.Flag b → n ≡ one_if b → x ≡ of_int binary64 (pos n) → some x ≡ float (meaning s es v)
  unfolding meaning float
  float_flag v b n x h k l = rw h (ap some l ∙ ap (λ (m : ℕ). some (of_int binary64 (pos m))) k)

  pub float_whole : (v : ClxValue) (n : ℕ) (x : Float) → v ≡ clx.Whole n → x ≡ of_int binary64 (pos n) → some x ≡ float (meaning s es v)
  unfolding meaning float
  float_whole v n x h k = rw h (ap some k)

  pub float_below : (v : ClxValue) (n : ℕ) (x : Float) → v ≡ clx.Below n → x ≡ of_int binary64 (negsuc n) → some x ≡ float (meaning s es v)
  unfolding meaning float
  float_below v n x h k = rw h (ap some k)

  pub float_double : (v : ClxValue) (x : Float) → v ≡ clx.Double x → some x ≡ float (meaning s es v)
  unfolding meaning float
  float_double v x h = rw h refl

  pub float_other : (v : ClxValue) → OneOf (4 ∷ 5 ∷ 6 ∷ 7 ∷ []) (tag_of the_type v) → none ≡ float (meaning s es v)
  unfolding meaning float
  float_other (clx.Flag b) h = absurd (miss (4 ∷ 5 ∷ 6 ∷ 7 ∷ []) 0 tt h)
  float_other (clx.Whole n) h = absurd (miss (4 ∷ 5 ∷ 6 ∷ 7 ∷ []) 1 tt h)
  float_other (clx.Below n) h = absurd (miss (4 ∷ 5 ∷ 6 ∷ 7 ∷ []) 2 tt h)
  float_other (clx.Double x) h = absurd (miss (4 ∷ 5 ∷ 6 ∷ 7 ∷ []) 3 tt h)
  float_other (clx.Text a n) h = refl
  float_other (clx.Bytes a n) h = refl
  float_other (clx.Level i) h = refl
  float_other (clx.List i) h = refl

-- the entry of a level or a list is inside
pub inside_level : (n : ℕ) (v : ClxValue) (i : ℕ) → v ≡ clx.Level i → Inside n v → i < n
inside_level n v i h k = subst (Inside n) h k

pub inside_list : (n : ℕ) (v : ClxValue) (i : ℕ) → v ≡ clx.List i → Inside n v → i < n
inside_list n v i h k = subst (Inside n) h k
