-- The record of a plane, by its description and its colour. Assumes nothing.
use Prim.Native.Nat.{ℕ, zero, suc}
use mathlib.Core.Path.{◌≡◌, refl, ◌∙◌}
use mathlib.Core.Bool.{Bool, true, false, cond}
use mathlib.Core.Option.{Option, none, some}
use mathlib.Core.List.{List}
use native.Mathlib.Omega.{arith}
use borrow.Author.Tests.{ne_eqb}
use lib.Dec.{eqb}
use Rattle.std.specs.Prelude as std
use Rattle.std.specs.Prelude.{max, unwrap_or}
use Rattle.format.specs.Bytes.{ascii}
use Rattle.format.specs.Values.{Value, flag, whole, double, text, bytes, level, list, field_in, bind}
use Rattle.format.specs.Numbers.{unsigned, below32}
use Rattle.format.specs.Channels.{with_text, with_color, channel_of, covers_of}
use Rattle.format.specs.declared.Entry.{Entry}
use Rattle.format.specs.declared.Channel.{Channel}
use Rattle.number.specs.Readings.{natural}

-- ---- the colour beside it

-- the name is the same with a colour and without
with_name : (o : Option Value) (k : Option ℕ) → let c = with_text o (with_color none) in with_color k c.named c.name c.units ≡ with_text o (with_color k)
unfolding with_text with_color
with_name none k = refl
with_name (some (flag b)) k = refl
with_name (some (whole z)) k = refl
with_name (some (double b)) k = refl
with_name (some (text i n)) k = go (eqb n 0)
  where
    go : (b : Bool) → let c = cond b (with_color none 0 0 0) (with_color none 1 i n) in
        with_color k c.named c.name c.units ≡ cond b (with_color k 0 0 0) (with_color k 1 i n)
    go true = refl
    go false = refl
with_name (some (bytes i n)) k = refl
with_name (some (level i)) k = refl
with_name (some (list l)) k = refl

as_name : (o : Option Value) (k : Option ℕ) (c : Channel) → c ≡ with_text o (with_color none)
    → with_color k c.named c.name c.units ≡ with_text o (with_color k)
as_name o k c e = rw e (with_name o k)

pub channel_is : (s : List ℕ) (es : List Entry) (i : ℕ) {c r : Channel} {f : Option Value} {k : Option ℕ}
    → c ≡ with_text f (with_color none) → f ≡ field_in s es i (ascii "sDescription") → k ≡ bind (field_in s es i (ascii "uiColor")) unsigned
    → r ≡ with_color (below32 k) c.named c.name c.units → r ≡ channel_of s es i
unfolding channel_of ascii
channel_is s es i {f = f} {k = k} p g h e = rw (← g, ← h) (e ∙ as_name f (below32 k) _ p)

-- ---- the components that it covers

pub covers_is : (n : std.Option ℕ) → max (unwrap_or n 0) 1 ≡ covers_of (natural n)
unfolding covers_of
covers_is std.None = refl
covers_is (std.Some zero) = refl
covers_is (std.Some (suc n)) = let e : max (suc n) 1 ≡ suc n = omega arith in rw (e, ne_eqb (suc n) 0 λ z. omega arith)
