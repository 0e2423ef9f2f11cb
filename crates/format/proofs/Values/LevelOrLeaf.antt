-- A value that is a level, and the value of an entry that is none. Assumes nothing.
use Prim.Native.Nat.{ℕ}
use mathlib.Core.Path.{◌≡◌, refl}
use mathlib.Core.Bool.{Bool, true, false, cond}
use mathlib.Core.Option.{Option, none, some}
use mathlib.Core.List.{List}
use lib.Dec.{eqb}
use lib.Ieee.{Float}
use lib.IntN.{ℤ}
use Rattle.format.proofs.Ground.Answers.{none≢some}
use Rattle.format.specs.Values.{Value, flag, whole, double, text, bytes, level, list, leaf, as_level}
use Rattle.format.specs.declared.Entry.{Entry}

pub as_level_is : (o : Option Value) (i : ℕ) → as_level o ≡ some i → o ≡ some (level i)
unfolding as_level
as_level_is none i e = absurd (none≢some e)
as_level_is (some (flag b)) i e = absurd (none≢some e)
as_level_is (some (whole z)) i e = absurd (none≢some e)
as_level_is (some (double b)) i e = absurd (none≢some e)
as_level_is (some (text a n)) i e = absurd (none≢some e)
as_level_is (some (bytes a n)) i e = absurd (none≢some e)
as_level_is (some (level j)) i e = cc
as_level_is (some (list l)) i e = absurd (none≢some e)

pub level_as : (o : Option Value) (i : ℕ) → o ≡ some (level i) → as_level o ≡ some i
unfolding as_level
level_as o i e = rw e refl

-- of an entry that is no level: what holds of each kind of value but levels and lists
pub leaf_by : (P : Value → Type 0) → ((b : Bool) → P (flag b)) → ((z : ℤ) → P (whole z)) → ((x : Float) → P (double x)) → ((a n : ℕ) → P (text a n))
    → ((a n : ℕ) → P (bytes a n)) → (s : List ℕ) (e : Entry) → P (leaf s e)
unfolding leaf
leaf_by P f w d t b s e =
    either (eqb e.kind 1) (f _)
    (either (eqb e.kind 2) (w _)
    (either (eqb e.kind 3) (w _)
    (either (eqb e.kind 4) (w _)
    (either (eqb e.kind 6) (d _)
    (either (eqb e.kind 8) (t _ _)
    (either (eqb e.kind 9) (b _ _)
    (w _)))))))
  where
    either : (c : Bool) {x y : Value} → P x → P y → P (cond c x y)
    either true p q = p
    either false p q = q
