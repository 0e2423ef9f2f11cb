-- `put_value`: two bytes and two of zero, or four.
use mathlib.Core.Logic.{inl, inr}
use mathlib.Core.Path.{refl}
use Rattle.format.specs.Sheets.{value_bytes}
use Rattle.sheet.proofs.Heads.{short_stored}
use Rattle.sheet.proofs.head.put_value.Goals as goal

pub returns-in-Short : goal.returns-in-Short
returns-in-Short c = rw (c.put-in-Short.ensures, c.put.ensures, c.in-Short.is) (short_stored _ _ _)

pub returns-in-Long : goal.returns-in-Long
unfolding value_bytes
returns-in-Long c =
    elim c.in-Long.is [
      | inl e ↦ rw (c.put-in-Long.ensures, e) refl
      | inr e ↦ rw (c.put-in-Long.ensures, e) refl
    ]
