-- `put_field`: four parts, one after another.
use Prim.Native.Nat.{◌+◌}
use mathlib.Core.Path.{◌≡◌, refl}
use denote.Enum.Declared.{tag_of}
use Rattle.format.specs.Sheets.{type_number}
use Rattle.sheet.specs.contracts.head.Kind.{the_type}
use Rattle.sheet.specs.declared.head.Kind.{Kind}
use Rattle.sheet.specs.declared.head.Kind.TheVariants.{Short, Long, Rational}
use Rattle.sheet.specs.Fields.{type_of, field_of}
use Rattle.sheet.proofs.Heads.{field_stored}
use Rattle.sheet.proofs.head.put_field.Goals as goal

number_of : (k : Kind) → tag_of the_type k + 3 ≡ type_number (type_of k)
unfolding type_number
number_of Short = refl
number_of Long = refl
number_of Rational = refl

pub returns : goal.returns
returns c =
    rw (c.put_value.ensures, c.put-3.ensures, c.put-2.ensures, c.put.ensures, number_of c.args.f.1) (field_stored _ _ (field_of c.args.f))
