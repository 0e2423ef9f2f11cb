-- The fields of a sheet as TIFF has them.
use Rattle.format.specs.Sheets.{FieldType, SHORT, LONG, RATIONAL, TiffField}
use Rattle.sheet.specs.declared.head.Field.{Field}
use Rattle.sheet.specs.declared.head.Kind.{Kind}
use Rattle.sheet.specs.declared.head.Kind.TheVariants.{Short, Long, Rational}

abbrev pub type_of : Kind → FieldType
type_of Short = SHORT
type_of Long = LONG
type_of Rational = RATIONAL

-- a field with one value
abbrev pub field_of : Field → TiffField
field_of f = record { tag = f.0; type = type_of f.1; count = 1; value = f.2 }
