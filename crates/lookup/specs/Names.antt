-- The name that is looked for.
use Rattle.std.specs.Prelude.{ℕ, ◌+◌, ◌*◌, ◌≤◌, List, length}
use Rattle.format.specs.Values.{name_of}
use Rattle.lookup.specs.declared.Name.{Name}
use Rattle.lookup.specs.declared.Name.TheVariants as name

-- its code units, in a file
abbrev pub name_in : List ℕ → Name → List ℕ
name_in s (name.Ascii b) = b.now
name_in s (name.Of e) = name_of s e

-- they lie in the file
abbrev pub Spelled : List ℕ → Name → Type 0
Spelled s (name.Ascii b) = Unit
Spelled s (name.Of e) = e.name + 2 * e.units ≤ length s
