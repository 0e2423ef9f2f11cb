-- Whether loops have an axis, as a search over them. Assumes nothing.
use mathlib.Core.Path.{◌≡◌, refl}
use mathlib.Core.List.{List, [], ◌∷◌}
use denote.Enum.Bare.{sameb}
use Rattle.std.specs.List.{list_any}
use Rattle.format.specs.Loops.{same_axis, has_axis}
use Rattle.format.specs.contracts.Axis.{the_type}
use Rattle.format.specs.declared.Axis.{Axis}
use Rattle.format.specs.declared.Axis.TheVariants.{T, Z, P}
use Rattle.format.specs.declared.Loop.{Loop}

-- the derived == of two axes
pub same_is : (a b : Axis) → sameb the_type a b ≡ same_axis a b
same_is T T = refl
same_is T Z = refl
same_is T P = refl
same_is Z T = refl
same_is Z Z = refl
same_is Z P = refl
same_is P T = refl
same_is P Z = refl
same_is P P = refl

pub has_is : (a : Axis) (ls : List Loop) → has_axis a ls ≡ list_any (λ l. same_axis l.axis a) ls
unfolding has_axis
has_is a [] = refl
has_is a (l ∷ ls) = rw (has_is a ls) refl
