-- What the computing definitions of values and the rules of the grammar have to do with each other, for the entries of one tree.
use Prim.Native.Nat.{ℕ}
use mathlib.Core.Path.{◌≡◌}
use mathlib.Core.Option.{some}
use mathlib.Core.List.{List, ◌∷◌}
use lib.ListN.{get_elem?}
use Rattle.format.specs.Values.{Value, list, value_at, field}
use Rattle.format.specs.Loops.{child_levels, size_of}
use Rattle.format.specs.Grammar.Lists.{All}
use Rattle.format.specs.Grammar.Values.{ValueOf, Field, LevelsIn, SizeOf}
use Rattle.format.specs.declared.Entry.{Entry}

pub record Means (s : List ℕ) (es : List Entry) : Type 0 where
  -- the value of an entry
  pub value_of : (i : ℕ) (e : Entry) → get_elem? es i ≡ some e → ValueOf s es i (value_at s es i)
  pub of_value : (i : ℕ) (v : Value) → ValueOf s es i v → value_at s es i ≡ v
  -- the value of a name, which is not empty
  pub field_of : (p u : ℕ) (name : List ℕ) (v : Value) → field s es p (u ∷ name) ≡ some v → Field s es p (u ∷ name) v
  pub of_field : (p u : ℕ) (name : List ℕ) (v : Value) → Field s es p (u ∷ name) v → field s es p (u ∷ name) ≡ some v
  -- each element of a list has its value
  pub elements_of_is : (i : ℕ) (l : List ℕ) → ValueOf s es i (list l) → All (λ j. ValueOf s es j (value_at s es j)) l
  -- the elements or entries that are levels, and how many elements or entries there are
  pub levels_of_is : (i : ℕ) (v : Value) → ValueOf s es i v → LevelsIn s es v (child_levels s es (some v))
  pub of_levels : (v : Value) (is : List ℕ) → LevelsIn s es v is → child_levels s es (some v) ≡ is
  pub size_of_is : (i : ℕ) (v : Value) → ValueOf s es i v → SizeOf s es v (size_of s es (some v))
  pub of_size : (v : Value) (n : ℕ) → SizeOf s es v n → size_of s es (some v) ≡ n
