-- A field is the value of the entry that is found, and its reading that value's. Assumes nothing.
use Prim.Native.Nat.{ℕ}
use mathlib.Core.Path.{◌≡◌, refl, sym, ap, ◌∙◌, subst}
use mathlib.Core.Option.{Option, none, some}
use mathlib.Core.List.{List}
use Rattle.format.specs.Values.{Value, value_at, slots_of, find, field, map_option, bind, as_level}
use Rattle.format.specs.declared.Entry.{Entry}
use Rattle.lookup.specs.Values.{meaning, field_meaning, Inside, FieldInside}
use Rattle.lookup.specs.declared.ClxValue.{ClxValue}
use Rattle.std.specs.Prelude as std

-- ---- the field of an entry that is found

module _ (s : List ℕ) (es : List Entry) (p : ℕ) (n : List ℕ) where
  pub field_none : none ≡ find n (slots_of s es p) → none ≡ field s es p n
  unfolding field map_option
  field_none h = ap (map_option (value_at s es)) h

  pub field_some : (i : ℕ) (v : Value) → some i ≡ find n (slots_of s es p) → v ≡ value_at s es i → some v ≡ field s es p n
  unfolding field map_option
  field_some i v h k = ap some k ∙ ap (map_option (value_at s es)) h

  pub level_none : none ≡ find n (slots_of s es p) → none ≡ as_level (field s es p n)
  unfolding as_level
  level_none h = ap as_level (field_none h)

  pub level_some : (i : ℕ) (o : Option ℕ) → some i ≡ find n (slots_of s es p) → o ≡ as_level (some (value_at s es i)) → o ≡ as_level (field s es p n)
  level_some i o h k = k ∙ ap as_level (field_some i (value_at s es i) h refl)

-- ---- the reading of a field, where a match took it apart

module _ (s : List ℕ) (es : List Entry) {A : Type 0} (f : Value → Option A) (r : std.Option ClxValue) (x : Option Value) where
  pub read_is : (v : ClxValue) (o : Option A) → r ≡ std.Some v → field_meaning s es r ≡ x → o ≡ f (meaning s es v) → o ≡ bind x f
  unfolding field_meaning bind
  read_is v o h k q = q ∙ ap (λ (y : Option Value). bind y f) (sym (ap (field_meaning s es) h) ∙ k)

  pub read_absent : r ≡ std.None → field_meaning s es r ≡ x → none ≡ bind x f
  unfolding field_meaning bind
  read_absent h k = ap (λ (y : Option Value). bind y f) (sym (ap (field_meaning s es) h) ∙ k)

pub inside_is : (n : ℕ) (r : std.Option ClxValue) (v : ClxValue) → r ≡ std.Some v → FieldInside n r → Inside n v
inside_is n r v h k = subst (FieldInside n) h k
