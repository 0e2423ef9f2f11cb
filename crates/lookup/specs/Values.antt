-- What the answers of the lookups stand for, in document 01's terms.
use Rattle.std.specs.Prelude.{ℕ, suc, ◌+◌, ◌<◌, ◌≡◌, Bool, true, false, ◌&&◌, List, [], ◌∷◌, eqb, pos, negsuc}
use Rattle.std.specs.Prelude as std
use Rattle.std.proofs.Math.Option.{Option, none, some}
use Rattle.std.proofs.Math.ListN.{get_elem?}
use Rattle.format.specs.Trees.{most_depth}
use Rattle.format.specs.Values.{Value, flag, whole, double, text, bytes, level, list, Slot, named, unnamed, slots_of, elements, value_from}
use Rattle.format.specs.declared.Entry.{Entry}
use Rattle.lookup.specs.Table.{firsts, between, found}
use Rattle.lookup.specs.declared.ClxValue.{ClxValue}
use Rattle.lookup.specs.declared.ClxValue.TheVariants as clx

-- ---- lists

-- whether a level's only slot is the unnamed one
unfoldable pub only_unnamed : List Slot → Bool
only_unnamed [] = false
only_unnamed (named n i ∷ r) = false
only_unnamed (unnamed is ∷ []) = true
only_unnamed (unnamed is ∷ x ∷ r) = false

-- a level's unnamed entries
unfoldable pub unnamed_in : List Slot → List ℕ
unnamed_in [] = []
unnamed_in (named n i ∷ r) = unnamed_in r
unnamed_in (unnamed is ∷ r) = is

-- the elements of the list that the unnamed entries of p are, with `levels` depths left
unfoldable pub elements_from : ℕ → List ℕ → List Entry → ℕ → List ℕ
unfolding unnamed_in
elements_from levels s es p = elements (λ j. value_from levels s es j (get_elem? es j)) (unnamed_in (slots_of s es p))

-- the elements of the list that the level p is
abbrev pub elements_of : List ℕ → List Entry → ℕ → List ℕ
elements_of s es p = elements_from most_depth s es p

-- i is an element of the list that the level p is
pub record Element (es : List Entry) (p i : ℕ) : Type 0 where
  pub file : List ℕ
  pub number : ℕ
  pub is : get_elem? (elements_of file es p) number ≡ some i

-- the next element, if there is one, was found
abbrev pub Follows : List Entry → ℕ → ℕ → std.Option ℕ → Type 0
Follows es p i r = (s : List ℕ) (k : ℕ) → get_elem? (elements_of s es p) k ≡ some i → found r ≡ get_elem? (elements_of s es p) (k + 1)

-- whether entry j of n is a list
abbrev pub list_at : List ℕ → (ℕ → Entry) → ℕ → ℕ → Bool
list_at s e n j = eqb (e j).kind 11 && only_unnamed (slots_of s (firsts n e) (suc j))

-- ---- values

-- The value that an answer stands for: `Below n` is -1 - n, and `List i` is the list that the entry i is.
unfoldable pub meaning : List ℕ → List Entry → ClxValue → Value
unfolding elements_from
meaning s es (clx.Flag b) = flag b
meaning s es (clx.Whole n) = whole (pos n)
meaning s es (clx.Below n) = whole (negsuc n)
meaning s es (clx.Double x) = double x
meaning s es (clx.Text a n) = text a n
meaning s es (clx.Bytes a n) = bytes a n
meaning s es (clx.Level i) = level i
meaning s es (clx.List i) = list (elements_of s es (suc i))

-- the entry of a level or a list is one of n
abbrev pub Inside : ℕ → ClxValue → Type 0
Inside n (clx.Flag b) = Unit
Inside n (clx.Whole x) = Unit
Inside n (clx.Below x) = Unit
Inside n (clx.Double x) = Unit
Inside n (clx.Text a k) = Unit
Inside n (clx.Bytes a k) = Unit
Inside n (clx.Level i) = i < n
Inside n (clx.List i) = i < n

-- a field's value, or none
unfoldable pub field_meaning : List ℕ → List Entry → std.Option ClxValue → Option Value
unfolding meaning
field_meaning s es (std.Some v) = some (meaning s es v)
field_meaning s es std.None = none

abbrev pub FieldInside : ℕ → std.Option ClxValue → Type 0
FieldInside n (std.Some v) = Inside n v
FieldInside n std.None = Unit

-- ---- children without a name, as they stand in the table

abbrev pub unnamed_child : ℕ → Entry → Bool
unnamed_child p e = eqb e.parent p && eqb e.units 0

-- the unnamed children of p from entry i on, of n entries
unfoldable pub kids : (ℕ → Entry) → ℕ → ℕ → ℕ → List ℕ
kids e p i n = between (λ k. unnamed_child p (e k)) i n

-- the first of a list
abbrev pub head_of : List ℕ → Option ℕ
head_of l = get_elem? l 0
