-- Document 01, Trees: what the entries of a tree mean. A level is a row of places, each with a name and its value; the unnamed entries share one place, and two
-- or more of them are a list. A level whose entries are all unnamed is a list itself.
use Rattle.std.specs.Prelude.{ℕ, zero, suc, ◌+◌, ◌-◌, ◌/◌, ◌^◌, Bool, true, false, not, cond, List, [], ◌∷◌, ◌++◌, ltb, eqb, ℤ, pos, negsuc, Float}
use Rattle.std.proofs.Math.Option.{Option, none, some}
use Rattle.std.proofs.Math.ListN.{get_elem?}
use Rattle.std.specs.Float.{binary64}
use Rattle.std.specs.Float.Ieee.{of_bits}
use Rattle.format.specs.Bytes.{le_at, same}
use Rattle.format.specs.Text.{units, lossy}
use Rattle.format.specs.Trees.{most_depth}
use Rattle.format.specs.declared.Entry.{Entry}

-- The value of an entry or of a place, by its kind. Text and bytes are a file position and a count of units or
-- bytes, a level is its entry's number, and a list is the numbers of its elements' entries.
pub data Value : Type 0 where
  flag : Bool → Value
  whole : ℤ → Value
  double : Float → Value
  text : ℕ → ℕ → Value
  bytes : ℕ → ℕ → Value
  level : ℕ → Value
  list : List ℕ → Value

-- ---- the slots of a level

-- A place in a level: a name with the number of the last entry that bears it, or the unnamed entries in order.
pub data Slot : Type 0 where
  named : List ℕ → ℕ → Slot
  unnamed : List ℕ → Slot

-- a name that came before has its place already, and the entry i takes that over; a new one gets a place behind the others
unfoldable pub put_named : List ℕ → ℕ → List Slot → List Slot
put_named n i [] = named n i ∷ []
put_named n i (named m j ∷ r) = cond (same n m) (named m i ∷ r) (named m j ∷ put_named n i r)
put_named n i (unnamed js ∷ r) = unnamed js ∷ put_named n i r

unfoldable pub put_unnamed : ℕ → List Slot → List Slot
put_unnamed i [] = unnamed (i ∷ []) ∷ []
put_unnamed i (named m j ∷ r) = named m j ∷ put_unnamed i r
put_unnamed i (unnamed js ∷ r) = unnamed (js ++ i ∷ []) ∷ r

-- an entry's name, lone surrogates replaced
unfoldable pub name_of : List ℕ → Entry → List ℕ
name_of s e = lossy (units e.units s e.name)

unfoldable pub put : List ℕ → ℕ → List Slot → List Slot
put [] i r = put_unnamed i r
put (u ∷ n) i r = put_named (u ∷ n) i r

-- The slots that the entries es, numbered from i on, add to r: those whose parent number is p.
unfoldable pub slots_from : List ℕ → ℕ → ℕ → List Entry → List Slot → List Slot
unfolding put
slots_from s p i [] r = r
slots_from s p i (e ∷ es) r = slots_from s p (suc i) es (cond (eqb e.parent p) (put (name_of s e) i r) r)

-- the slots of the level whose entry's number plus one is p, and of the whole tree where p is 0
unfoldable pub slots_of : List ℕ → List Entry → ℕ → List Slot
unfolding slots_from
slots_of s es p = slots_from s p 0 es []

-- ---- the value of an entry

-- the signed number that w bits stand for
unfoldable pub twos_complement : ℕ → ℕ → ℤ
twos_complement w n = cond (ltb n (2 ^ (w - 1))) (pos n) (negsuc (2 ^ w - 1 - n))

-- the elements of a list whose first is the entry i: i, or i's own elements where i is a list
unfoldable pub spread : Value → ℕ → List ℕ
spread (flag b) i = i ∷ []
spread (whole z) i = i ∷ []
spread (double b) i = i ∷ []
spread (text a n) i = i ∷ []
spread (bytes a n) i = i ∷ []
spread (level j) i = i ∷ []
spread (list l) i = l

unfoldable pub elements : (ℕ → Value) → List ℕ → List ℕ
unfolding spread
elements val [] = []
elements val (i ∷ is) = spread (val i) i ++ is

-- the value of the level i with these places: where the unnamed one is alone it is a list
unfoldable pub collapse : (ℕ → Value) → ℕ → List Slot → Value
collapse val i [] = level i
collapse val i (named n j ∷ r) = level i
collapse val i (unnamed is ∷ []) = list (elements val is)
collapse val i (unnamed is ∷ x ∷ r) = level i

-- the value of an entry that is no level, by its type; a pointer is a whole number
unfoldable pub leaf : List ℕ → Entry → Value
unfolding twos_complement
leaf s e =
    let k = e.kind in
    let v = e.value in
    cond (eqb k 1) (flag (not (eqb (le_at 1 s v) 0)))
    (cond (eqb k 2) (whole (twos_complement 32 (le_at 4 s v)))
    (cond (eqb k 3) (whole (pos (le_at 4 s v)))
    (cond (eqb k 4) (whole (twos_complement 64 (le_at 8 s v)))
    (cond (eqb k 6) (double (of_bits binary64 (le_at 8 s v)))
    (cond (eqb k 8) (text v (e.size / 2))
    (cond (eqb k 9) (bytes v e.size)
    (whole (pos (le_at 8 s v)))))))))

unfoldable pub value_if : Bool → (Unit {0} → Value) → Value → Value
value_if true l v = l tt
value_if false l v = v

-- With `levels` depths left, of which a tree has at most 64. The first two clauses are there because a definition has to give some value: a tree has no
-- entry that deep, and no value is asked of a number without an entry.
unfoldable pub value_from : ℕ → List ℕ → List Entry → ℕ → Option Entry → Value
unfolding value_if collapse leaf
value_from zero s es i e = level i
value_from (suc levels) s es i none = level i
value_from (suc levels) s es i (some e) =
    value_if (eqb e.kind 11) (λ _. collapse (λ j. value_from levels s es j (get_elem? es j)) i (slots_of s es (suc i))) (leaf s e)

-- the value of the entry i
unfoldable pub value_at : List ℕ → List Entry → ℕ → Value
unfolding value_from
value_at s es i = value_from (suc most_depth) s es i (get_elem? es i)

-- the value of a slot: of several unnamed entries a list
unfoldable pub slot_value : List ℕ → List Entry → Slot → Value
slot_value s es (named n i) = value_at s es i
slot_value s es (unnamed []) = list []
slot_value s es (unnamed (i ∷ [])) = value_at s es i
slot_value s es (unnamed (i ∷ j ∷ is)) = list (elements (value_at s es) (i ∷ j ∷ is))

-- ---- the value of a name

unfoldable pub find : List ℕ → List Slot → Option ℕ
find n [] = none
find n (named m i ∷ r) = cond (same n m) (some i) (find n r)
find n (unnamed is ∷ r) = find n r

unfoldable pub map_option {ℓ} : {A B : Type ℓ} → (A → B) → Option A → Option B
map_option f none = none
map_option f (some a) = some (f a)

unfoldable pub bind : {A B : Type 0} → Option A → (A → Option B) → Option B
bind none f = none
bind (some a) f = f a

-- the value of a name in the level whose entry's number plus one is p
unfoldable pub field : List ℕ → List Entry → ℕ → List ℕ → Option Value
unfolding find map_option
field s es p name = map_option (value_at s es) (find name (slots_of s es p))

-- the value of a name in the level of entry i
abbrev pub field_in : List ℕ → List Entry → ℕ → List ℕ → Option Value
field_in s es i n = field s es (i + 1) n

-- the entry's number of a value that is a level
unfoldable pub as_level : Option Value → Option ℕ
as_level none = none
as_level (some (flag b)) = none
as_level (some (whole z)) = none
as_level (some (double b)) = none
as_level (some (text i n)) = none
as_level (some (bytes i n)) = none
as_level (some (level i)) = some i
as_level (some (list l)) = none
