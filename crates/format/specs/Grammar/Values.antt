-- Document 01, The grammar: what the entries es of a tree in the file s mean, as rules. p is the number of a level's entry plus one, or 0 for the whole tree.
use Rattle.std.specs.Prelude.{ℕ, suc, ◌+◌, ◌*◌, ◌^◌, ◌≤◌, ◌<◌, ◌≡◌, true, false, List, [], ◌∷◌, ◌++◌, length, ℤ, pos, negsuc}
use Rattle.std.proofs.Math.Option.{some}
use Rattle.std.proofs.Math.ListN.{get_elem?}
use Rattle.std.specs.Float.{binary64}
use Rattle.std.specs.Float.Ieee.{of_bits}
use Rattle.format.specs.Bytes.{le_at}
use Rattle.format.specs.Text.{units}
use Rattle.format.specs.Values.{Value, flag, whole, double, text, bytes, level, list}
use Rattle.format.specs.Grammar.Lists.{Just}
use Rattle.format.specs.Grammar.Text.{Mended}
use Rattle.format.specs.declared.Entry.{Entry}

-- ---- values that are no levels

-- n is the two's complement of a number, where the sign bit counts `half`: below it the number is n, and from it on n − 2 × half, where negsuc m is −(m + 1)
pub data Complement (half n : ℕ) : ℤ → Type 0 where
  positive : n < half → Complement half n (pos n)
  negative : {m : ℕ} → half ≤ n → n + suc m ≡ half + half → Complement half n (negsuc m)
  -- no bytes stand for such an n: it takes a list with a number over 255
  beyond : half + half ≤ n → Complement half n (negsuc 0)

-- The value of an entry that is no level, by its type (document 01, Trees). A flag is set
-- where its byte is not 0, and a text has a unit for every two of its bytes.
pub data LeafOf (s : List ℕ) (e : Entry) : Value → Type 0 where
  of_unset : e.kind ≡ 1 → le_at 1 s e.value ≡ 0 → LeafOf s e (flag false)
  of_set : e.kind ≡ 1 → (le_at 1 s e.value ≡ 0 → ⊥) → LeafOf s e (flag true)
  of_i32 : {z : ℤ} → e.kind ≡ 2 → Complement (2 ^ 31) (le_at 4 s e.value) z → LeafOf s e (whole z)
  of_u32 : e.kind ≡ 3 → LeafOf s e (whole (pos (le_at 4 s e.value)))
  of_i64 : {z : ℤ} → e.kind ≡ 4 → Complement (2 ^ 63) (le_at 8 s e.value) z → LeafOf s e (whole z)
  of_u64 : e.kind ≡ 5 → LeafOf s e (whole (pos (le_at 8 s e.value)))
  of_f64 : e.kind ≡ 6 → LeafOf s e (double (of_bits binary64 (le_at 8 s e.value)))
  of_pointer : e.kind ≡ 7 → LeafOf s e (whole (pos (le_at 8 s e.value)))
  of_text : {n : ℕ} → e.kind ≡ 8 → e.size ≡ 2 * n → LeafOf s e (text e.value n)
  of_bytes : e.kind ≡ 9 → LeafOf s e (bytes e.value e.size)

-- ---- lists and levels

abbrev pub NoList : Value → Type 0
NoList v = (l : List ℕ) → v ≡ list l → ⊥

abbrev pub NoLevel : Value → Type 0
NoLevel v = (i : ℕ) → v ≡ level i → ⊥

-- The elements of a list of unnamed entries: j is the first of them, with the value v, and js are the later ones. Where v is a list itself, its elements stand
-- in the place of j.
pub data Elements (j : ℕ) (v : Value) (js : List ℕ) : List ℕ → Type 0 where
  first : NoList v → Elements j v js (j ∷ js)
  appended : {l : List ℕ} → v ≡ list l → Elements j v js (l ++ js)

-- of these, whose values are as Has says, the ones that are levels
pub data Levels (Has : ℕ → Value → Type 0) : List ℕ → List ℕ → Type 0 where
  none : Levels Has [] []
  one : {i j : ℕ} {is js : List ℕ} → Has j (level i) → Levels Has js is → Levels Has (j ∷ js) (i ∷ is)
  other : {j : ℕ} {v : Value} {is js : List ℕ} → Has j v → NoLevel v → Levels Has js is → Levels Has (j ∷ js) is

module _ (s : List ℕ) (es : List Entry) where
  -- ---- names

  -- the entry j stands in the level p and bears the name, its units with no lone surrogate; the empty one is that of an unnamed entry
  pub record Bears (p : ℕ) (name : List ℕ) (j : ℕ) : Type 0 where
    pub entry : Entry
    pub there : get_elem? es j ≡ some entry
    pub child : entry.parent ≡ p
    pub name_is : Mended (units entry.units s entry.name) name

  -- no later entry of the level bears the name: what the name means is the value of this one
  pub record Last (p : ℕ) (name : List ℕ) (j : ℕ) : Type 0 where
    pub bears : Bears p name j
    pub none_later : (k : ℕ) → j < k → Bears p name k → ⊥

  -- no earlier entry of the level bears the same name: here the name has its place
  pub record Place (p j : ℕ) : Type 0 where
    pub name : List ℕ
    pub bears : Bears p name j
    pub none_earlier : (k : ℕ) → k < j → Bears p name k → ⊥

  -- the level has entries, and none of them has a name
  pub record Nameless (p : ℕ) : Type 0 where
    pub one : ℕ
    pub unnamed : Bears p [] one
    pub none_named : (j u : ℕ) (name : List ℕ) → Bears p (u ∷ name) j → ⊥

  -- ---- values

  -- the value of the entry i
  pub data ValueOf : ℕ → Value → Type 0 where
    is_leaf : {i : ℕ} {e : Entry} {v : Value} → get_elem? es i ≡ some e → LeafOf s e v → ValueOf i v
    is_level : {i : ℕ} {e : Entry} → get_elem? es i ≡ some e → e.kind ≡ 11 → (Nameless (suc i) → ⊥) → ValueOf i (level i)
    is_list : {i j : ℕ} {e : Entry} {v : Value} {js l : List ℕ} → get_elem? es i ≡ some e → e.kind ≡ 11 → Nameless (suc i)
        → Just (Bears (suc i) []) (j ∷ js) → ValueOf j v → Elements j v js l → ValueOf i (list l)

  -- the level p has this value under the name
  pub record Field (p : ℕ) (name : List ℕ) (v : Value) : Type 0 where
    pub place : ℕ
    pub last : Last p name place
    pub value : ValueOf place v

  -- the value of the place j of the level p: of its name, of its one unnamed entry, or of all of them
  pub data PlaceValue (p j : ℕ) : Value → Type 0 where
    of_name : {u : ℕ} {name : List ℕ} {v : Value} → Bears p (u ∷ name) j → Field p (u ∷ name) v → PlaceValue p j v
    of_one : {v : Value} → Just (Bears p []) (j ∷ []) → ValueOf j v → PlaceValue p j v
    of_several : {k : ℕ} {v : Value} {js l : List ℕ} → Just (Bears p []) (j ∷ k ∷ js) → ValueOf j v → Elements j v (k ∷ js) l → PlaceValue p j (list l)

  -- ---- elements or entries

  -- the levels among the elements or entries of a value
  pub data LevelsIn : Value → List ℕ → Type 0 where
    of_level : {i : ℕ} {is js : List ℕ} → Just (Place (suc i)) js → Levels (PlaceValue (suc i)) js is → LevelsIn (level i) is
    of_list : {is js : List ℕ} → Levels ValueOf js is → LevelsIn (list js) is
    of_other : {v : Value} → NoLevel v → NoList v → LevelsIn v []

  -- how many elements or entries a value has
  pub data SizeOf : Value → ℕ → Type 0 where
    of_level : {i : ℕ} {js : List ℕ} → Just (Place (suc i)) js → SizeOf (level i) (length js)
    of_list : {js : List ℕ} → SizeOf (list js) (length js)
    of_other : {v : Value} → NoLevel v → NoList v → SizeOf v 0
