-- Document 01, The grammar: trees, as rules. d is a tree's data, and `base` the file position of its first byte.
use Rattle.std.specs.Prelude.{ℕ, suc, ◌+◌, ◌-◌, ◌*◌, ◌≤◌, ◌<◌, ◌≡◌, List, [], ◌∷◌, ◌++◌, length, get_or}
use Rattle.format.specs.Bytes.{le_at}
use Rattle.format.specs.Refusals as why
use Rattle.format.specs.Chunks.{data_in}
use Rattle.format.specs.declared.Range.{Range}
use Rattle.format.specs.Trees.{most_items, most_depth, packed_type}
use Rattle.format.specs.declared.Entry.{Entry}

-- where the value of the record at i begins: behind its type, its name's length and its name
abbrev pub value_start : List ℕ → ℕ → ℕ
value_start d i = i + 2 + 2 * get_or d (i + 1) 0

-- a record of type k begins at i, and its name ends in a level that ends at e
pub record Head (d : List ℕ) (i e k : ℕ) : Type 0 where
  pub kind : get_or d i 0 ≡ k
  pub name_within : value_start d i ≤ e

-- bool, i32, u32, i64, u64, f64 and pointer, and how many bytes they have
pub data Fixed : ℕ → ℕ → Type 0 where
  bool : Fixed 1 1
  i32 : Fixed 2 4
  u32 : Fixed 3 4
  i64 : Fixed 4 8
  u64 : Fixed 5 8
  f64 : Fixed 6 8
  pointer : Fixed 7 8

-- the n units from v on are not 0
abbrev pub Units : List ℕ → ℕ → ℕ → Type 0
Units d v n = (j : ℕ) → j < n → le_at 2 d (v + 2 * j) ≡ 0 → ⊥

-- A value of type k that is no level stands at v, in a level that ends at e: `Plain d e v k from len p` says that the value is the len bytes
-- from `from` on, and that p is the place after it.
pub data Plain (d : List ℕ) (e v : ℕ) : ℕ → ℕ → ℕ → ℕ → Type 0 where
  fixed : {k n : ℕ} → Fixed k n → v + n ≤ e → Plain d e v k v n (v + n)
  text_ended : (n : ℕ) → Units d v n → le_at 2 d (v + 2 * n) ≡ 0 → v + 2 * n + 2 ≤ e → Plain d e v 8 v (2 * n) (v + 2 * n + 2)
  text_cut : (n : ℕ) → Units d v n → v + 2 * n ≤ e → e < v + 2 * n + 2 → Plain d e v 8 v (2 * n) (v + 2 * n)
  bytes : v + 8 + le_at 8 d v ≤ e → Plain d e v 9 (v + 8) (le_at 8 d v) (v + 8 + le_at 8 d v)

-- a level's count, where its children begin and end, and the place after it, where its record begins at i
abbrev pub count_at : List ℕ → ℕ → ℕ
count_at d i = le_at 4 d (value_start d i)

abbrev pub kids_from : List ℕ → ℕ → ℕ
kids_from d i = value_start d i + 12

abbrev pub kids_to : List ℕ → ℕ → ℕ
kids_to d i = i + le_at 8 d (value_start d i + 4)

abbrev pub level_to : List ℕ → ℕ → ℕ
level_to d i = kids_to d i + 8 * count_at d i

-- a level's record begins at i, in a level that ends at e, and its children lie in that level
pub record Level (d : List ℕ) (i e : ℕ) : Type 0 where
  pub head : Head d i e 11
  pub header_within : kids_from d i ≤ e
  pub items_most : count_at d i ≤ most_items
  pub length_least : kids_from d i ≤ kids_to d i
  pub kids_within : kids_to d i ≤ e

-- ---- entries

-- how many units of a name of so many are kept: all but the last
pub data NameUnits : ℕ → ℕ → Type 0 where
  unnamed : NameUnits 0 0
  but_last : {n : ℕ} → NameUnits (suc n) n

-- The entry of the record at i, whose value is the len bytes from `from` on; its positions are those in
-- the file, and `parent` is its level's entry plus one.
pub record EntryOf (d : List ℕ) (base parent i from len : ℕ) (en : Entry) : Type 0 where
  pub kind : en.kind ≡ get_or d i 0
  pub name : en.name ≡ base + i + 2
  pub units : NameUnits (get_or d (i + 1) 0) en.units
  pub value : en.value ≡ base + from
  pub size : en.size ≡ len
  pub parent_is : en.parent ≡ parent

-- ---- records

-- `Records d base left parent count used i e es p`: from i on, in a level that ends at e, stand at most `count` records, with the entries
-- es and the place p after them. `used` entries come before these, `parent` is their level's entry plus one, and `left` is how many levels
-- may stand here one in another.
pub data Records (d : List ℕ) (base : ℕ) : ℕ → ℕ → ℕ → ℕ → ℕ → ℕ → List Entry → ℕ → Type 0 where
  counted : {left parent used i e : ℕ} → Records d base left parent 0 used i e [] i
  quiet : {left parent count used i e : ℕ} → e < i + 2 → Records d base left parent (suc count) used i e [] i
  plain : {left parent count used i e k from len p q : ℕ} {en : Entry} {es : List Entry}
      → Head d i e k → Plain d e (value_start d i) k from len p → EntryOf d base parent i from len en
      → Records d base left parent count (used + 1) p e es q
      → Records d base left parent (suc count) used i e (en ∷ es) q
  nested : {left parent count used i e p q : ℕ} {en : Entry} {ks es : List Entry}
      → Level d i e → EntryOf d base parent i (kids_from d i) (kids_to d i - kids_from d i) en
      → Records d base left (suc used) (count_at d i) (suc used) (kids_from d i) (kids_to d i) ks p
      → level_to d i ≤ e
      → Records d base (suc left) parent count (used + suc (length ks)) (level_to d i) e es q
      → Records d base (suc left) parent (suc count) used i e (en ∷ ks ++ es) q

-- bool, i32, u32, i64, u64, f64, pointer, text, bytes, level
pub data Kind : ℕ → Type 0 where
  of_value : {k : ℕ} → 1 ≤ k → k ≤ 9 → Kind k
  of_level : Kind 11

-- a type that is not judged before the name
pub record Judged (k : ℕ) : Type 0 where
  pub not_packed : k ≡ packed_type → ⊥
  pub not_0 : k ≡ 0 → ⊥
  pub not_10 : k ≡ 10 → ⊥

-- ---- faults

-- What is wrong with the record that begins at i, in a level that ends at e, with n the refusal's number; `left` is how many levels may stand here one in
-- another. The order is: the types 76, 0 and 10, the name, every other type, the value; of a level its count, its length, where its children end, its depth.
pub data Wrong (d : List ℕ) (i e : ℕ) : ℕ → ℕ → Type 0 where
  packed_type_is : {left : ℕ} → get_or d i 0 ≡ packed_type → Wrong d i e left why.packed
  type_0 : {left : ℕ} → get_or d i 0 ≡ 0 → Wrong d i e left why.kind
  type_10 : {left : ℕ} → get_or d i 0 ≡ 10 → Wrong d i e left why.kind
  name_cut : {left : ℕ} → Judged (get_or d i 0) → e < value_start d i → Wrong d i e left why.cut
  unknown : {left k : ℕ} → Head d i e k → Judged k → (Kind k → ⊥) → Wrong d i e left why.kind
  number_cut : {left k n : ℕ} → Head d i e k → Fixed k n → e < value_start d i + n → Wrong d i e left why.cut
  bytes_cut : {left : ℕ} → Head d i e 9 → e < value_start d i + 8 + le_at 8 d (value_start d i) → Wrong d i e left why.cut
  count_cut : {left : ℕ} → Head d i e 11 → e < value_start d i + 4 → Wrong d i e left why.cut
  items_over : {left : ℕ} → Head d i e 11 → value_start d i + 4 ≤ e → most_items < count_at d i → Wrong d i e left why.level
  length_cut : {left : ℕ} → Head d i e 11 → value_start d i + 4 ≤ e → count_at d i ≤ most_items → e < kids_from d i → Wrong d i e left why.cut
  length_under : {left : ℕ} → Head d i e 11 → kids_from d i ≤ e → count_at d i ≤ most_items → kids_to d i < kids_from d i → Wrong d i e left why.level
  kids_cut : {left : ℕ} → Head d i e 11 → kids_from d i ≤ e → count_at d i ≤ most_items → kids_from d i ≤ kids_to d i → e < kids_to d i
      → Wrong d i e left why.cut
  too_deep : Level d i e → Wrong d i e 0 why.deep

-- `Faults d base left parent count used i e n`: among at most `count` records from i on, the first fault has the number n. The other arguments are those of
-- `Records`.
pub data Faults (d : List ℕ) (base : ℕ) : ℕ → ℕ → ℕ → ℕ → ℕ → ℕ → ℕ → Type 0 where
  here : {left parent count used i e n : ℕ} → i + 2 ≤ e → Wrong d i e left n → Faults d base left parent (suc count) used i e n
  behind_plain : {left parent count used i e k from len p n : ℕ}
      → Head d i e k → Plain d e (value_start d i) k from len p
      → Faults d base left parent count (used + 1) p e n
      → Faults d base left parent (suc count) used i e n
  behind_level : {left parent count used i e p n : ℕ} {ks : List Entry}
      → Level d i e
      → Records d base left (suc used) (count_at d i) (suc used) (kids_from d i) (kids_to d i) ks p
      → level_to d i ≤ e
      → Faults d base (suc left) parent count (used + suc (length ks)) (level_to d i) e n
      → Faults d base (suc left) parent (suc count) used i e n
  inside : {left parent count used i e n : ℕ}
      → Level d i e
      → Faults d base left (suc used) (count_at d i) (suc used) (kids_from d i) (kids_to d i) n
      → Faults d base (suc left) parent (suc count) used i e n
  skip_cut : {left parent count used i e p : ℕ} {ks : List Entry}
      → Level d i e
      → Records d base left (suc used) (count_at d i) (suc used) (kids_from d i) (kids_to d i) ks p
      → e < level_to d i
      → Faults d base (suc left) parent (suc count) used i e why.cut

-- ---- the table

-- `Passes d base left parent count used i e n`: the type and the name of n records pass, at every depth, before the end or a fault
pub data Passes (d : List ℕ) (base : ℕ) : ℕ → ℕ → ℕ → ℕ → ℕ → ℕ → ℕ → Type 0 where
  none_yet : {left parent count used i e : ℕ} → Passes d base left parent count used i e 0
  this : {left parent count used i e k : ℕ} → Head d i e k → Kind k → Passes d base left parent (suc count) used i e 1
  this_and_more : {left parent count used i e k from len p n : ℕ}
      → Head d i e k → Plain d e (value_start d i) k from len p
      → Passes d base left parent count (used + 1) p e n
      → Passes d base left parent (suc count) used i e (suc n)
  this_and_inside : {left parent count used i e n : ℕ}
      → Level d i e
      → Passes d base left (suc used) (count_at d i) (suc used) (kids_from d i) (kids_to d i) n
      → Passes d base (suc left) parent (suc count) used i e (suc n)
  level_and_more : {left parent count used i e p n : ℕ} {ks : List Entry}
      → Level d i e
      → Records d base left (suc used) (count_at d i) (suc used) (kids_from d i) (kids_to d i) ks p
      → level_to d i ≤ e
      → Passes d base (suc left) parent count (used + suc (length ks)) (level_to d i) e n
      → Passes d base (suc left) parent (suc count) used i e (suc (length ks + n))

-- the part r of s is a tree with these entries: one record at depth 0
pub record Tree (s : List ℕ) (r : Range) (es : List Entry) : Type 0 where
  pub place_after : ℕ
  pub record_at_0 : Records (data_in s r) r.start most_depth 0 1 0 0 (length (data_in s r)) es place_after

-- the first fault of the tree in the part r of s has the number n
abbrev pub Faulty : List ℕ → Range → ℕ → Type 0
Faulty s r n = Faults (data_in s r) r.start most_depth 0 1 0 0 (length (data_in s r)) n

-- the type and the name of n records of the tree in the part r of s pass, before its end or first fault
abbrev pub PassedIn : List ℕ → Range → ℕ → Type 0
PassedIn s r n = Passes (data_in s r) r.start most_depth 0 1 0 0 (length (data_in s r)) n
