-- Document 01, Trees: a record has a type, a name and a value, and a level is a record whose value holds further ones.
-- `read` gives a tree's entries in file order and how it ends. It knows of no table: `within` says what a table of some entries makes of it.
use Rattle.std.specs.Prelude.{ℕ, zero, suc, ◌+◌, ◌-◌, ◌*◌, ◌/◌, Bool, true, false, not, ◌&&◌, ◌||◌, cond}
use Rattle.std.specs.Prelude.{List, [], ◌∷◌, ◌++◌, length, take, get_or, leb, ltb, eqb}
use Rattle.std.proofs.Math.Option.{Option, none, some}
use Rattle.format.specs.Bytes.{le_at, le_bytes}
use Rattle.format.specs.Answer.{Answer, given, refused, and_then}
use Rattle.format.specs.Refusals as why
use Rattle.format.specs.Text.{units}
use Rattle.format.specs.Chunks.{data_in}
use Rattle.format.specs.Map.{MapEntry, named_chunk}
use Rattle.format.specs.declared.Range.{Range}
use Rattle.format.specs.declared.Entry.{Entry}

-- a reading ends at a place, or with a refusal's number
pub data Stop : Type 0 where
  at : ℕ → Stop
  fault : ℕ → Stop

-- The entries of the records whose type and name pass, in file order, and the end. Where that is a fault, how many entries there are is all
-- that counts.
pub record Read : Type 0 where
  pub entries : List Entry
  pub stop : Stop

abbrev pub ends : Stop → Read
ends t = record { entries = []; stop = t }

abbrev pub entered : Entry → Stop → Read
entered e t = record { entries = e ∷ []; stop = t }

-- One of two readings. Each waits for an argument, so that antt computes only the one that is picked.
unfoldable pub pick : Bool → (Unit {0} → Read) → (Unit {0} → Read) → Read
pick true r s = r tt
pick false r s = s tt

unfoldable pub stop_if : Bool → ℕ → (Unit {0} → Read) → Read
stop_if true n r = ends (fault n)
stop_if false n r = r tt

unfoldable pub follow : List Entry → Stop → (ℕ → ℕ → Read) → Read
follow es (fault n) k = record { entries = es; stop = fault n }
follow es (at p) k = record { entries = es ++ (k (length es) p).entries; stop = (k (length es) p).stop }

-- what comes after a reading that ends at a place: k gets how many entries it had, and the place
abbrev pub then : Read → (ℕ → ℕ → Read) → Read
then r k = follow r.entries r.stop k

-- ---- values. Each begins at i in a level that ends at e, and `entry v n` is its record's entry with n bytes of value at v.

-- n bytes
unfoldable pub fixed_value : ℕ → ℕ → ℕ → (ℕ → ℕ → Entry) → Read
fixed_value n i e entry = entered (entry i n) (cond (leb (i + n) e) (at (i + n)) (fault why.cut))

-- how many units stand before the first zero unit
unfoldable pub text_units : List ℕ → ℕ
text_units [] = 0
text_units (u ∷ us) = cond (eqb u 0) 0 (suc (text_units us))

-- text: up to the first zero unit, which is passed over, or else as many whole units as there are
unfoldable pub text_value : List ℕ → ℕ → ℕ → (ℕ → ℕ → Entry) → Read
unfolding text_units
text_value d i e entry =
    let n = text_units (units ((e - i) / 2) d i) in
    entered (entry i (2 * n)) (at (cond (leb (i + 2 * n + 2) e) (i + 2 * n + 2) (i + 2 * n)))

-- bytes, behind eight that say how many
unfoldable pub bytes_value : List ℕ → ℕ → ℕ → (ℕ → ℕ → Entry) → Read
bytes_value d i e entry =
    let size = le_at 8 d i in
    entered (entry (i + 8) size) (cond (leb (i + 8) e && leb (i + 8 + size) e) (at (i + 8 + size)) (fault why.cut))

-- the most items that a level may declare: past it 10
abbrev pub most_items : ℕ
most_items = 10_000_000

-- so many levels may stand one in another: one more is 9
abbrev pub most_depth : ℕ
most_depth = 64

-- where a level ends: behind its children, and eight bytes more for each declared item, which are not read
unfoldable pub level_end : ℕ → ℕ → ℕ → Stop
level_end count to e = cond (leb (to + 8 * count) e) (at (to + 8 * count)) (fault why.cut)

-- what reads a level's children, from their count, place and end: nothing at the greatest depth
abbrev pub Children : Type 0
Children = Option (ℕ → ℕ → ℕ → Read)

unfoldable pub children_or9 : Children → ℕ → ℕ → ℕ → (ℕ → ℕ → Entry) → ℕ → Read
unfolding follow
children_or9 none count from to entry e = entered (entry from (to - from)) (fault why.deep)
children_or9 (some children) count from to entry e =
    then (entered (entry from (to - from)) (at from)) λ n p.
    then (children count from to) λ m q.
    ends (level_end count to e)

-- A level: four bytes that say how many items it has, eight that say how far behind the start of its record the children end, and these. Too many items and
-- too small a length are 10; children past the end are 6; then come the depth, the children's own faults and the bytes behind them.
unfoldable pub level_value : List ℕ → Children → ℕ → ℕ → ℕ → (ℕ → ℕ → Entry) → Read
unfolding level_end pick children_or9
level_value d children start i e entry =
    let count = le_at 4 d i in
    let from = i + 12 in
    let to = start + le_at 8 d (i + 4) in
    let wrong : ℕ → Unit {0} → Read = λ n _. entered (entry i 0) (fault n) in
    pick (ltb e (i + 4)) (wrong why.cut) λ _.
    pick (ltb most_items count) (wrong why.level) λ _.
    pick (ltb e from) (wrong why.cut) λ _.
    pick (ltb to from) (wrong why.level) λ _.
    pick (ltb e to) (wrong why.cut) λ _.
    children_or9 children count from to entry e

-- how many bytes a flag, a number or a pointer has, by its type
unfoldable pub fixed_len : ℕ → ℕ
fixed_len k = cond (eqb k 1) 1 (cond (eqb k 2 || eqb k 3) 4 8)

unfoldable pub value : List ℕ → Children → ℕ → ℕ → ℕ → ℕ → (ℕ → ℕ → Entry) → Read
unfolding fixed_len pick level_value bytes_value text_value fixed_value
value d children k start i e entry =
    pick (eqb k 11) (λ _. level_value d children start i e entry) λ _.
    pick (eqb k 9) (λ _. bytes_value d i e entry) λ _.
    pick (eqb k 8) (λ _. text_value d i e entry) λ _.
    fixed_value (fixed_len k) i e entry

-- ---- records. `base` is the file position of d's first byte.

-- bool, i32, u32, i64, u64, f64, pointer, text, bytes, level
unfoldable pub known : ℕ → Bool
known k = leb 1 k && leb k 9 || eqb k 11

-- the type of a packed record, `clx_type::COMPRESS`
abbrev pub packed_type : ℕ
packed_type = 76

-- the children of a record whose own entry comes after `used` others
abbrev pub ChildrenAt : Type 0
ChildrenAt = ℕ → Children

-- The entry of the record at i, with n bytes of value at v: its positions are those in the file, a name loses its last unit, and the parent is the number
-- of its level's entry plus one, or 0.
abbrev pub entry_of : List ℕ → ℕ → ℕ → ℕ → ℕ → ℕ → Entry
entry_of d base parent i v n =
    record {
      kind = get_or d i 0;
      name = base + i + 2;
      units = get_or d (i + 1) 0 - 1;
      value = base + v;
      size = n;
      parent = parent;
    }

-- One record at i, whose first two bytes are there, in a level that ends at e. A packed one and the types 0 and 10 are refused whatever the name is, another
-- unknown type only where the name lies in the level; the value comes last.
unfoldable pub record_at : List ℕ → ℕ → ChildrenAt → ℕ → ℕ → ℕ → ℕ → Read
unfolding stop_if value known
record_at d base children parent used i e =
    let k = get_or d i 0 in
    let n = get_or d (i + 1) 0 in
    let v = i + 2 + 2 * n in
    stop_if (eqb k packed_type) why.packed λ _.
    stop_if (eqb k 0 || eqb k 10) why.kind λ _.
    stop_if (ltb e v) why.cut λ _.
    stop_if (not (known k)) why.kind λ _.
    value d (children used) k i v e (entry_of d base parent i)

-- At most `count` records from i on, in a level that ends at e. Where no two bytes are left for another, the level ends, and that is no fault.
unfoldable pub records : List ℕ → ℕ → ChildrenAt → ℕ → ℕ → ℕ → ℕ → ℕ → Read
unfolding record_at pick follow
records d base children parent zero used i e = ends (at i)
records d base children parent (suc count) used i e =
    pick (ltb e (i + 2)) (λ _. ends (at i)) λ _.
    then (record_at d base children parent used i e) λ n p.
    records d base children parent count (used + n) p e

-- the children of a record, with `levels` depths left
unfoldable pub children_at : ℕ → List ℕ → ℕ → ChildrenAt
unfolding records
children_at zero d base used = none
children_at (suc levels) d base used =
    some λ count from to. records d base (children_at levels d base) (suc used) count (suc used) from to

-- a tree: a single record, around which there is no level, or none where the data has no two bytes
unfoldable pub read : List ℕ → ℕ → Read
unfolding records children_at
read d base = records d base (children_at most_depth d base) 0 1 0 0 (length d)

-- the tree in a part of a file
unfoldable pub tree_in : List ℕ → Range → Read
unfolding read
tree_in s r = read (data_in s r) r.start

-- ---- the table, which every tree fills from its start

-- how many whole entries a table of n bytes has
abbrev pub room_in : ℕ → ℕ
room_in n = n / 48

-- what a table of `room` entries makes of a reading: 18 at the first record that finds no entry left
unfoldable pub within : ℕ → Read → Read
within room r = cond (leb (length r.entries) room) r (record { entries = take room r.entries; stop = fault why.table })

-- a tree's entries, or the number that ends it
unfoldable pub whole_tree : Stop → List Entry → Answer (List Entry)
whole_tree (at p) es = given es
whole_tree (fault n) es = refused n

abbrev pub tree_entries : Read → Answer (List Entry)
tree_entries r = whole_tree r.stop r.entries

-- the tree of a named chunk, read into a table of `room` entries: 11, 4, 29, 4, tree
unfoldable pub named_tree : List ℕ → List ℕ → List MapEntry → ℕ → List ℕ → Answer (List Entry)
unfolding named_chunk whole_tree
named_tree s m es room name = and_then (named_chunk s m es name) λ r. tree_entries (within room (tree_in s r))

-- an entry's six numbers, u64 each
unfoldable pub entry_bytes : Entry → List ℕ
unfolding le_bytes
entry_bytes e =
    le_bytes 8 e.kind ++ le_bytes 8 e.name ++ le_bytes 8 e.units ++ le_bytes 8 e.value ++ le_bytes 8 e.size ++ le_bytes 8 e.parent

unfoldable pub table_bytes : List Entry → List ℕ
unfolding entry_bytes
table_bytes [] = []
table_bytes (e ∷ es) = entry_bytes e ++ table_bytes es
