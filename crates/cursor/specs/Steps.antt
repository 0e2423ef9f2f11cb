-- What each answer of the cursor's steps over a record says of the format's readings, case by case.
use Rattle.std.specs.Prelude.{ℕ, suc, ◌+◌, ◌-◌, ◌≤◌, ◌≡◌, List, length, get_or, Option, Some, None, Result, Ok, Err}
use Rattle.format.specs.Given.{number}
use Rattle.format.specs.declared.refusal.Refusal.{Refusal}
use Rattle.format.specs.Trees.{Stop, at, fault, Read, ends, entered, then, Children, children_or9, level_value, level_end, value, ChildrenAt, entry_of, records}
use Rattle.format.specs.declared.Entry.{Entry}
use Rattle.cursor.specs.Words.{Within}
use Rattle.cursor.specs.declared.Cursor.{Cursor}
use Rattle.cursor.specs.declared.record.Name.{Name}
use Rattle.cursor.specs.declared.record.Leaf.{Leaf}
use Rattle.cursor.specs.declared.record.Level.{Level}

-- a reading that ends with the number x at a record that has an entry
pub record Faults (x : ℕ) (o : Read) : Type 0 where
  pub one : length o.entries ≡ 1
  pub stops : o.stop ≡ fault x

-- ---- a record's head

-- n is the head of a record of d, and its value begins at c
pub record Headed (d : List ℕ) (n : Name) (c : Cursor) : Type 0 where
  pub kind : n.kind ≡ get_or d n.start 0
  pub units : n.units ≡ get_or d (n.start + 1) 0 - 1
  pub before : n.start + 2 ≤ c.at
  pub within : Within c d

-- the value at c of a record with the head n
abbrev pub value_of : List ℕ → ℕ → Children → ℕ → Name → Cursor → Read
value_of d base children parent n c = value d children n.kind n.start c.at c.end (entry_of d base parent n.start)

-- the records from c on, by the head that stands there: none, or a fault, or the record's value and then `more`
abbrev pub from_head : (Name → Cursor → Read) → (ℕ → ℕ → Read) → Cursor → Result (Option (Name × Cursor)) Refusal → Read
from_head val more c (Ok (Some (n, v))) = then (val n v) more
from_head val more c (Err x) = ends (fault (number x))
from_head val more c (Ok None) = ends (at c.at)

abbrev pub GoodHead : List ℕ → ℕ → Result (Option (Name × Cursor)) Refusal → Type 0
GoodHead d e (Ok (Some (n, v))) = Headed d n v × (v.end ≡ e)
GoodHead d e (Err x) = Unit
GoodHead d e (Ok None) = Unit

pub record HeadRead (d : List ℕ) (c : Cursor) (r : Result (Option (Name × Cursor)) Refusal) : Type 0 where
  pub says : (base : ℕ) (children : ChildrenAt) (parent count used : ℕ)
      → records d base children parent (suc count) used c.at c.end
      ≡ from_head (value_of d base (children used) parent) (λ n p. records d base children parent count (used + n) p c.end) c r
  pub good : GoodHead d c.end r

-- ---- a value that is no level

-- the value's place and bytes and the place after it, or the fault's number
abbrev pub leaf_says : (ℕ → ℕ → Entry) → Read → Result Leaf Refusal → Type 0
leaf_says entry o (Ok l) = o ≡ entered (entry l.at l.size) (at l.next.at)
leaf_says entry o (Err x) = Faults (number x) o

abbrev pub GoodLeaf : List ℕ → ℕ → Result Leaf Refusal → Type 0
GoodLeaf d e (Ok l) = Within l.next d × (l.next.end ≡ e) × (l.at ≤ e)
GoodLeaf d e (Err x) = Unit

pub record LeafRead (d : List ℕ) (e : ℕ) (val : (ℕ → ℕ → Entry) → Read) (r : Result Leaf Refusal) : Type 0 where
  pub says : (entry : ℕ → ℕ → Entry) → leaf_says entry (val entry) r
  pub good : GoodLeaf d e r

-- ---- a level's header

-- the children's count, place and end, or the fault's number
abbrev pub level_says : Children → (ℕ → ℕ → Entry) → ℕ → Read → Result Level Refusal → Type 0
level_says children entry e o (Ok l) = o ≡ children_or9 children l.count l.inner.at l.inner.end entry e
level_says children entry e o (Err x) = Faults (number x) o

-- the children's part is followed by the rest of the level that this one stands in
pub record GoodInner (d : List ℕ) (e : ℕ) (c a : Cursor) : Type 0 where
  pub kids : Within c d
  pub after : Within a d
  pub seam : a.at ≡ c.end
  pub last : a.end ≡ e

abbrev pub GoodLevel : List ℕ → ℕ → Result Level Refusal → Type 0
GoodLevel d e (Ok l) = GoodInner d e l.inner l.after
GoodLevel d e (Err x) = Unit

pub record LevelRead (d : List ℕ) (start : ℕ) (c : Cursor) (r : Result Level Refusal) : Type 0 where
  pub says : (children : Children) (entry : ℕ → ℕ → Entry) → level_says children entry c.end (level_value d children start c.at c.end entry) r
  pub good : GoodLevel d c.end r

-- ---- a level's end

-- the place after a level's offsets, or the refusal's number
abbrev pub past_of : Result Cursor Refusal → Stop
past_of (Ok c) = at c.at
past_of (Err x) = fault (number x)

abbrev pub GoodSkip : ℕ → Result Cursor Refusal → Type 0
GoodSkip e (Ok c) = (c.at ≤ e) × (c.end ≡ e)
GoodSkip e (Err x) = Unit

pub record Skipped (c : Cursor) (count : ℕ) (r : Result Cursor Refusal) : Type 0 where
  pub says : past_of r ≡ level_end count c.at c.end
  pub good : GoodSkip c.end r
