-- The places of a level, and what a walk over child levels has still before it.
use Rattle.std.specs.Prelude.{ℕ, ◌+◌, ◌-◌, ◌/◌, ◌%◌, ◌^◌, ◌≤◌, ◌<◌, ◌≡◌, Bool, true, ◌&&◌, List, [], ◌∷◌, eqb, length, drop}
use Rattle.std.specs.Prelude as std
use Rattle.std.proofs.Math.Option.{Option, none, some}
use Rattle.std.proofs.Math.ListN.{get_elem?}
use Rattle.format.specs.Values.{Slot, named, unnamed, name_of, slots_of, find}
use Rattle.format.specs.Loops.{levels_of, levels_in}
use Rattle.format.specs.declared.Entry.{Entry}
use Rattle.lookup.specs.Table.{firsts, between, last_named, is_none, Run}
use Rattle.lookup.specs.Hash.{hash_of, key_of, Marked}
use Rattle.lookup.specs.Values.{unnamed_in, elements_of}
use Rattle.lookup.specs.declared.Level.{Level}
use Rattle.lookup.specs.declared.Turn.{Turn}
use Rattle.lookup.specs.declared.Turn.TheVariants as turn

-- ---- a level's places: its children that are the first of their name, the first unnamed one too

-- whether entry i is a child of p and the first of its name
unfoldable pub leads : List ℕ → (ℕ → Entry) → ℕ → ℕ → Bool
leads s e p i = eqb (e i).parent p && is_none (last_named s e p (name_of s (e i)) i)

-- entry k, where it is a child of p with a name, is the first of it
abbrev pub Leading : List ℕ → (ℕ → Entry) → ℕ → ℕ → Type 0
Leading s e p k = (e k).parent ≡ p → ((e k).units ≡ 0 → ⊥) → leads s e p k ≡ true

-- every such child before r whose name's key leaves `part` where it is divided by `parts`
abbrev pub PartLeads : List ℕ → (ℕ → Entry) → ℕ → ℕ → ℕ → ℕ → Type 0
PartLeads s e p r parts part = (k : ℕ) → p ≤ k → k < r → key_of (name_of s (e k)) % parts ≡ part → Leading s e p k

-- the same of those before entry i, and the names have left their marks
pub record Seen (s : List ℕ) (e : ℕ → Entry) (p parts part i : ℕ) (marks : List ℕ) : Type 0 where
  pub leading : PartLeads s e p i parts part
  pub marked : (k : ℕ) → p ≤ k → k < i → key_of (name_of s (e k)) % parts ≡ part → (e k).parent ≡ p → ((e k).units ≡ 0 → ⊥)
      → Marked marks (hash_of (name_of s (e k)))

-- bit number k of a number
abbrev pub bit : ℕ → ℕ → ℕ
bit n k = n / 2 ^ k % 2

-- what is known of a level, of n entries: its run; in each part of its names whose bit is set none comes twice; the first child without a name
pub record Knows (s : List ℕ) (e : ℕ → Entry) (n : ℕ) (l : Level) : Type 0 where
  pub run : Run e n l.parent l.end
  pub some : 0 < l.parts
  pub few : l.parts ≤ 64
  pub clean : (k : ℕ) → bit l.clean k ≡ 1 → PartLeads s e l.parent l.end l.parts k
  pub first : (i : ℕ) → l.parent ≤ i → i < l.end → (e i).parent ≡ l.parent → (e i).units ≡ 0 → eqb i l.first ≡ leads s e l.parent i

-- the places from entry i on, of n entries
unfoldable pub leads_in : List ℕ → (ℕ → Entry) → ℕ → ℕ → ℕ → List ℕ
leads_in s e p i n = between (leads s e p) i n

abbrev pub named_or : List ℕ → Option ℕ → Slot
named_or n none = unnamed []
named_or n (some i) = named n i

-- the slot of a name
unfoldable pub slot_for : List Slot → List ℕ → Slot
unfolding unnamed_in
slot_for r [] = unnamed (unnamed_in r)
slot_for r (a ∷ n) = named_or (a ∷ n) (find (a ∷ n) r)

-- the slot of the place that entry i is, in the level p
abbrev pub slot_at : List ℕ → (ℕ → Entry) → ℕ → ℕ → ℕ → Slot
slot_at s e n p i = slot_for (slots_of s (firsts n e) p) (name_of s (e i))

abbrev pub slots_at : List ℕ → (ℕ → Entry) → ℕ → ℕ → List ℕ → List Slot
slots_at s e n p [] = []
slots_at s e n p (i ∷ is) = slot_at s e n p i ∷ slots_at s e n p is

-- the levels among the values of p's places from entry i on
abbrev pub place_levels : List ℕ → (ℕ → Entry) → ℕ → ℕ → ℕ → List ℕ
place_levels s e n p i = levels_in s (firsts n e) (slots_at s e n p (leads_in s e p i n))

-- ---- a walk over child levels

-- the child levels that a walk has still before it
abbrev pub rest_of : List ℕ → (ℕ → Entry) → ℕ → Turn → List ℕ
rest_of s e n (turn.Places l i) = place_levels s e n l.parent i
rest_of s e n (turn.Elements p k i) = levels_of s (firsts n e) (drop k (elements_of s (firsts n e) p))
rest_of s e n turn.Over = []

-- places are looked for in the level's run; entry i is element number k, whatever the file
abbrev pub Standing : List ℕ → (ℕ → Entry) → ℕ → Turn → Type 0
Standing s e n (turn.Places l i) = Knows s e n l × (l.parent ≤ i)
Standing s e n (turn.Elements p k i) = (i < n) × ((s : List ℕ) → get_elem? (elements_of s (firsts n e) p) k ≡ some i)
Standing s e n turn.Over = Unit

-- a walk stands where the child levels l are still before it
pub record Walk (s : List ℕ) (e : ℕ → Entry) (n : ℕ) (l : List ℕ) (t : Turn) : Type 0 where
  pub good : Standing s e n t
  pub rest : l ≡ rest_of s e n t

-- how many elements a walk has still before it
abbrev pub left_of : List ℕ → (ℕ → Entry) → ℕ → Turn → ℕ
left_of s e n (turn.Places l i) = 0
left_of s e n (turn.Elements p k i) = length (elements_of s (firsts n e) p) - k
left_of s e n turn.Over = 0

-- a walk after element number k of the list p
pub record Behind (s : List ℕ) (e : ℕ → Entry) (n p k : ℕ) (t : Turn) : Type 0 where
  pub walk : Walk s e n (levels_of s (firsts n e) (drop (k + 1) (elements_of s (firsts n e) p))) t
  pub less : left_of s e n t ≤ length (elements_of s (firsts n e) p) - (k + 1)

-- the first of the child levels l, and where the walk stands after it
abbrev pub NextOf : List ℕ → (ℕ → Entry) → ℕ → List ℕ → std.Option (ℕ × Turn) → Type 0
NextOf s e n l (std.Some (i, t)) = (i < n) × Standing s e n t × (l ≡ i ∷ rest_of s e n t)
NextOf s e n l std.None = l ≡ []
