-- The grammar's map is the one that is read; the map read on from a place, and the last entry of a name; where the map's data is. Assumes nothing.
use Prim.Native.Nat.{ℕ, zero, suc, ◌+◌, ◌-◌, ◌≤◌, ◌<◌}
use mathlib.Core.Path.{◌≡◌, refl, sym, ap, ◌∙◌}
use mathlib.Core.Bool.{Bool, true, false, cond, true≢false}
use mathlib.Core.Option.{Option, none, some, or_else}
use mathlib.Core.List.{List, [], ◌∷◌, ◌++◌}
use native.Mathlib.Omega.{arith}
use lib.Dec.{ltb, eqb}
use lib.ListN.{length, get_or, drop, length-drop}
use lib.Seq.{get_or-drop}
use borrow.Author.Tests.{ltb-false, lt-ltb, le-ltb, eqb-true, eqb-false, eq-eqb, ne_eqb}
use Rattle.format.proofs.Ground.Tests.{same_true, true_same, false_same}
use Rattle.format.proofs.Ground.Answers.{refused≢given, refuse_if_given, and_then_given, given_inj, not_refused, go_on, none≢some, Numbered}
use Rattle.format.proofs.Ground.Answers.{answer, refusal, refuse_if_numbered, and_then_numbered}
use Rattle.format.specs.Answer.{Answer, refused, given, refuse_if, and_then}
use Rattle.format.specs.Refusals as why
use Rattle.format.specs.Bytes.{le_at, part, same}
use Rattle.format.specs.Map.{MapEntry, offset_of, through, prepend, end_mark, most_entries, through_mark, entry_then, map_step, map_from, map_entries}
use Rattle.format.specs.Map.{map_range, map_name}
use Rattle.format.specs.Chunks.{chunk_mark, chunk_data}
use Rattle.format.specs.declared.Range.{Range}
use Rattle.format.specs.Grammar.Map.{Name, Entries, ended, entry, MapOf, Unlisted, Listed, last, later}
use Rattle.format.specs.Grammar.Map.{nil, cons}

-- the first '!' of s comes after k bytes
record First (s : List ℕ) (k : ℕ) : Type 0 where
  name_within : k < length s
  mark : get_or s k 0 ≡ 33
  none_before : (j : ℕ) → j < k → get_or s j 0 ≡ 33 → ⊥

through_first : (s : List ℕ) (n : ℕ) → through_mark s ≡ some n → (k : ℕ) × (n ≡ suc k) × First s k
unfolding through_mark
through_first [] n e = absurd (none≢some e)
through_first (b ∷ s) n e = go (eqb b 33) refl (through_mark s) (through_first s) e
  where
    first : eqb b 33 ≡ true → First (b ∷ s) 0
    first q = record { name_within = omega arith; mark = eqb-true b 33 q; none_before = λ j h _. omega arith }

    next : (k : ℕ) → eqb b 33 ≡ false → First s k → First (b ∷ s) (suc k)
    next k q f = record { name_within = omega arith; mark = f.mark; none_before = before }
      where
        before : (j : ℕ) → j < suc k → get_or (b ∷ s) j 0 ≡ 33 → ⊥
        before zero h e = eqb-false b 33 q e
        before (suc j) h e = f.none_before j (omega arith) e

    go : (t : Bool) → eqb b 33 ≡ t → (r : Option ℕ) → ((n : ℕ) → r ≡ some n → (k : ℕ) × (n ≡ suc k) × First s k) → through t r ≡ some n
        → (k : ℕ) × (n ≡ suc k) × First (b ∷ s) k
    go true q r f e = (0, (cc), first q)
    go false q none f e = absurd (none≢some e)
    go false q (some k) f e = let p = f k refl in (k, (cc), rw p.1 (next p.0 q p.2))

first_through : (s : List ℕ) (k : ℕ) → First s k → through_mark s ≡ some (suc k)
unfolding through_mark
first_through [] k f = absurd (omega (arith, f.name_within))
first_through (b ∷ s) zero f = rw (eq-eqb b 33 f.mark) refl
first_through (b ∷ s) (suc k) f =
    rw (
      ne_eqb b 33 (f.none_before 0 (omega arith)),
      first_through s k (record {
        name_within = omega (arith, f.name_within);
        mark = f.mark;
        none_before = λ j h. f.none_before (suc j) (omega arith);
      }),
    ) refl

module _ (m : List ℕ) (at k : ℕ) where
  first_name : First (drop at m) k → Name m at k
  first_name f =
      let h : k < length (drop at m) = f.name_within in
      record {
        name_within = let h₂ = rw length-drop at h in omega arith;
        mark = rw get_or-drop at f.mark;
        none_before = λ j l e. f.none_before j l (rw get_or-drop e);
      }

  name_first : Name m at k → First (drop at m) k
  name_first n =
      record {
        name_within = rw length-drop (omega (arith, n.name_within));
        mark = rw get_or-drop n.mark;
        none_before = λ j l e. n.none_before j l (rw get_or-drop at e);
      }

-- what reads on after an entry, where there is room for one more
data Source (m : List ℕ) : ℕ → Option (ℕ → Answer (List MapEntry)) → Type 0 where
  full : Source m 0 none
  free : {room : ℕ} {f : ℕ → Answer (List MapEntry)} → ((p : ℕ) (es : List MapEntry) → f p ≡ given es → Entries m p es × (length es ≤ room))
      → Source m (suc room) (some f)

step_read : (more : Option (ℕ → Answer (List MapEntry))) (room : ℕ) (m : List ℕ) (at : ℕ) (es : List MapEntry) → Source m room more
    → map_step more m at (through_mark (drop at m)) ≡ given es → Entries m at es × (length es ≤ room)
unfolding map_step
step_read more room m at es src e = go (through_mark (drop at m)) refl e
  where
    last : (k : ℕ) → Name m at k → same (part m at (suc k)) end_mark ≡ true → [] ≡ es → Entries m at es × (length es ≤ room)
    last k n b e = rw (← e) (ended k n (same_true _ _ b), omega arith)

    inner : (more : Option (ℕ → Answer (List MapEntry))) (room k : ℕ) (b : Bool) → Source m room more → Name m at k → same (part m at (suc k)) end_mark ≡ b
        → entry_then more m at (suc k) b ≡ given es → Entries m at es × (length es ≤ room)
    inner more room k true src n q e = rw (← given_inj e) (ended k n (same_true _ _ q), omega arith)
    inner none room k false src n q e = absurd (refused≢given e)
    inner (some f) zero k false src n q e = elim src [ ]
    inner (some f) (suc room) k false (free g) n q e =
        let (l, e₁) = refuse_if_given (ltb (length m) (at + suc k + 16)) 5 _ e in
        let (es₂, e₂, e₃) = and_then_given (f (at + suc k + 16)) _ e₁ in
        let r = g (at + suc k + 16) es₂ e₂ in
        let fresh : part m at (suc k) ≡ end_mark → ⊥ = λ p. true≢false (sym (true_same _ _ p) ∙ q) in
        rw (← given_inj e₃) (entry k n fresh (ltb-false _ _ l) r.0, omega (arith, r.1))

    go : (r : Option ℕ) → through_mark (drop at m) ≡ r → map_step more m at r ≡ given es → Entries m at es × (length es ≤ room)
    go none q e = absurd (refused≢given e)
    go (some n) q e =
        let (k, h, f) = through_first (drop at m) n q in
        inner more room k (same (part m at (suc k)) end_mark) src (first_name m at k f) refl (rw h at e)

-- the entries that are read are those of the grammar
pub entries_read : (room : ℕ) (m : List ℕ) (at : ℕ) (es : List MapEntry) → map_from room m at ≡ given es → Entries m at es × (length es ≤ room)
unfolding map_from
entries_read zero m at es e = step_read none 0 m at es full e
entries_read (suc room) m at es e = step_read (some (map_from room m)) (suc room) m at es (free (entries_read room m)) e

pub read_entries : (room : ℕ) (m : List ℕ) (at : ℕ) (es : List MapEntry) → Entries m at es → length es ≤ room → map_from room m at ≡ given es
unfolding map_from map_step entry_then
read_entries zero m at es (ended k n e) h = rw (first_through (drop at m) k (name_first m at k n), true_same _ _ e) refl
read_entries zero m at es (entry k n e l r) h = absurd (omega arith)
read_entries (suc room) m at es (ended k n e) h = rw (first_through (drop at m) k (name_first m at k n), true_same _ _ e) refl
read_entries (suc room) m at es (entry k {es = es₂} n e l r) h =
    rw (first_through (drop at m) k (name_first m at k n), false_same _ _ e)
    (not_refused (ltb (length m) (at + suc k + 16)) 5 _ _ (le-ltb _ _ l)
    (go_on (map_from room m (at + suc k + 16)) _ es₂ (read_entries room m (at + suc k + 16) es₂ r (omega arith)) refl))

pub map_read : (m : List ℕ) (es : List MapEntry) → map_entries m ≡ given es → MapOf m es
unfolding map_entries
map_read m es e = let r = entries_read most_entries m 0 es e in record { listed = r.0; not_too_many = r.1 }

pub read_map : (m : List ℕ) (es : List MapEntry) → MapOf m es → map_entries m ≡ given es
unfolding map_entries
read_map m es r = read_entries most_entries m 0 es r.listed r.not_too_many

-- a map that is not read has the number 5
module _ (P : ℕ → Type 0) (h : P why.map) where
  data Each : Option (ℕ → Answer (List MapEntry)) → Type 0 where
    nothing : Each none
    each : {f : ℕ → Answer (List MapEntry)} → ((p : ℕ) → Numbered P (f p)) → Each (some f)

  then_numbered : (more : Option (ℕ → Answer (List MapEntry))) (m : List ℕ) (at n : ℕ) (b : Bool) → Each more → Numbered P (entry_then more m at n b)
  unfolding entry_then
  then_numbered more m at n true k = answer
  then_numbered none m at n false k = refusal h
  then_numbered (some f) m at n false (each k) =
      refuse_if_numbered (ltb (length m) (at + n + 16)) 5 _ h (and_then_numbered (f (at + n + 16)) _ (k (at + n + 16)) λ a. answer)

  step_numbered : (more : Option (ℕ → Answer (List MapEntry))) (m : List ℕ) (at : ℕ) (r : Option ℕ) → Each more → Numbered P (map_step more m at r)
  unfolding map_step
  step_numbered more m at none k = refusal h
  step_numbered more m at (some n) k = then_numbered more m at n (same (part m at n) end_mark) k

  from_numbered : (room : ℕ) (m : List ℕ) (at : ℕ) → Numbered P (map_from room m at)
  unfolding map_from
  from_numbered zero m at = step_numbered none m at (through_mark (drop at m)) nothing
  from_numbered (suc room) m at = step_numbered (some (map_from room m)) m at (through_mark (drop at m)) (each (from_numbered room m))

pub map_numbered : (m : List ℕ) (P : ℕ → Type 0) → P why.map → Numbered P (map_entries m)
unfolding map_entries
map_numbered m P h = from_numbered P h most_entries m 0

-- a map has one list of entries
pub map_unique : (m : List ℕ) (es fs : List MapEntry) → MapOf m es → MapOf m fs → es ≡ fs
map_unique m es fs x y = given_inj (sym (read_map m es x) ∙ read_map m fs y)

-- ---- the last entry of a name

unlisted_read : (m name : List ℕ) (es : List MapEntry) → offset_of m name es ≡ none → Unlisted m name es
unfolding offset_of
unlisted_read m name [] e = nil
unlisted_read m name (x ∷ es) e = go (offset_of m name es) (same (part m x.name_at x.name_len) name) refl (unlisted_read m name es) e
  where
    go : (r : Option ℕ) (b : Bool) → same (part m x.name_at x.name_len) name ≡ b → (r ≡ none → Unlisted m name es)
        → or_else r (cond b (some x.offset) none) ≡ none → Unlisted m name (x ∷ es)
    go (some o) b q f e = absurd (none≢some (sym e))
    go none true q f e = absurd (none≢some (sym e))
    go none false q f e = cons (λ p. true≢false (sym (true_same _ _ p) ∙ q)) (f refl)

read_unlisted : (m name : List ℕ) (es : List MapEntry) → Unlisted m name es → offset_of m name es ≡ none
unfolding offset_of
read_unlisted m name [] u = refl
read_unlisted m name (x ∷ es) (cons h u) = rw (read_unlisted m name es u, false_same _ _ h) refl

pub listed_read : (m name : List ℕ) (es : List MapEntry) (o : ℕ) → offset_of m name es ≡ some o → Listed m name es o
unfolding offset_of
listed_read m name [] o e = absurd (none≢some e)
listed_read m name (x ∷ es) o e =
    go (offset_of m name es) refl (same (part m x.name_at x.name_len) name) refl (listed_read m name es) e
  where
    go : (r : Option ℕ) → offset_of m name es ≡ r → (b : Bool) → same (part m x.name_at x.name_len) name ≡ b
        → ((o : ℕ) → offset_of m name es ≡ some o → Listed m name es o)
        → or_else r (cond b (some x.offset) none) ≡ some o → Listed m name (x ∷ es) o
    go (some p) z b q f e = later (f o (z ∙ e))
    go none z true q f e = let k : x.offset ≡ o = cc in rw (← k) (last (same_true _ _ q) (unlisted_read m name es z))
    go none z false q f e = absurd (none≢some e)

pub read_listed : (m name : List ℕ) (es : List MapEntry) (o : ℕ) → Listed m name es o → offset_of m name es ≡ some o
unfolding offset_of
read_listed m name es o (last {e = x} {es = fs} h u) = rw (read_unlisted m name fs u, true_same _ _ h) refl
read_listed m name es o (later {es = fs} l) = rw (read_listed m name fs o l) refl

-- ---- read on from a place

-- how many bytes there are through the first '!'
module _ (m : List ℕ) (at : ℕ) where
  pub through_name : (k : ℕ) → Name m at k → through_mark (drop at m) ≡ some (suc k)
  through_name k n = first_through (drop at m) k (name_first m at k n)

  pub through_none : ((k : ℕ) → Name m at k → ⊥) → through_mark (drop at m) ≡ none
  through_none h = by (through_mark (drop at m)) refl
    where
      by : (r : Option ℕ) → through_mark (drop at m) ≡ r → r ≡ none
      by none q = refl
      by (some n) q = let (k, _, f) = through_first (drop at m) n q in absurd (h k (first_name m at k f))

pub map_none : (room : ℕ) (m : List ℕ) (i : ℕ) → through_mark (drop i m) ≡ none → map_from room m i ≡ refused 5
unfolding map_from map_step
map_none zero m i h = rw h
map_none (suc room) m i h = rw h

module _ (m : List ℕ) (i n : ℕ) (h : through_mark (drop i m) ≡ some n) where
  pub map_end : (room : ℕ) → same (part m i n) end_mark ≡ true → map_from room m i ≡ given []
  unfolding map_from map_step entry_then
  map_end zero e = rw (h, e)
  map_end (suc room) e = rw (h, e)

  module _ (e : same (part m i n) end_mark ≡ false) where
    pub map_full : map_from 0 m i ≡ refused 5
    unfolding map_from map_step entry_then
    map_full = rw (h, e)

    pub map_cut : (room : ℕ) → length m < i + n + 16 → map_from room m i ≡ refused 5
    unfolding map_from map_step entry_then refuse_if
    map_cut zero l = rw (h, e)
    map_cut (suc room) l = rw (h, e, lt-ltb _ _ l)

    pub map_entry : (room : ℕ) → i + n + 16 ≤ length m
        → map_from (suc room) m i
        ≡ and_then (map_from room m (i + n + 16)) (prepend (record { name_at = i; name_len = n; offset = le_at 8 m (i + n); size = le_at 8 m (i + n + 8) }))
    unfolding map_from map_step entry_then refuse_if
    map_entry room l = rw (h, e, le-ltb (length m) (i + n + 16) l)

-- the offset of the last entry of a name among entries, or the one that came before them
unfoldable pub last_of : List ℕ → List ℕ → Option ℕ → Answer (List MapEntry) → Answer (Option ℕ)
unfolding or_else
last_of m name l (refused n) = refused n
last_of m name l (given es) = given (or_else (offset_of m name es) l)

pub last_start : (m name : List ℕ) (a : Answer (List MapEntry)) → (and_then a λ es. given (offset_of m name es)) ≡ last_of m name none a
unfolding last_of and_then
last_start m name (refused n) = refl
last_start m name (given es) = ap given (by (offset_of m name es))
  where
    by : (o : Option ℕ) → o ≡ or_else o none
    by none = refl
    by (some o) = refl

-- what an entry gives for a name
abbrev pub gives : Bool → ℕ → Option ℕ → Option ℕ
gives true o l = some o
gives false o l = l

pub last_entry : (m name : List ℕ) (e : MapEntry) (l : Option ℕ) (a : Answer (List MapEntry))
    → last_of m name l (and_then a (prepend e)) ≡ last_of m name (gives (same (part m e.name_at e.name_len) name) e.offset l) a
unfolding last_of and_then prepend offset_of or_else
last_entry m name e l (refused n) = refl
last_entry m name e l (given es) = ap given (by (offset_of m name es) (same (part m e.name_at e.name_len) name))
  where
    by : (o : Option ℕ) (b : Bool) → or_else (or_else o (cond b (some e.offset) none)) l ≡ or_else o (gives b e.offset l)
    by (some o) b = refl
    by none true = refl
    by none false = refl

-- what the last entry has for a name
pub offset_last : (m name : List ℕ) (es : List MapEntry) (e : MapEntry)
    → offset_of m name (es ++ e ∷ []) ≡ gives (same (part m e.name_at e.name_len) name) e.offset (offset_of m name es)
unfolding offset_of
offset_last m name [] e = by (same (part m e.name_at e.name_len) name)
  where
    by : (b : Bool) → cond b (some e.offset) none ≡ gives b e.offset none
    by true = refl
    by false = refl
offset_last m name (x ∷ es) e = rw (offset_last m name es e) (by (same (part m e.name_at e.name_len) name) (offset_of m name es))
  where
    first : Option ℕ
    first = cond (same (part m x.name_at x.name_len) name) (some x.offset) none

    by : (b : Bool) (o : Option ℕ) → or_else (gives b e.offset o) first ≡ gives b e.offset (or_else o first)
    by true o = refl
    by false o = refl

-- ---- where the map's data is

module _ (s : List ℕ) where
  pub range_short : length s < 4 → refused 1 ≡ map_range s
  unfolding map_range refuse_if
  range_short h = rw (lt-ltb _ _ h)

  module _ (h : 4 ≤ length s) where
    pub range_old : le_at 4 s 0 ≡ 0x0C000000 → refused 2 ≡ map_range s
    unfolding map_range refuse_if
    range_old e = rw (le-ltb _ _ h, eq-eqb _ _ e)

    module _ (o : le_at 4 s 0 ≡ 0x0C000000 → ⊥) where
      pub range_other : (le_at 4 s 0 ≡ chunk_mark → ⊥) → refused 1 ≡ map_range s
      unfolding map_range refuse_if
      range_other e = rw (le-ltb _ _ h, ne_eqb _ _ o, ne_eqb _ _ e)

      module _ (m : le_at 4 s 0 ≡ chunk_mark) where
        pub range_bare : length s < 40 → refused 3 ≡ map_range s
        unfolding map_range refuse_if
        range_bare l = rw (le-ltb _ _ h, ne_eqb _ _ o, eq-eqb _ _ m, lt-ltb _ _ l)

        module _ (l : 40 ≤ length s) where
          pub range_none : same (part s (length s - 40) 32) end_mark ≡ false → refused 3 ≡ map_range s
          unfolding map_range refuse_if
          range_none e = rw (le-ltb _ _ h, ne_eqb _ _ o, eq-eqb _ _ m, le-ltb _ _ l, e)

          pub range_chunk : same (part s (length s - 40) 32) end_mark ≡ true → {a : Answer Range} {k : ℕ} → k ≡ le_at 8 s (length s - 8)
              → a ≡ chunk_data why.chunk map_name s k → a ≡ map_range s
          unfolding map_range refuse_if
          range_chunk e q r = rw (le-ltb _ _ h, ne_eqb _ _ o, eq-eqb _ _ m, le-ltb _ _ l, e, ← q) r
