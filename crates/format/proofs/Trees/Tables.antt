-- The bytes of a tree's entries, what a table makes of a reading, and the entries that stand in it. Assumes nothing.
use Prim.Native.Nat.{ℕ, zero, suc, ◌+◌, ◌-◌, ◌*◌, ◌/◌, ◌%◌, ◌^◌, ◌≤◌, ◌<◌}
use mathlib.Core.Path.{◌≡◌, refl, sym, ap, ◌∙◌}
use mathlib.Core.Bool.{Bool, true, false}
use mathlib.Core.Option.{some}
use mathlib.Core.List.{List, [], ◌∷◌, ◌++◌, append_assoc}
use native.Mathlib.Omega.{arith}
use native.Mathlib.Nat.{add-zero, zero-add, mod-lt, mod-eq_of_lt}
use borrow.Author.Tests.{le-leb, lt-leb, ltb-true, ltb-false}
use lib.Dec.{lit<, ltb}
use lib.ListN.{length, drop, replicate, get_or, get_elem?, length-append, length-drop, length-replicate}
use lib.Seq.{sets, sets-eq, get_or-append-add, get_or-drop, ext_get_or}
use Rattle.format.proofs.Ground.Answers.{none≢some}
use Rattle.format.proofs.Ground.Bytes.{le_after, le_before, le_le_bytes, le_bytes_length, le_bytes_low, sets_append, AllBytes, bytes_append, le_bytes_is}
use Rattle.format.specs.Bytes.{le_at, le_bytes, over, zeros}
use Rattle.format.specs.Refusals as why
use Rattle.format.specs.Trees.{fault, Read, within, entry_bytes, table_bytes}
use Rattle.format.specs.Table.{entry_in, firsts, entries_in, Fit, AllFit}
use Rattle.format.specs.Refused.Tree.{EntryAt, Tabled}
use Rattle.format.specs.declared.Entry.{Entry}

pub length_entry : (e : Entry) → length (entry_bytes e) ≡ 48
unfolding entry_bytes
length_entry e = simp length-append

pub length_table : (es : List Entry) → length (table_bytes es) ≡ 48 * length es
unfolding table_bytes
length_table [] = refl
length_table (e ∷ es) = rw (length-append, length_entry, length_table es) (omega arith)

pub table_append : (xs ys : List Entry) → table_bytes (xs ++ ys) ≡ table_bytes xs ++ table_bytes ys
unfolding table_bytes
table_append [] ys = refl
table_append (x ∷ xs) ys = rw (table_append xs ys, append_assoc)

-- an entry's six numbers, stored one after the other
pub sets_entry : (t : List ℕ) (i : ℕ) (e : Entry)
    → sets t i (entry_bytes e)
    ≡ sets (sets (sets (sets (sets (sets t i (le_bytes 8 e.kind)) (i + 8) (le_bytes 8 e.name)) (i + 16) (le_bytes 8 e.units)) (i + 24)
    (le_bytes 8 e.value)) (i + 32) (le_bytes 8 e.size)) (i + 40) (le_bytes 8 e.parent)
unfolding entry_bytes
sets_entry t i e = simp (sets_append, length-append, le_bytes_length)

-- stored from the start
pub sets_over : (xs l : List ℕ) → length xs ≤ length l → sets l 0 xs ≡ over xs l
unfolding over
sets_over xs l h = rw (sets-eq xs l 0 (omega arith), zero-add)

-- ---- what a table of `room` entries makes of a reading

module _ (room : ℕ) (r : Read) where
  pub within_whole : length r.entries ≤ room → within room r ≡ r
  unfolding within
  within_whole h = rw (le-leb (length r.entries) room h)

  pub within_full : room < length r.entries → (within room r).stop ≡ fault why.table
  unfolding within
  within_full h = rw (lt-leb (length r.entries) room h)

-- ---- entries that are stored in a table are those that stand in it

-- the number in the first eight bytes, of which they keep 64 bits, and past the first eight
here : (v : ℕ) (ys : List ℕ) → le_at 8 (le_bytes 8 v ++ ys) 0 ≡ v % 2 ^ 64
here v ys =
    le_before 8 (le_bytes 8 v) ys 0 (rw le_bytes_length (omega arith))
    ∙ (ap (λ (l : List ℕ). le_at 8 l 0) (sym (le_bytes_low 8 v)) ∙ le_le_bytes 8 (v % 2 ^ 64) (mod-lt v (lit< tt)))

past : (v : ℕ) (ys : List ℕ) (i : ℕ) → le_at 8 (le_bytes 8 v ++ ys) (8 + i) ≡ le_at 8 ys i
past v ys i = ap (λ (n : ℕ). le_at 8 (le_bytes 8 v ++ ys) (n + i)) (sym (le_bytes_length 8 v)) ∙ le_after 8 (le_bytes 8 v) ys i

-- the first entry, and the later ones
entry_here : (e : Entry) (ys : List ℕ) → EntryAt (entry_bytes e ++ ys) 0 e
unfolding entry_bytes
entry_here e ys =
    let a = e.kind in
    let b = e.name in
    let c = e.units in
    let d = e.value in
    let g = e.size in
    record {
      kind = simp append_assoc (here a _);
      name = simp append_assoc (past a _ 0 ∙ here b _);
      units = simp append_assoc (past a _ 8 ∙ past b _ 0 ∙ here c _);
      value = simp append_assoc (past a _ 16 ∙ past b _ 8 ∙ past c _ 0 ∙ here d _);
      size = simp append_assoc (past a _ 24 ∙ past b _ 16 ∙ past c _ 8 ∙ past d _ 0 ∙ here g _);
      parent = simp append_assoc (past a _ 32 ∙ past b _ 24 ∙ past c _ 16 ∙ past d _ 8 ∙ past g _ 0 ∙ here e.parent ys);
    }

entry_first : (e : Entry) (ys : List ℕ) → Fit e → entry_in (entry_bytes e ++ ys) 0 ≡ e
unfolding entry_in
entry_first e ys f =
    let x = entry_here e ys in
    let p0 = x.kind ∙ mod-eq_of_lt f.kind in
    let p1 = x.name ∙ mod-eq_of_lt f.name in
    let p2 = x.units ∙ mod-eq_of_lt f.units in
    let p3 = x.value ∙ mod-eq_of_lt f.value in
    let p4 = x.size ∙ mod-eq_of_lt f.size in
    let p5 = x.parent ∙ mod-eq_of_lt f.parent in
    λ k. record { kind = p0 k; name = p1 k; units = p2 k; value = p3 k; size = p4 k; parent = p5 k }

entry_later : (e : Entry) (ys : List ℕ) (i : ℕ) → entry_in (entry_bytes e ++ ys) (suc i) ≡ entry_in ys i
unfolding entry_in
entry_later e ys i =
    let q : (j : ℕ) → le_at 8 (entry_bytes e ++ ys) (48 * suc i + j) ≡ le_at 8 ys (48 * i + j) =
    λ j. ap (le_at 8 (entry_bytes e ++ ys)) (let x : 48 * suc i + j ≡ length (entry_bytes e) + (48 * i + j) = rw length_entry (omega arith) in x)
    ∙ le_after 8 (entry_bytes e) ys (48 * i + j) in
    let q0 : le_at 8 (entry_bytes e ++ ys) (48 * suc i) ≡ le_at 8 ys (48 * i) = simp add-zero at (q 0) in
    λ k. record { kind = q0 k; name = q 8 k; units = q 16 k; value = q 24 k; size = q 32 k; parent = q 40 k }

-- rows that agree, and a row with one in front
firsts_agree : (n : ℕ) (e f : ℕ → Entry) → ((i : ℕ) → e i ≡ f i) → firsts n e ≡ firsts n f
unfolding firsts
firsts_agree zero e f h = refl
firsts_agree (suc n) e f h = rw (firsts_agree n e f h, h n)

firsts_cons : (n : ℕ) (e : ℕ → Entry) → firsts (suc n) e ≡ e 0 ∷ firsts n (λ i. e (suc i))
unfolding firsts
firsts_cons zero e = refl
firsts_cons (suc n) e = ap (λ (l : List Entry). l ++ e (suc n) ∷ []) (firsts_cons n e)

-- all of them
pub entries_back : (es : List Entry) (ys : List ℕ) → AllFit es → entries_in (table_bytes es ++ ys) (length es) ≡ es
unfolding table_bytes firsts
entries_back [] ys f = refl
entries_back (e ∷ es) ys f =
    let t : (entry_bytes e ++ table_bytes es) ++ ys ≡ entry_bytes e ++ (table_bytes es ++ ys) = append_assoc (entry_bytes e) (table_bytes es) ys in
    let a = entry_first e (table_bytes es ++ ys) f.0 in
    let b = firsts_agree (length es) (λ i. entry_in (entry_bytes e ++ (table_bytes es ++ ys)) (suc i)) (entry_in (table_bytes es ++ ys))
    (entry_later e (table_bytes es ++ ys)) in
    ap (λ (x : List ℕ). entries_in x (suc (length es))) t ∙ firsts_cons (length es) (entry_in (entry_bytes e ++ (table_bytes es ++ ys)))
    ∙ ap (λ (x : Entry). x ∷ firsts (length es) (λ i. entry_in (entry_bytes e ++ (table_bytes es ++ ys)) (suc i))) a
    ∙ ap (λ (l : List Entry). e ∷ l) (b ∙ entries_back es ys f.1)

-- ---- what an accepted tree leaves in the table

-- an entry behind another
entry_behind : (x e : Entry) (ys : List ℕ) (i : ℕ) → EntryAt ys i e → EntryAt (entry_bytes x ++ ys) (48 + i) e
entry_behind x e ys i a =
    record {
      kind = after i ∙ a.kind;
      name = at 8 ∙ a.name;
      units = at 16 ∙ a.units;
      value = at 24 ∙ a.value;
      size = at 32 ∙ a.size;
      parent = at 40 ∙ a.parent;
    }
  where
    after : (j : ℕ) → le_at 8 (entry_bytes x ++ ys) (48 + j) ≡ le_at 8 ys j
    after j = ap (λ (n : ℕ). le_at 8 (entry_bytes x ++ ys) (n + j)) (sym (length_entry x)) ∙ le_after 8 (entry_bytes x) ys j

    at : (j : ℕ) → le_at 8 (entry_bytes x ++ ys) (48 + i + j) ≡ le_at 8 ys (i + j)
    at j = let z : 48 + i + j ≡ 48 + (i + j) = omega arith in rw z (after (i + j))

entry_stands : (es : List Entry) (ys : List ℕ) (k : ℕ) (e : Entry) → get_elem? es k ≡ some e → EntryAt (table_bytes es ++ ys) (48 * k) e
unfolding table_bytes
entry_stands [] ys k e q = absurd (none≢some q)
entry_stands (x ∷ es) ys zero e q =
    let z : x ≡ e = cc in
    rw (← z, append_assoc) (entry_here x (table_bytes es ++ ys))
entry_stands (x ∷ es) ys (suc k) e q =
    let z : 48 * suc k ≡ 48 + 48 * k = omega arith in
    rw (z, append_assoc) (entry_behind x e (table_bytes es ++ ys) (48 * k) (entry_stands es ys k e q))

table_bytes_is : (es : List Entry) → AllBytes (table_bytes es)
unfolding table_bytes entry_bytes
table_bytes_is [] = unfold AllBytes in λ i. omega arith
table_bytes_is (e ∷ es) =
    let a = le_bytes 8 e.kind in
    let b = le_bytes 8 e.name in
    let c = le_bytes 8 e.units in
    let d = le_bytes 8 e.value in
    let f = le_bytes 8 e.size in
    bytes_append (entry_bytes e) (table_bytes es)
    (bytes_append (a ++ b ++ c ++ d ++ f) (le_bytes 8 e.parent)
    (bytes_append (a ++ b ++ c ++ d) f
    (bytes_append (a ++ b ++ c) d
    (bytes_append (a ++ b) c (bytes_append a b (le_bytes_is 8 e.kind) (le_bytes_is 8 e.name)) (le_bytes_is 8 e.units))
    (le_bytes_is 8 e.value)) (le_bytes_is 8 e.size)) (le_bytes_is 8 e.parent)) (table_bytes_is es)

zeros_at : (n i : ℕ) → ◌≡◌ {A = ℕ} (get_or (replicate n 0) i 0) 0
zeros_at zero i = refl
zeros_at (suc n) zero = refl
zeros_at (suc n) (suc i) = zeros_at n i

pub tabled : (es : List Entry) (n : ℕ) → 48 * length es ≤ n → Tabled es n (over (table_bytes es) (zeros n))
unfolding over zeros
tabled es n h =
    record {
      entry = entry_stands es rest;
      fits = h;
      rest_zero = λ i l.
          let z : i ≡ length (table_bytes es) + (i - 48 * length es) = rw length_table (omega arith) in
          rw z (get_or-append-add (table_bytes es) rest (i - 48 * length es) 0 ∙ zero_rest (i - 48 * length es));
      bytes = unfold AllBytes in bytes_append (table_bytes es) rest (table_bytes_is es) λ i. rw (zero_rest i) (omega arith);
      length_kept = rw (length-append, length-drop, length-replicate, length_table) (omega arith);
    }
  where
    rest : List ℕ
    rest = drop (length (table_bytes es)) (replicate n 0)

    zero_rest : (i : ℕ) → get_or rest i 0 ≡ 0
    zero_rest i = get_or-drop (length (table_bytes es)) (replicate n 0) i 0 ∙ zeros_at n (length (table_bytes es) + i)

-- ---- and of no other list

-- equal numbers have equal bytes
same_bytes : (n : ℕ) (s t : List ℕ) (i : ℕ) → AllBytes s → AllBytes t → le_at n s i ≡ le_at n t i → (k : ℕ) → k < n → get_or s (i + k) 0 ≡ get_or t (i + k) 0
unfolding le_at AllBytes
same_bytes zero s t i a b e k h = absurd (omega arith)
same_bytes (suc n) s t i a b e zero h = let z : i + 0 ≡ i = omega arith in rw z (omega (arith, a i, b i))
same_bytes (suc n) s t i a b e (suc k) h =
    let z : i + suc k ≡ suc i + k = omega arith in
    let f : le_at n s (suc i) ≡ le_at n t (suc i) = omega (arith, a i, b i) in
    rw z (same_bytes n s t (suc i) a b f k (omega arith))

some_entry : (es : List Entry) (k : ℕ) → k < length es → (e : Entry) × (get_elem? es k ≡ some e)
some_entry [] k h = absurd (omega arith)
some_entry (e ∷ es) zero h = (e, refl)
some_entry (e ∷ es) (suc k) h = some_entry es k (omega arith)

-- the six numbers of an entry
same_numbers : (s t : List ℕ) (i : ℕ) (e : Entry) → EntryAt s i e → EntryAt t i e → (j : ℕ) → j < 6 → le_at 8 s (i + 8 * j) ≡ le_at 8 t (i + 8 * j)
same_numbers s t i e x y zero h = let z : i + 8 * 0 ≡ i = omega arith in rw z (x.kind ∙ sym y.kind)
same_numbers s t i e x y (suc zero) h = x.name ∙ sym y.name
same_numbers s t i e x y (suc (suc zero)) h = x.units ∙ sym y.units
same_numbers s t i e x y (suc (suc (suc zero))) h = x.value ∙ sym y.value
same_numbers s t i e x y (suc (suc (suc (suc zero)))) h = x.size ∙ sym y.size
same_numbers s t i e x y (suc (suc (suc (suc (suc zero))))) h = x.parent ∙ sym y.parent
same_numbers s t i e x y (suc (suc (suc (suc (suc (suc j)))))) h = absurd (omega arith)

pub tabled_unique : (es : List Entry) (n : ℕ) (s t : List ℕ) → Tabled es n s → Tabled es n t → s ≡ t
tabled_unique es n s t x y = ext_get_or 0 s t (x.length_kept ∙ sym y.length_kept) λ i h. go i (ltb i (48 * length es)) refl
  where
    go : (i : ℕ) (b : Bool) → ltb i (48 * length es) ≡ b → get_or s i 0 ≡ get_or t i 0
    go i false q = let l = ltb-false i (48 * length es) q in x.rest_zero i l ∙ sym (y.rest_zero i l)
    go i true q =
        let l = ltb-true i (48 * length es) q in
        let k = i / 48 in
        let j = (i - 48 * k) / 8 in
        let (e, there) = some_entry es k (omega arith) in
        let m = same_numbers s t (48 * k) e (x.entry k e there) (y.entry k e there) j (omega arith) in
        let z : 48 * k + 8 * j + (i - 48 * k - 8 * j) ≡ i = omega arith in
        rw z at (same_bytes 8 s t (48 * k + 8 * j) (unfold AllBytes in x.bytes) (unfold AllBytes in y.bytes) m (i - 48 * k - 8 * j) (omega arith))
