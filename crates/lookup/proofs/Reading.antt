-- The table that a tree was read into has what the lookups ask of it. Assumes nothing.
use Prim.Native.Nat.{ℕ, zero, suc, ◌+◌, ◌*◌, ◌/◌, ◌^◌, ◌≤◌, ◌<◌}
use mathlib.Core.Path.{◌≡◌, sym, ap, ◌∙◌, subst}
use mathlib.Core.Option.{some, some-injective}
use mathlib.Core.List.{List, [], ◌∷◌, ◌++◌}
use native.Mathlib.Omega.{arith}
use lib.ListN.{length, get_elem?, take, drop, length-append, length-take, length-drop, take-append-drop}
use Rattle.format.proofs.Ground.Answers.{none≢some}
use Rattle.format.proofs.Trees.Forest.{Forest, forest_placed, forest_nested, forest_rising, forest_inside, forest_outside, tree_forest}
use Rattle.format.proofs.Trees.MostEntries.{suffices}
use Rattle.format.proofs.Trees.Tables.{length_table, entries_back}
use Rattle.format.specs.Table.{AllFit}
use Rattle.format.proofs.Trees.ByRules.{tree_read}
use Rattle.format.specs.Bytes.{part}
use Rattle.format.specs.Chunks.{data_in}
use Rattle.format.specs.Grammar.Trees.{Tree}
use Rattle.format.specs.Trees.{Read, at, read, tree_in, table_bytes}
use Rattle.format.specs.declared.Entry.{Entry}
use Rattle.format.specs.declared.Range.{Range}
use Rattle.lookup.specs.Table.{entry_in, entries_in, Holds}
use Rattle.lookup.proofs.Rows.{get_elem_firsts}
use Rattle.lookup.proofs.Extents.{Entered, AllEntered, records_entered}

-- ---- a tree's entries

-- the numbers of entries that lie in a file and a table fit 64 bits
module _ (n m : ℕ) (small-file : n < 2 ^ 64) (small-table : m < 2 ^ 64) where
  entered_fit : (es : List Entry) → AllEntered n m es → AllFit es
  entered_fit [] f = tt
  entered_fit (e ∷ es) (f, fs) = (
    record {
      kind = omega (arith, f.kind);
      name = omega (arith, f.lies.name);
      units = omega (arith, f.lies.name);
      value = omega (arith, f.lies.value);
      size = omega (arith, f.lies.value);
      parent = omega (arith, f.parent);
    },
    entered_fit es fs,
  )

entered_at : (n m : ℕ) (es : List Entry) (i : ℕ) (x : Entry) → AllEntered n m es → get_elem? es i ≡ some x → Entered n m x
entered_at n m [] i x f h = absurd (none≢some h)
entered_at n m (e ∷ es) zero x f h = let z : e ≡ x = cc in subst (Entered n m) z f.0
entered_at n m (e ∷ es) (suc i) x f h = entered_at n m es i x f.1 h

-- what the lookups ask, and what they then read
pub record Ready (file table : List ℕ) (es : List Entry) : Type 0 where
  pub holds : Holds file table (length es)
  pub entries : entries_in table (length es) ≡ es

tree_ready : (s : List ℕ) (r : Range) (es : List Entry) (ys : List ℕ) → length s < 2 ^ 64 → r.start + r.len ≤ length s → length es ≤ r.len / 2 → Tree s r es
    → Ready s (table_bytes es ++ ys) es
unfolding part
tree_ready s r es ys small within few t =
    record {
      holds =
          record {
            rows =
                record {
                  room = rw (length-append, length_table) (omega arith);
                  order =
                      record {
                        older = λ i l. let h = (forest_placed 0 0 es i _ g (omega arith) (entry i l)).old in omega arith;
                        nested = λ p i k a b c d e. forest_nested 0 0 es p i k _ _ g (omega arith) (entry i (omega arith)) (entry k c) b (omega arith) d e;
                        rising = λ i k a b. forest_rising es i k _ _ g a (entry i (omega arith)) (entry k b);
                        inside = λ i k a b c. forest_inside 0 0 es i k _ _ g (omega arith) a (entry i (omega arith)) (entry k b) (between i k b c);
                        outside = λ i k a b c. forest_outside 0 0 es i k _ _ g (omega arith) a (entry i (omega arith)) (entry k b) (omega arith);
                      };
                  short = λ i l. let h = (entered_at (length s) (length es) es i _ f (entry i l)).lies.value in omega arith;
                };
            lie = λ i l. (entered_at (length s) (length es) es i _ f (entry i l)).lies;
          };
      entries = back;
    }
  where
    g : Forest (r.start + 0) (r.start + length (data_in s r)) 0 0 es
    g = tree_forest s r es t

    data_length : r.start + length (data_in s r) ≤ length s
    data_length = rw (length-take, length-drop) (omega arith)

    f : AllEntered (length s) (length es) es
    f =
        records_entered (data_in s r) r.start (length s) (length es) data_length _ 0 1 0 0 _ es t.place_after t.record_at_0 (omega arith)
        (omega arith) (omega arith)

    back : entries_in (table_bytes es ++ ys) (length es) ≡ es
    back = entries_back es ys (entered_fit (length s) (length es) small (omega arith) es f)

    entry : (i : ℕ) → i < length es → get_elem? es i ≡ some (entry_in (table_bytes es ++ ys) i)
    entry i l = ap (λ (x : List Entry). get_elem? x i) (sym back) ∙ get_elem_firsts (length es) (entry_in (table_bytes es ++ ys)) i l

    between : (i k : ℕ) → k < length es → ((j : ℕ) → i < j → j ≤ k → i < (entry_in (table_bytes es ++ ys) j).parent) → (j : ℕ) (z : Entry) → i < j → j ≤ k
        → get_elem? es j ≡ some z → 0 + i < z.parent
    between i k l h j z a b q =
        let w : entry_in (table_bytes es ++ ys) j ≡ z = some-injective _ z (sym (entry j (omega arith)) ∙ q) in
        rw (← w) (omega (arith, h j a b))

-- a table of no entries has it too
pub holds_none : (file table : List ℕ) → Holds file table 0
holds_none file table =
    record {
      rows =
          record {
            room = omega arith;
            order =
                record {
                  older = λ i l. absurd (omega arith);
                  nested = λ p i k a b l. absurd (omega arith);
                  rising = λ i k a l. absurd (omega arith);
                  inside = λ i k a l. absurd (omega arith);
                  outside = λ i k a l. absurd (omega arith);
                };
            short = λ i l. absurd (omega arith);
          };
      lie = λ i l. absurd (omega arith);
    }

-- a tree that was read whole in a part of a file, at the front of a table
pub holds_read : (s : List ℕ) (r : Range) (es : List Entry) (p : ℕ) (t : List ℕ) → length s < 2 ^ 64 → r.start + r.len ≤ length s
    → read (data_in s r) r.start ≡ record { entries = es; stop = at p } → take (48 * length es) t ≡ table_bytes es → Ready s t es
unfolding tree_in
holds_read s r es p t small within e q =
    let a : (tree_in s r).entries ≡ es = ap (λ (x : Read). x.entries) e in
    let b : (tree_in s r).stop ≡ at p = ap (λ (x : Read). x.stop) e in
    let few : length es ≤ r.len / 2 = rw a at (suffices s r) in
    let tree : Tree s r es = rw a at (tree_read s r p b) in
    let z : table_bytes es ++ drop (48 * length es) t ≡ t = rw (← q) (take-append-drop (48 * length es) t) in
    rw z at (tree_ready s r es (drop (48 * length es) t) small within few tree)
