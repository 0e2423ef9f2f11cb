-- A tree call's number is what its first stage that refuses gives, and what its table holds. Assumes nothing.
use Prim.Native.Nat.{ℕ, ◌≤◌, ◌<◌}
use mathlib.Core.Path.{◌≡◌, refl, sym, ap, ◌∙◌, subst}
use mathlib.Core.Bool.{Bool, true, false, cond, ◌&&◌}
use mathlib.Core.List.{List, [], ◌∷◌, ◌++◌, map as each}
use native.Mathlib.Omega.{arith}
use lib.Dec.{ltb, leb, lit<}
use lib.ListN.{length, take}
use borrow.Author.Tests.{ltb-true, leb-true, leb-false, lt-leb}
use Rattle.format.proofs.Ground.Tests.{and_left, and_right}
use Rattle.format.proofs.Ground.Answers.{refuse_if_given, and_then_given, go_on, none≢some}
use Rattle.format.proofs.Ground.Lists.{all_in, in_left, in_right, in_map}
use Rattle.format.proofs.Trees.PickedReading.{whole_read}
use Rattle.format.proofs.Ground.Orders.{all_by}
use Rattle.format.proofs.Ground.Stages.{DecidesAt, stops, gives, goes, tests, needs, stage_one, decides_then, decides_map}
use Rattle.format.proofs.Ground.Stages.{decides_first, decides_given, accepted_at}
use Rattle.format.proofs.Map.Chunks.{chunk_decides, chunk_once, chunk_staged}
use Rattle.format.proofs.Map.Entries.{map_read, read_map, map_numbered}
use Rattle.format.proofs.Files.SummaryTest.{sound_read, unsound as unsound-read}
use Rattle.format.proofs.Trees.ByRules.{tree_faults, tree_read, fault_read, read_fault, fault_number, passed_read, read_passed, at≢fault, fault_inj}
use Rattle.format.proofs.Trees.Tables.{tabled}
use Rattle.format.proofs.Map.LookedUp.{entry_read, read_entry, entry_once, data_read, read_data, data_once}
use Rattle.format.specs.Answer.{Answer, refused, given, number_of}
use Rattle.format.specs.Bytes.{zeros}
use Rattle.format.specs.Refusals as why
use Rattle.format.specs.Chunks.{chunk_data}
use Rattle.format.specs.Map.{MapEntry, map_entries, offset_of, named_chunk}
use Rattle.format.specs.Trees.{Stop, at, fault as faultAt, Read, tree_in, room_in, within, whole_tree, tree_entries, named_tree}
use Rattle.format.specs.Summary.{bad_summary, map_of}
use Rattle.format.specs.Calls.Tree.{tree_named, tree_by, tree_call}
use Rattle.format.specs.Grammar.Lists.{In, here, behind}
use Rattle.format.specs.Grammar.Map.{MapOf}
use Rattle.format.specs.Grammar.Trees.{Tree, Faulty}
use Rattle.format.specs.Refused.Order.{FirstAt}
use Rattle.format.specs.Refused.Summary.{Sound}
use Rattle.format.specs.Refused.Chunk.{ChunkStage, chunk_order, ChunkRefusal, no_head, misnamed, no_data}
use Rattle.format.specs.Refused.Tree.{NameEntry, NameData, TableShort, TreeStage, summary, map, entry, chunk, table, fault, tree_order, Tabled}
use Rattle.format.specs.Refused.Tree.{TreeRefusal, unsound, no_map, no_entry, no_chunk, table_short, tree_fault}
use Rattle.format.specs.Sentences.{AcceptedUnless, AtSome, NameAstray}
use Rattle.format.specs.declared.Range.{Range}
use Rattle.format.specs.declared.Entry.{Entry}
use Rattle.format.specs.declared.Summary.{Summary}

module _ (s : List ℕ) (u : Summary) (name : List ℕ) (room : ℕ) where
  abbrev R : TreeStage → ℕ → Type 0
  R = TreeRefusal s u name room

  -- no number refuses at this stage
  abbrev Passes : TreeStage → Type 0
  Passes a = (n : ℕ) → R a n → ⊥

  -- ---- what the stages say

  summary_passes : Sound s u → Passes summary
  summary_passes g n (unsound f) = f g

  map_passes : (es : List MapEntry) → MapOf (map_of s u) es → Passes map
  map_passes es x n (no_map f) = f es x

  entry_passes : (o : ℕ) → NameEntry s u name o → Passes entry
  entry_passes o x n (no_entry f) = f o x

  says_chunk : (o : ℕ) → NameEntry s u name o → (a : ChunkStage) (n : ℕ) → R (chunk a) n → ChunkRefusal name s o a n
  says_chunk o x a n (no_chunk {o = k} y c) = rw (entry_once s u name k o y x) at c

  table_passes : (r : Range) → NameData s u name r → length (tree_in s r).entries ≤ room → Passes table
  table_passes r x l n (table_short y) =
      let h = y.too_many in
      let k = read_passed s r y.count (rw (data_once s u name y.place r y.chunk x) at y.passed) in
      omega arith

  fault_passes : (r : Range) (p : ℕ) → NameData s u name r → (tree_in s r).stop ≡ at p → Passes fault
  fault_passes r p x q n (tree_fault {r = k} y z) = at≢fault (sym q ∙ read_fault s r n (rw (data_once s u name k r y x) at z))

  -- of a tree's faults none is 0, 18 or above
  fault_is_low : (r : Range) (n : ℕ) → Faulty s r n → (0 < n) × (n < 18)
  fault_is_low r n f = all_in {P = λ n. (0 < n) × (n < 18)} (fault_number s r n f) (all_by (λ n. ltb 0 n && ltb n 18) low tree_faults refl)
    where
      low : (n : ℕ) → (ltb 0 n && ltb n 18) ≡ true → (0 < n) × (n < 18)
      low n e = (ltb-true _ _ (and_left (ltb 0 n) (ltb n 18) e), ltb-true _ _ (and_right (ltb 0 n) (ltb n 18) e))

  -- every refusal is of a stage in the order, and has a number
  pub tree_staged : (a : TreeStage) (n : ℕ) → R a n → In a tree_order × (0 < n)
  tree_staged a n (unsound f) = (here, lit< tt)
  tree_staged a n (no_map f) = (behind here, lit< tt)
  tree_staged a n (no_entry f) = (behind (behind here), lit< tt)
  tree_staged a n (no_chunk {o = o} {a = b} x c) =
      let (i, h) = chunk_staged name s o b n c in
      (behind (behind (behind (in_left (table ∷ fault ∷ []) (in_map chunk i)))), h)
  tree_staged a n (table_short t) = (behind (behind (behind (in_right (each chunk chunk_order) here))), lit< tt)
  tree_staged a n (tree_fault {r = r} x f) = (behind (behind (behind (in_right (each chunk chunk_order) (behind here)))), (fault_is_low r n f).0)

  -- each stage has one number
  pub tree_stage_once : (a : TreeStage) (n m : ℕ) → R a n → R a m → n ≡ m
  tree_stage_once a n m (unsound f) (unsound g) = refl
  tree_stage_once a n m (no_map f) (no_map g) = refl
  tree_stage_once a n m (no_entry f) (no_entry g) = refl
  tree_stage_once a n m (no_chunk {o = o} {a = b} x c) (no_chunk {o = k} y d) = chunk_once name s o b n m c (rw (entry_once s u name k o y x) at d)
  tree_stage_once a n m (table_short x) (table_short y) = refl
  tree_stage_once a n m (tree_fault {r = r} x f) (tree_fault {r = q} y g) =
      fault_inj (sym (read_fault s r n f) ∙ read_fault s r m (rw (data_once s u name q r y x) at g))

  -- of the numbers from 18 on: 18 is said of a short table, 20 of the summary, and 29 of a chunk of another name
  data High : ℕ → Type 0 where
    full : TableShort s u name room → High why.table
    judged : High why.summary
    astray : NameAstray s u name → High why.chunk_name

  high : (a : TreeStage) (n : ℕ) → R a n → 18 ≤ n → High n
  high a n (unsound f) h = judged
  high a n (no_map f) h = absurd (omega arith)
  high a n (no_entry f) h = absurd (omega arith)
  high a n (no_chunk x (no_head f)) h = absurd (omega arith)
  high a n (no_chunk {o = o} x (misnamed y)) h = astray (o, x, y)
  high a n (no_chunk x (no_data k f)) h = absurd (omega arith)
  high a n (table_short x) h = full x
  high a n (tree_fault {r = r} x f) h = let (l, m) = fault_is_low r n f in absurd (omega arith)

  pub says_18 : (a : TreeStage) (n : ℕ) → R a n → n ≡ why.table → TableShort s u name room
  says_18 a n x e = go n (high a n x (omega arith)) e
    where
      go : (n : ℕ) → High n → n ≡ why.table → TableShort s u name room
      go n (full y) e = y
      go n judged e = absurd (omega arith)
      go n (astray y) e = absurd (omega arith)

  pub says_29 : (a : TreeStage) (n : ℕ) → R a n → n ≡ why.chunk_name → NameAstray s u name
  says_29 a n x e = go n (high a n x (omega arith)) e
    where
      go : (n : ℕ) → High n → n ≡ why.chunk_name → NameAstray s u name
      go n (full y) e = absurd (omega arith)
      go n judged e = absurd (omega arith)
      go n (astray y) e = y

  pub never_28 : (a : TreeStage) (n : ℕ) → R a n → n ≡ why.size_range → ⊥
  never_28 a n x e = go n (high a n x (omega arith)) e
    where
      go : (n : ℕ) → High n → n ≡ why.size_range → ⊥
      go n (full y) e = omega arith
      go n judged e = omega arith
      go n (astray y) e = omega arith

  -- ---- the tree under the name; es are the map's entries

  module _ (es : List MapEntry) (e : map_entries (map_of s u) ≡ given es) where
    -- 18 where the table is short
    pub read_short : TableShort s u name room → named_tree s (map_of s u) es room name ≡ refused why.table
    unfolding named_tree within whole_tree
    read_short x =
        let h = x.too_many in
        let k = read_passed s x.place x.count x.passed in
        go_on (named_chunk s (map_of s u) es name) _ x.place (read_data s u es e name x.place x.chunk)
        (rw (lt-leb (length (tree_in s x.place).entries) room (omega arith)) refl)

    module _ (r : Range) (x : NameData s u name r) where
      fault_decides : (t : Stop) → (tree_in s r).stop ≡ t → DecidesAt R (fault ∷ []) (whole_tree t (tree_in s r).entries)
      unfolding whole_tree
      fault_decides (at p) q = goes (fault_passes r p x q) gives
      fault_decides (faultAt n) q = stops (tree_fault x (fault_read s r n q))

      table_decides : DecidesAt R (table ∷ fault ∷ []) (tree_entries (within room (tree_in s r)))
      unfolding within whole_tree
      table_decides = go (leb (length (tree_in s r).entries) room) refl
        where
          go : (b : Bool) → leb (length (tree_in s r).entries) room ≡ b
              → DecidesAt R (table ∷ fault ∷ [])
              (tree_entries (cond b (tree_in s r) (record { entries = take room (tree_in s r).entries; stop = faultAt why.table })))
          go true q = goes (table_passes r x (leb-true _ _ q)) (fault_decides (tree_in s r).stop refl)
          go false q =
              let l = leb-false (length (tree_in s r).entries) room q in
              stops (table_short (record { place = r; chunk = x; count = length (tree_in s r).entries; passed = passed_read s r; too_many = l }))

    pub named_whole : (ts : List Entry) → named_tree s (map_of s u) es room name ≡ given ts
        → (r : Range) × NameData s u name r × Tree s r ts × (length ts ≤ room)
    unfolding named_tree
    named_whole ts q =
        let (r, f, g) = and_then_given (named_chunk s (map_of s u) es name) _ q in
        let (h, p, t) = whole_read room (tree_in s r) ts g in
        let x = tree_read s r p (ap (λ (z : Read). z.stop) t) in
        let e₂ : (tree_in s r).entries ≡ ts = ap (λ (z : Read). z.entries) t in
        (r, data_read s u es e name r f, subst (Tree s r) e₂ x, rw e₂ at h)

    pub named_decides : DecidesAt R (entry ∷ each chunk chunk_order ++ table ∷ fault ∷ []) (named_tree s (map_of s u) es room name)
    unfolding named_tree named_chunk
    named_decides =
        decides_then {front = entry ∷ each chunk chunk_order} (named_chunk s (map_of s u) es name) _
        (needs (offset_of (map_of s u) name es) _ (chunk_data why.chunk_name name s)
        (λ q. no_entry λ o x. none≢some (sym q ∙ read_entry s u es e name o x)) λ o q.
        let x = entry_read s u es e name o q in
        goes (entry_passes o x) (decides_map chunk (λ a n. no_chunk x) (says_chunk o x) (chunk_decides name s o)))
        λ r q. table_decides r (data_read s u es e name r q)

  -- ---- the number

  pub tree_decides : DecidesAt R tree_order (tree_named s u name room)
  unfolding tree_named
  tree_decides =
      tests (bad_summary s u) why.summary _ (λ q. unsound (unsound-read s u q)) λ q.
      goes (summary_passes (sound_read s u q))
      (decides_then {front = map ∷ []} (map_entries (map_of s u)) _
      (stage_one why.map _ (map_numbered (map_of s u) (λ m. m ≡ why.map) refl) (λ f. no_map λ es x. f es (read_map _ es x))
      (λ es q. map_passes es (map_read _ es q))) named_decides)

  -- ---- a tree that is read whole

  pub tree_whole : (ts : List Entry) → tree_named s u name room ≡ given ts → (r : Range) × NameData s u name r × Tree s r ts × (length ts ≤ room)
  unfolding tree_named
  tree_whole ts e =
      let (f₁, e₁) = refuse_if_given (bad_summary s u) why.summary _ e in
      let (es, f₂, e₂) = and_then_given (map_entries (map_of s u)) _ e₁ in
      named_whole es f₂ ts e₂

pub by_number : (n : ℕ) (x : Answer (List Entry)) → (tree_by n x).number ≡ number_of x
unfolding tree_by number_of
by_number n (refused k) = refl
by_number n (given es) = refl

module _ (s : List ℕ) (u : Summary) (name bytes : List ℕ) where
  -- The tree call's number is what its first stage that refuses gives.
  pub tree_number : FirstAt (TreeRefusal s u name (room_in (length bytes))) tree_order (tree_call s u name bytes).number
  unfolding tree_call
  tree_number = rw (by_number (length bytes) (tree_named s u name (room_in (length bytes)))) (decides_first (tree_decides s u name (room_in (length bytes))))

  -- It is 0 exactly when no stage refuses.
  pub tree_accepted : AcceptedUnless (AtSome (TreeRefusal s u name (room_in (length bytes)))) (tree_call s u name bytes).number
  tree_accepted = accepted_at (tree_staged s u name (room_in (length bytes))) tree_number

  -- ---- the table

  -- Where the tree call gives 0, the table has the entries of the tree under the name, and zeros behind them.
  pub tree_table : (tree_call s u name bytes).number ≡ 0
      → (r : Range) × (es : List Entry) × NameData s u name r × Tree s r es × Tabled es (length bytes) (tree_call s u name bytes).buffer
  unfolding tree_call tree_by
  tree_table e =
      let x = tree_named s u name (room_in (length bytes)) in
      let staged = tree_staged s u name (room_in (length bytes)) in
      let (es, q) = decides_given (λ a n w. (staged a n w).1) (tree_decides s u name (room_in (length bytes))) (sym (by_number (length bytes) x) ∙ e) in
      let (r, y, z, h) = tree_whole s u name (room_in (length bytes)) es q in
      let t = tabled es (length bytes) (omega arith) in
      (r, es, y, z, subst (λ (a : Answer (List Entry)). Tabled es (length bytes) (tree_by (length bytes) a).buffer) (sym q) t)

  -- Where it does not, the table is zero.
  pub tree_refused : ((tree_call s u name bytes).number ≡ 0 → ⊥) → (tree_call s u name bytes).buffer ≡ zeros (length bytes)
  unfolding tree_call tree_by
  tree_refused f = go (tree_named s u name (room_in (length bytes))) f
    where
      go : (x : Answer (List Entry)) → ((tree_by (length bytes) x).number ≡ 0 → ⊥) → (tree_by (length bytes) x).buffer ≡ zeros (length bytes)
      go (refused n) f = refl
      go (given es) f = absurd (f refl)
