-- Opening's number is that of its first stage that refuses. Assumes nothing.
use Prim.Native.Nat.{ℕ, ◌-◌, ◌≤◌, ◌<◌}
use mathlib.Core.Path.{◌≡◌, refl, sym, ap, ◌∙◌}
use mathlib.Core.Bool.{Bool, true, false, cond, not, true≢false}
use mathlib.Core.Option.{Option, some, some_inj}
use mathlib.Core.List.{List, [], ◌∷◌, ◌++◌, map as each, reverse}
use native.Mathlib.Omega.{arith}
use lib.Dec.{ltb, eqb, leb}
use lib.IntN.{pos}
use lib.ListN.{length, take}
use lib.Ieee.{Float}
use borrow.Author.Tests.{ltb-true, ltb-false, leb-true, leb-false, eqb-true, eqb-false, not-true, not-false}
use Rattle.format.proofs.Ground.Tests.{same_true, true_same}
use Rattle.format.proofs.Ground.Answers.{refused≢given, given_inj, none≢some}
use Rattle.format.proofs.Ground.Stages.{DecidesAt, stops, gives, goes, tests, needs, stage, stage_one, decides_then, decides_map}
use Rattle.format.proofs.Ground.Stages.{decides_first, first_from, first_once}
use Rattle.format.proofs.Map.Chunks.{chunk_read, read_chunk, chunk_unique, chunk_numbered, chunk_decides}
use Rattle.format.proofs.Map.Entries.{read_map, map_numbered, listed_read, read_listed}
use Rattle.format.proofs.Map.NamedTrees.{range_read, mapped_read, mapped_unique, named_read, tree_given, tree_means}
use Rattle.format.proofs.Trees.ByRules.{tree_read, read_tree, fault_read, read_fault, passed_read, read_passed, at≢fault}
use Rattle.format.proofs.Values.Meaning.{Means}
use Rattle.format.proofs.Trees.Depths.{tree_depths}
use Rattle.format.proofs.Stated.Fields.{level_at, unsigned_in, signed_in}
use Rattle.format.proofs.Files.SummaryTest.{bits_good, good_bits, shape_good, good_shape}
use Rattle.format.proofs.Numbers.Wholes.{below_some, some_below}
use Rattle.format.proofs.Stated.Attributes.{attributes_read, two_uncompressed, uncompressed_two}
use Rattle.format.proofs.Loops.Walks.{levels_read, walk_fault_read}
use Rattle.format.proofs.Loops.Faults.{walk_number, judge_number, judge_read, fault_judge}
use Rattle.format.proofs.Trees.MostEntries.{fault_low}
use Rattle.format.proofs.Stated.Calibration.{calibration_read, calibration_stops}
use Rattle.format.proofs.Files.FoundOnce.{chunk_in, chunk_at_unique, tree_at_unique, sizes_unique, experiment_unique, refused_walk, given_walk}
use Rattle.format.proofs.Files.FoundOnce.{stage_once}
use Rattle.format.specs.Answer.{refused, given}
use Rattle.format.specs.Bytes.{le_at, part, same, ascii, most64}
use Rattle.format.specs.Refusals as why
use Rattle.format.specs.Chunks.{chunk_mark, chunk_data, data_in}
use Rattle.format.specs.Map.{MapEntry, end_mark, map_name, map_range, map_entries, offset_of, named_chunk}
use Rattle.format.specs.Trees.{Stop, at, fault as faultAt, Read, tree_in, within, whole_tree, tree_entries, named_tree, most_depth, room_in}
use Rattle.format.specs.Values.{field, field_in, level, as_level, bind}
use Rattle.format.specs.Numbers.{unsigned, signed, below32}
use Rattle.format.specs.Attributes.{attributes as attributes_in, bad_shape, bad_bits, uncompressed, plane_bytes}
use Rattle.format.specs.Loops.{Built, walk as walkFrom, judge, experiment as experimentIn}
use Rattle.format.specs.Calibration.{calibration as calibrationIn, z_float, z_step}
use Rattle.format.specs.Calls.Open.{opened, open_call}
use Rattle.format.specs.Grammar.Map.{Listed, Mapped, Named}
use Rattle.format.specs.Grammar.Trees.{Tree}
use Rattle.format.specs.Grammar.Values.{Field}
use Rattle.format.specs.Grammar.Numbers.{Signed}
use Rattle.format.specs.Grammar.Attributes.{Bits, Shape, Sized}
use Rattle.format.specs.Grammar.Table.{TreeRead, attributes as attributesRead, experiment as experimentRead, calibration as calibrationRead}
use Rattle.format.specs.Refused.Order.{FirstAt}
use Rattle.format.specs.Refused.Chunk.{ChunkStage, chunk_order, ChunkRefusal, no_head, misnamed, no_data}
use Rattle.format.specs.Refused.Open.{Needed, attributes, experiment, needed, Stage, first_mark, tail, map_chunk, map, entry, chunk, table}
use Rattle.format.specs.Refused.Open.{fault, sizes, compression, bits, shape, experiment_level, walk, judged, plane, calibration, open_order}
use Rattle.format.specs.Refused.Open.{MapChunk, ChunkAt, TreeAt, TooMany, SizesAt, ExperimentAt, OpenRefusal}
use Rattle.format.specs.Refused.Open.{no_mark, old_mark, other_mark, no_tail, wrong_tail, no_map_chunk, no_map, no_entry, no_chunk}
use Rattle.format.specs.Refused.Open.{table_short, tree_fault, no_sizes, compressed, wrong_bits, wrong_shape, no_level, walk_fault}
use Rattle.format.specs.Refused.Open.{misjudged, plane_over, calibration_short}
use Rattle.format.specs.Sentences.{EntryAstray}
use Rattle.format.specs.declared.Range.{Range}
use Rattle.format.specs.declared.Entry.{Entry}
use Rattle.format.specs.declared.Attributes.{Attributes}
use Rattle.format.specs.declared.Calibration.{Calibration}
use Rattle.format.specs.declared.Loop.{Loop}

-- the stages of a needed chunk and its tree
abbrev read_stages : Needed → List Stage
read_stages w = entry w ∷ each (chunk w) chunk_order ++ table w ∷ fault w ∷ []

module _ (s : List ℕ) (room : ℕ) where
  abbrev R : Stage → ℕ → Type 0
  R = OpenRefusal s room

  -- no number refuses at this stage
  abbrev Passes : Stage → Type 0
  Passes a = (n : ℕ) → R a n → ⊥

  -- ---- first mark, tail, map chunk

  mark_passes : 4 ≤ length s → le_at 4 s 0 ≡ chunk_mark → Passes first_mark
  mark_passes h e n (no_mark l) = omega arith
  mark_passes h e n (old_mark l f) = omega arith
  mark_passes h e n (other_mark l f g) = g e

  tail_passes : 40 ≤ length s → part s (length s - 40) 32 ≡ end_mark → Passes tail
  tail_passes h e n (no_tail l) = omega arith
  tail_passes h e n (wrong_tail l f) = f e

  map_chunk_passes : (r : Range) → MapChunk s r → Passes map_chunk
  map_chunk_passes r c n (no_map_chunk f) = f r c

  range_decides : DecidesAt R (first_mark ∷ tail ∷ map_chunk ∷ []) (map_range s)
  unfolding map_range
  range_decides =
      tests (ltb (length s) 4) _ _ (λ q. no_mark (ltb-true _ _ q)) λ q₁.
      let h = ltb-false (length s) 4 q₁ in
      tests (eqb (le_at 4 s 0) 0x0C000000) _ _ (λ q. old_mark h (eqb-true _ _ q)) λ q₂.
      tests (not (eqb (le_at 4 s 0) chunk_mark)) _ _ (λ q. other_mark h (eqb-false _ _ q₂) (eqb-false _ _ (not-true _ q))) λ q₃.
      goes (mark_passes h (eqb-true _ _ (not-false _ q₃)))
      (tests (ltb (length s) 40) _ _ (λ q. no_tail (ltb-true _ _ q)) λ q₄.
      let l = ltb-false (length s) 40 q₄ in
      tests (not (same (part s (length s - 40) 32) end_mark)) _ _ (λ q. wrong_tail l λ e. true≢false (sym (true_same _ _ e) ∙ not-true _ q)) λ q₅.
      goes (tail_passes l (same_true _ _ (not-false _ q₅)))
      (stage_one why.chunk _ (chunk_numbered why.chunk map_name s (le_at 8 s (length s - 8)) (λ m. m ≡ why.chunk) refl refl)
      (λ f. no_map_chunk λ r c. f r (read_chunk why.chunk map_name s _ r c)) (λ r e. map_chunk_passes r (chunk_read why.chunk map_name s _ r e))))

  -- ---- the map

  map_passes : (r : Range) (es : List MapEntry) → Mapped s r es → Passes map
  map_passes r es x n (no_map {r = q} c f) = f es (rw (chunk_unique map_name s _ q r c x.map_chunk) x.map_of_is)

  map_decides : (r : Range) → map_range s ≡ given r → DecidesAt R (map ∷ []) (map_entries (data_in s r))
  map_decides r e =
      stage_one why.map _ (map_numbered (data_in s r) (λ m. m ≡ why.map) refl) (λ f. no_map (range_read s r e).map_chunk λ es x. f es (read_map _ es x))
      (λ es q. map_passes r es (mapped_read s r es e q))

  -- ---- a needed chunk and its tree, where the map's entries are es

  module _ (r : Range) (es : List MapEntry) (mp : Mapped s r es) where
    abbrev m : List ℕ
    m = data_in s r

    named_at : (name : List ℕ) (q : Range) → Named s m es name q → ChunkAt s name q
    named_at name q x = record { map_place = r; map_entries_is = es; mapped = mp; named = x }

    -- the tree fits the table
    not_too_many : (name : List ℕ) (q : Range) → Named s m es name q → length (tree_in s q).entries ≤ room → TooMany s name room → ⊥
    not_too_many name q x h y =
        let l = y.too_many in
        let k = read_passed s q y.count (rw (chunk_at_unique s name y.place q y.chunk (named_at name q x)) at y.passed) in
        omega arith

    too_many : (name : List ℕ) (q : Range) → Named s m es name q → room < length (tree_in s q).entries → TooMany s name room
    too_many name q x h = record { place = q; chunk = named_at name q x; count = length (tree_in s q).entries; passed = passed_read s q; too_many = h }

    module _ (w : Needed) where
      entry_passes : (o : ℕ) → Listed m (needed w) es o → Passes (entry w)
      entry_passes o l n (no_entry {r = q} {es = fs} x f) =
          let (p, e) = mapped_unique s q r fs es x mp in
          f o (rw (p, e) l)

      says_chunk : (o : ℕ) → Listed m (needed w) es o → (a : ChunkStage) (n : ℕ) → R (chunk w a) n → ChunkRefusal (needed w) s o a n
      says_chunk o x a n (no_chunk {r = r'} {es = fs} {o = k} y l c) =
          let (p, e) = mapped_unique s r' r fs es y mp in
          let l₂ : Listed m (needed w) es k = rw (p, e) at l in
          let i : k ≡ o = some_inj.0 (sym (read_listed m (needed w) es k l₂) ∙ read_listed m (needed w) es o x) in
          rw i at c

      table_passes : (q : Range) → Named s m es (needed w) q → length (tree_in s q).entries ≤ room → Passes (table w)
      table_passes q x h n (table_short y) = not_too_many (needed w) q x h y

      fault_passes : (q : Range) (ts : List Entry) → Named s m es (needed w) q → Tree s q ts → Passes (fault w)
      fault_passes q ts x t n (tree_fault {r = q'} y f) =
          let e = read_fault s q n (rw (chunk_at_unique s (needed w) q' q y (named_at (needed w) q x)) at f) in
          at≢fault (sym (ap (λ (z : Read). z.stop) (read_tree s q ts t)) ∙ e)

      fault_decides : (q : Range) → Named s m es (needed w) q → (t : Stop) → (tree_in s q).stop ≡ t
          → DecidesAt R (fault w ∷ []) (whole_tree t (tree_in s q).entries)
      unfolding whole_tree
      fault_decides q x (at p) e = goes (fault_passes q _ x (tree_read s q p e)) gives
      fault_decides q x (faultAt n) e = stops (tree_fault (named_at (needed w) q x) (fault_read s q n e))

      table_decides : (q : Range) → Named s m es (needed w) q → DecidesAt R (table w ∷ fault w ∷ []) (tree_entries (within room (tree_in s q)))
      unfolding within whole_tree
      table_decides q x = go (leb (length (tree_in s q).entries) room) refl
        where
          go : (b : Bool) → leb (length (tree_in s q).entries) room ≡ b
              → DecidesAt R (table w ∷ fault w ∷ [])
              (tree_entries (cond b (tree_in s q) (record { entries = take room (tree_in s q).entries; stop = faultAt why.table })))
          go true e = goes (table_passes q x (leb-true _ _ e)) (fault_decides q x (tree_in s q).stop refl)
          go false e = stops (table_short (too_many (needed w) q x (leb-false (length (tree_in s q).entries) room e)))

      named_decides : DecidesAt R (read_stages w) (named_tree s m es room (needed w))
      unfolding named_tree named_chunk
      named_decides =
          decides_then {front = entry w ∷ each (chunk w) chunk_order} (named_chunk s m es (needed w)) _
          (needs (offset_of m (needed w) es) _ (chunk_data why.chunk_name (needed w) s)
          (λ q. no_entry mp λ o l. none≢some (sym q ∙ read_listed m (needed w) es o l)) λ o q.
          let l = listed_read m (needed w) es o q in
          goes (entry_passes o l) (decides_map (chunk w) (λ a n. no_chunk mp l) (says_chunk o l) (chunk_decides (needed w) s o)))
          λ q e. table_decides q (named_read s m es (needed w) q e)

    -- ---- the calibration

    calibration_decides : (z : Option Float) → DecidesAt R (calibration ∷ []) (calibrationIn s m es room (z_float z))
    calibration_decides z = stage (calibrationIn s m es room (z_float z)) short passes
      where
        name : List ℕ
        name = ascii "ImageCalibrationLV|0!"

        short : (n : ℕ) → calibrationIn s m es room (z_float z) ≡ refused n → R calibration n
        short n e =
            let (p, x) = calibration_stops s m es room z n e in
            rw p (calibration_short (too_many name x.place x.named x.over))

        passes : (c : Calibration) → calibrationIn s m es room (z_float z) ≡ given c → Passes calibration
        passes c e n (calibration_short y) =
            let x = chunk_in s r es mp name y.place y.chunk in
            not_too_many name y.place x ((calibration_read s m es room z c e).1 y.place x) y

  -- ---- the attributes in their tree

  module _ (ats : List Entry) (T : TreeAt s (needed attributes) ats) where
    means : Means s ats
    means = tree_means s T.place ats T.formed

    sizes_at : (i : ℕ) (a : Attributes) → Sized s ats i a → SizesAt s ats i a
    sizes_at i a x = record { tree = T; sized = x }

    sizes_passes : (i : ℕ) (a : Attributes) → Sized s ats i a → Passes sizes
    sizes_passes i a x n (no_sizes {es = fs} t f) = f i a (rw (tree_at_unique s _ fs ats t T) x)

    module _ (i : ℕ) (a : Attributes) (x : SizesAt s ats i a) where
      compression_passes : Signed s ats i (ascii "eCompression") (pos 2) → Passes compression
      compression_passes y n (compressed {es = fs} {i = j} {a = b} z f) =
          let (e, p, q) = sizes_unique s fs ats j i b a z x in
          f (rw (e, p) y)

      bits_passes : Bits a.bits → Passes bits
      bits_passes y n (wrong_bits {es = fs} {i = j} {a = b} z f) = let (e, p, q) = sizes_unique s fs ats j i b a z x in f (rw q y)

      shape_passes : Shape a → Passes shape
      shape_passes y n (wrong_shape {es = fs} {i = j} {a = b} z f) = let (e, p, q) = sizes_unique s fs ats j i b a z x in f (rw q y)

      plane_passes : plane_bytes a ≤ most64 → Passes plane
      plane_passes h n (plane_over {es = fs} {i = j} {a = b} z l) =
          let (e, p, q) = sizes_unique s fs ats j i b a z x in
          let k : most64 < plane_bytes a = rw q at l in
          omega arith

    -- the sizes are those of the one level
    level_same : (i : ℕ) → as_level (field s ats 0 (ascii "SLxImageAttributes")) ≡ some i → (j : ℕ) (a : Attributes) → Sized s ats j a → Sized s ats i a
    unfolding ascii
    level_same i q j a x =
        let e : j ≡ i = some_inj.0 (sym ((level_at s ats means 0).only j x.level_there) ∙ q) in
        rw e at x

    attributes_decide : DecidesAt R (sizes ∷ compression ∷ bits ∷ shape ∷ []) (attributes_in s ats)
    unfolding attributes_in
    attributes_decide =
        needs (as_level (field s ats 0 (ascii "SLxImageAttributes"))) _ _
        (λ q. no_sizes T λ i a x. none≢some (sym q ∙ (level_at s ats means 0).only i x.level_there)) λ i q₀.
        let number : List ℕ → Option ℕ = λ name. bind (field_in s ats i name) unsigned in
        needs (number (ascii "uiWidth")) _ _
        (λ q. no_sizes T λ j a x. none≢some (sym q ∙ (unsigned_in s ats means i).only a.width (level_same i q₀ j a x).width)) λ w q₁.
        needs (number (ascii "uiWidthBytes")) _ _
        (λ q. no_sizes T λ j a x. none≢some (sym q ∙ (unsigned_in s ats means i).only a.stride (level_same i q₀ j a x).row)) λ wb q₂.
        needs (number (ascii "uiHeight")) _ _
        (λ q. no_sizes T λ j a x. none≢some (sym q ∙ (unsigned_in s ats means i).only a.height (level_same i q₀ j a x).height)) λ h q₃.
        needs (number (ascii "uiComp")) _ _
        (λ q. no_sizes T λ j a x. none≢some (sym q ∙ (unsigned_in s ats means i).only a.components (level_same i q₀ j a x).components)) λ c q₄.
        needs (below32 (number (ascii "uiBpcInMemory"))) _ _
        (λ q. no_sizes T λ j a x. let y = level_same i q₀ j a x in
        none≢some (sym q ∙ some_below _ a.bits ((unsigned_in s ats means i).only a.bits y.bits) y.bits_u32)) λ b q₅.
        let (p, l) = below_some _ b q₅ in
        let a : Attributes = record { width = w; stride = wb; height = h; components = c; bits = b } in
        let x : Sized s ats i a = record {
          level_there = (level_at s ats means 0).holds i q₀;
          width = (unsigned_in s ats means i).holds w q₁;
          row = (unsigned_in s ats means i).holds wb q₂;
          height = (unsigned_in s ats means i).holds h q₃;
          components = (unsigned_in s ats means i).holds c q₄;
          bits = (unsigned_in s ats means i).holds b p;
          bits_u32 = l;
        } in
        let y = sizes_at i a x in
        goes (sizes_passes i a x)
        (tests (not (uncompressed (bind (field_in s ats i (ascii "eCompression")) signed))) _ _
        (λ q. compressed y λ z. true≢false (sym q ∙ uncompressed_two _ ((signed_in s ats means i).only (pos 2) z))) λ q₆.
        goes (compression_passes i a y ((signed_in s ats means i).holds (pos 2) (two_uncompressed _ (not-false _ q₆))))
        (tests (bad_bits b) _ _ (λ q. wrong_bits y λ z. true≢false (sym q ∙ good_bits b z)) λ q₇.
        goes (bits_passes i a y (bits_good b q₇))
        (tests (bad_shape a) _ _ (λ q. wrong_shape y λ z. true≢false (sym q ∙ good_shape a z)) λ q₈.
        goes (shape_passes i a y (shape_good a q₈)) gives)))

  -- ---- the experiment in its tree

  module _ (ts : List Entry) (T : TreeAt s (needed experiment) ts) where
    level_passes : (i : ℕ) → Field s ts 0 (ascii "SLxExperiment") (level i) → Passes experiment_level
    level_passes i x n (no_level {es = fs} t f) = f i (rw (tree_at_unique s _ fs ts t T) x)

  module _ (ts : List Entry) (i : ℕ) (x : ExperimentAt s ts i) where
    walk_passes : (bs : List Built) → walkFrom most_depth s ts i 0 [] ≡ given bs → Passes walk
    walk_passes bs e n (walk_fault {es = fs} {i = j} y q) =
        let (d, p) = experiment_unique s fs ts j i y x in
        refused≢given (sym (refused_walk s ts i x n (rw (d, p) at q)) ∙ e)

    judged_passes : (bs : List Built) (ls : List Loop) → walkFrom most_depth s ts i 0 [] ≡ given bs → judge [] (reverse bs) ≡ given ls → Passes judged
    judged_passes bs ls e f n (misjudged {es = fs} {i = j} {bs = cs} y w q) =
        let (d, p) = experiment_unique s fs ts j i y x in
        let k : cs ≡ bs = given_inj (sym (given_walk s ts i x cs (rw (d, p) at w)) ∙ e) in
        refused≢given (sym (fault_judge [] (reverse bs) n (rw k at q)) ∙ f)

    loops_decide : DecidesAt R (walk ∷ judged ∷ []) (experimentIn s ts i)
    unfolding experimentIn
    loops_decide =
        let t = x.tree in
        let (D, K) = tree_depths s t.place ts t.formed in
        let M = tree_means s t.place ts t.formed in
        decides_then {front = walk ∷ []} (walkFrom most_depth s ts i 0 []) _
        (stage _ (λ n e. walk_fault x (walk_fault_read s ts D K M i x.there n e)) walk_passes) λ bs e.
        let w = levels_read s ts D K M i x.there bs e in
        stage (judge [] (reverse bs)) (λ n f. misjudged x w (judge_read s ts (i ∷ []) 0 bs w n f)) (λ ls f. judged_passes bs ls e f)

  -- ---- the whole chain

  -- a needed tree that was read
  tree_there : (r : Range) (es : List MapEntry) → Mapped s r es → (w : Needed) (ts : List Entry)
      → named_tree s (data_in s r) es room (needed w) ≡ given ts → TreeAt s (needed w) ts
  tree_there r es mp w ts e =
      let (q, x, y, h) = tree_given s (data_in s r) es (needed w) room ts e in
      record { place = q; chunk = named_at r es mp (needed w) q x; formed = y }

  pub open_decides : DecidesAt R open_order (opened s room)
  unfolding opened ascii
  open_decides =
      decides_then {front = first_mark ∷ tail ∷ map_chunk ∷ []} (map_range s) _ range_decides λ r e₁.
      decides_then {front = map ∷ []} (map_entries (data_in s r)) _ (map_decides r e₁) λ es e₂.
      let mp = mapped_read s r es e₁ e₂ in
      decides_then {front = read_stages attributes} _ _ (named_decides r es mp attributes) λ ats e₃.
      let T = tree_there r es mp attributes ats e₃ in
      decides_then {front = sizes ∷ compression ∷ bits ∷ shape ∷ []} (attributes_in s ats) _ (attributes_decide ats T) λ a e₄.
      decides_then {front = read_stages experiment} _ _ (named_decides r es mp experiment) λ ts e₅.
      let U = tree_there r es mp experiment ts e₅ in
      let M = tree_means s U.place ts U.formed in
      needs (as_level (field s ts 0 (ascii "SLxExperiment"))) _ _
      (λ q. no_level U λ i x. none≢some (sym q ∙ (level_at s ts M 0).only i x)) λ i q₆.
      let there = (level_at s ts M 0).holds i q₆ in
      goes (level_passes ts U i there)
      (decides_then {front = walk ∷ judged ∷ []} (experimentIn s ts i) _ (loops_decide ts i (record { tree = U; there = there })) λ ls e₇.
      let o = attributes_read s ats (means ats T) a e₄ in
      let x = sizes_at ats T o.at_level a o.sized in
      tests (ltb most64 (plane_bytes a)) _ _ (λ q. plane_over x (ltb-true _ _ q)) λ q₈.
      goes (plane_passes ats T o.at_level a x (ltb-false most64 (plane_bytes a) q₈))
      (decides_then {front = calibration ∷ []} _ _ (calibration_decides r es mp (z_step most_depth s ts i)) λ c e₉. gives))

-- The open call's number is what its first stage that refuses gives.
pub open_number : (file bytes : List ℕ) → FirstAt (OpenRefusal file (room_in (length bytes))) open_order (open_call file bytes).number
unfolding open_call
open_number file bytes = decides_first (open_decides file (room_in (length bytes)))

-- No other number is.
pub open_number_only : (file : List ℕ) (room n m : ℕ) → FirstAt (OpenRefusal file room) open_order n → FirstAt (OpenRefusal file room) open_order m → n ≡ m
open_number_only file room n m x y = first_once (stage_once file room) x y

-- ---- 18 and 29

-- of the numbers from 18 on: 18 is said where a tree has more records than the table has entries, and 29 where the map leads from a needed name astray
data High (s : List ℕ) (room : ℕ) : ℕ → Type 0 where
  full : (name : List ℕ) → TreeRead name → TooMany s name room → High s room why.table
  astray : (w : Needed) → EntryAstray s (needed w) → High s room why.chunk_name

high : (s : List ℕ) (room : ℕ) (a : Stage) (n : ℕ) → OpenRefusal s room a n → 18 ≤ n → High s room n
unfolding ascii
high s room a n (no_mark h) l = absurd (omega arith)
high s room a n (old_mark h f) l = absurd (omega arith)
high s room a n (other_mark h f g) l = absurd (omega arith)
high s room a n (no_tail h) l = absurd (omega arith)
high s room a n (wrong_tail h f) l = absurd (omega arith)
high s room a n (no_map_chunk f) l = absurd (omega arith)
high s room a n (no_map x f) l = absurd (omega arith)
high s room a n (no_entry x f) l = absurd (omega arith)
high s room a n (no_chunk x k (no_head f)) l = absurd (omega arith)
high s room a n (no_chunk {w = w} {r = r} {es = es} {o = o} x k (misnamed y)) l = astray w (r, es, o, x, k, y)
high s room a n (no_chunk x k (no_data h f)) l = absurd (omega arith)
high s room a n (table_short {w = attributes} x) l = full (needed attributes) attributesRead x
high s room a n (table_short {w = experiment} x) l = full (needed experiment) experimentRead x
high s room a n (tree_fault {r = r} x f) l = let low = fault_low s r n (read_fault s r n f) in absurd (omega arith)
high s room a n (no_sizes x f) l = absurd (omega arith)
high s room a n (compressed x f) l = absurd (omega arith)
high s room a n (wrong_bits x f) l = absurd (omega arith)
high s room a n (wrong_shape x f) l = absurd (omega arith)
high s room a n (no_level x f) l = absurd (omega arith)
high s room a n (walk_fault {es = es} {i = i} x f) l = let h = walk_number s es (i ∷ []) n f in absurd (omega arith)
high s room a n (misjudged x w f) l = let h = judge_number [] _ n f in absurd (omega arith)
high s room a n (plane_over x h) l = absurd (omega arith)
high s room a n (calibration_short x) l = full (ascii "ImageCalibrationLV|0!") calibrationRead x

module _ (file bytes : List ℕ) where
  abbrev room : ℕ
  room = room_in (length bytes)

  said : {n : ℕ} → 18 ≤ n → (open_call file bytes).number ≡ n → High file room n
  said {n} h e =
      let (a, x) = first_from (open_number file bytes) (λ z. absurd (omega arith)) in
      rw e at (high file room a (open_call file bytes).number x (omega arith))

  pub open_table_full : (open_call file bytes).number ≡ why.table → (name : List ℕ) × TreeRead name × TooMany file name room
  open_table_full e = go (said (omega arith) e) refl
    where
      go : {n : ℕ} → High file room n → n ≡ why.table → (name : List ℕ) × TreeRead name × TooMany file name room
      go (full name t x) e = (name, t, x)
      go (astray w x) e = absurd (omega arith)

  pub open_astray : (open_call file bytes).number ≡ why.chunk_name → (w : Needed) × EntryAstray file (needed w)
  open_astray e = go (said (omega arith) e) refl
    where
      go : {n : ℕ} → High file room n → n ≡ why.chunk_name → (w : Needed) × EntryAstray file (needed w)
      go (full name t x) e = absurd (omega arith)
      go (astray w x) e = (w, x)
