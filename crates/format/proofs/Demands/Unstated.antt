-- What a double that counts as absent means, field by field. Assumes nothing.
use Prim.Native.Nat.{ℕ, suc, ◌^◌, ◌≤◌}
use mathlib.Core.Path.{◌≡◌, refl, sym, ap, ◌∙◌}
use mathlib.Core.Logic.{◌↔◌}
use mathlib.Core.Bool.{Bool, true, false}
use mathlib.Core.Option.{Option, none, some}
use mathlib.Core.List.{List, [], ◌∷◌, reverse}
use lib.ListN.{length}
use lib.Dec.{ltb}
use lib.IntN.{pos}
use lib.Ieee.{Float}
use borrow.Author.Tests.{ltb-true, ltb-false}
use Rattle.format.proofs.Ground.Answers.{none≢some, go_on, found}
use Rattle.format.proofs.Ground.Agreement.{no_such, only_one}
use Rattle.format.proofs.Values.Meaning.{Means}
use Rattle.format.proofs.Trees.ByRules.{passed_read}
use Rattle.format.proofs.Map.NamedTrees.{read_range, read_mapped, given_tree, tree_means}
use Rattle.format.proofs.Files.FoundOnce.{tree_at_unique}
use Rattle.format.proofs.Demands.FirstAndThird.{third}
use Rattle.format.proofs.Numbers.Wholes.{unsigned_of, unsigned_absent, u32_absent, signed_absent, some_below}
use Rattle.format.proofs.Stated.Fields.{field_in_is, level_in, level_at, unsigned_in, signed_in}
use Rattle.format.specs.Answer.{Answer, given, refused, and_then, or_refuse, refuse_if, number_of}
use Rattle.format.specs.Bytes.{ascii}
use Rattle.format.specs.Chunks.{data_in}
use Rattle.format.specs.Map.{map_range, map_entries}
use Rattle.format.specs.Trees.{tree_in, named_tree, room_in}
use Rattle.format.specs.Loops.{Built}
use Rattle.format.specs.Refusals as why
use Rattle.format.specs.Values.{double, level, field, field_in, as_level, bind}
use Rattle.format.specs.Numbers.{unsigned, signed, below32}
use Rattle.format.specs.Attributes.{attributes, uncompressed}
use Rattle.format.specs.Grammar.Values.{ValueOf, Field}
use Rattle.format.specs.Grammar.Numbers.{ReadsUnsigned, NotUnsigned, NotSigned}
use Rattle.format.specs.Grammar.Attributes.{Sized, AttributesOf}
use Rattle.format.specs.Grammar.Loops.{LoopAt, Walks, done, stops, spectral, appends, OnAxes, LoopsOf}
use Rattle.format.specs.Grammar.Loops.{UiCount, unstated, SpectralCount, preferred, plain, PlanesCount, Valid, set, unset, Stops, no_type}
use Rattle.format.specs.Grammar.Calibration.{stated, spanned, NoStep}
use Rattle.format.specs.Grammar.Channels.{Colored, no_color, Covers, unsaid}
use Rattle.format.specs.Requests.{CountsAsAbsent}
use Rattle.format.specs.Sentences.{SizeField, width, row_bytes, height, components, bits}
use Rattle.format.specs.Sentences.{NotStated, size, compression, WholeNeeded, WholeTyped}
use Rattle.format.specs.Grammar.Map.{Named}
use Rattle.format.specs.Grammar.File.{Joined}
use Rattle.format.specs.Refused.Open.{Needed, needed, ChunkAt, TreeAt, TooMany}
use Rattle.format.specs.Calls.Open.{opened, open_call}
use Rattle.format.specs.declared.Range.{Range}
use Rattle.format.specs.declared.Entry.{Entry}
use Rattle.format.specs.declared.Loop.{Loop}
use Rattle.format.specs.declared.Summary.{Summary}
use Rattle.format.specs.declared.Attributes.{Attributes}

-- ---- a chain that has to find several things

missing_here : {A B : Type 0} (o : Option A) (n : ℕ) (k : A → Answer B) → o ≡ none → and_then (or_refuse o n) k ≡ refused n
unfolding and_then or_refuse
missing_here o n k e = rw e refl

missing_later : {A B : Type 0} (o : Option A) (n : ℕ) (k : A → Answer B) → ((a : A) → k a ≡ refused n) → and_then (or_refuse o n) k ≡ refused n
unfolding and_then or_refuse
missing_later none n k f = refl
missing_later (some a) n k f = f a

module _ (s : List ℕ) (es : List Entry) (M : Means s es) where
  -- ---- a field that is a double, read

  unsigned_lost : (i : ℕ) {u : ℕ} {name : List ℕ} (x : Float) → Field s es (suc i) (u ∷ name) (double x) → NotUnsigned (2 ^ 64) x
      → bind (field_in s es i (u ∷ name)) unsigned ≡ none
  unfolding bind
  unsigned_lost i x f y = rw ((field_in_is s es M i).only (double x) f) ((unsigned_absent x).0 y)

  u32_lost : (i : ℕ) {u : ℕ} {name : List ℕ} (x : Float) → Field s es (suc i) (u ∷ name) (double x) → NotUnsigned (2 ^ 32) x
      → below32 (bind (field_in s es i (u ∷ name)) unsigned) ≡ none
  unfolding bind
  u32_lost i x f y = rw ((field_in_is s es M i).only (double x) f) ((u32_absent x).0 y)

  signed_lost : (i : ℕ) {u : ℕ} {name : List ℕ} (x : Float) → Field s es (suc i) (u ∷ name) (double x) → NotSigned x
      → bind (field_in s es i (u ∷ name)) signed ≡ none
  unfolding bind
  signed_lost i x f y = rw ((field_in_is s es M i).only (double x) f) ((signed_absent x).0 y)

  -- ---- the attributes

  level_found : (i : ℕ) → Field s es 0 (ascii "SLxImageAttributes") (level i)
      → or_refuse (as_level (field s es 0 (ascii "SLxImageAttributes"))) why.missing ≡ given i
  unfolding ascii
  level_found i there = found _ _ i ((level_at s es M 0).only i there)

  size_missing : (i : ℕ) (name : List ℕ) (limit : ℕ) (x : Float) → Field s es 0 (ascii "SLxImageAttributes") (level i) → SizeField name limit
      → Field s es (suc i) name (double x) → NotUnsigned limit x → attributes s es ≡ refused why.missing
  unfolding attributes ascii
  size_missing i name limit x there width f y = go_on _ _ i (level_found i there) (missing_here _ _ _ (unsigned_lost i x f y))
  size_missing i name limit x there row_bytes f y = go_on _ _ i (level_found i there) (missing_later _ _ _ λ w. missing_here _ _ _ (unsigned_lost i x f y))
  size_missing i name limit x there height f y =
      go_on _ _ i (level_found i there) (missing_later _ _ _ λ w. missing_later _ _ _ λ b. missing_here _ _ _ (unsigned_lost i x f y))
  size_missing i name limit x there components f y =
      go_on _ _ i (level_found i there)
      (missing_later _ _ _ λ w. missing_later _ _ _ λ b. missing_later _ _ _ λ h. missing_here _ _ _ (unsigned_lost i x f y))
  size_missing i name limit x there bits f y =
      go_on _ _ i (level_found i there)
      (missing_later _ _ _ λ w. missing_later _ _ _ λ b. missing_later _ _ _ λ h. missing_later _ _ _ λ c. missing_here _ _ _ (u32_lost i x f y))

  compression_unstated : (i : ℕ) (a : Attributes) (x : Float) → Sized s es i a
      → Field s es (suc i) (ascii "eCompression") (double x) → NotSigned x → attributes s es ≡ refused why.compression
  unfolding attributes ascii uncompressed refuse_if
  compression_unstated i a x y f z =
      go_on _ _ i (level_found i y.level_there)
      (go_on _ _ a.width (found _ _ a.width ((unsigned_in s es M i).only a.width y.width))
      (go_on _ _ a.stride (found _ _ a.stride ((unsigned_in s es M i).only a.stride y.row))
      (go_on _ _ a.height (found _ _ a.height ((unsigned_in s es M i).only a.height y.height))
      (go_on _ _ a.components (found _ _ a.components ((unsigned_in s es M i).only a.components y.components))
      (go_on _ _ a.bits (found _ _ a.bits (some_below _ a.bits ((unsigned_in s es M i).only a.bits y.bits) y.bits_u32))
      (rw (signed_lost i x f z) refl))))))

  -- ---- loops and the z step

  type_stops : (i : ℕ) (x : Float) → Field s es (suc i) (ascii "eType") (double x) → NotSigned x → Stops s es i
  unfolding ascii
  type_stops i x f y = no_type (no_such _ (signed_in s es M i) (signed_lost i x f y))

  type_no_step : (i : ℕ) (x : Float) → Field s es (suc i) (ascii "eType") (double x) → NotSigned x → NoStep s es i
  unfolding ascii
  type_no_step i x f y z (stated g h) = no_such _ (signed_in s es M i) (signed_lost i x f y) (pos 4) g.kind
  type_no_step i x f y z (spanned g m c h hi lo) = no_such _ (signed_in s es M i) (signed_lost i x f y) (pos 4) g.kind

  count_zero : (p : ℕ) (x : Float) → Field s es (suc p) (ascii "uiCount") (double x) → NotUnsigned (2 ^ 64) x → UiCount s es p 0
  unfolding ascii
  count_zero p x f y = unstated (no_such _ (unsigned_in s es M p) (unsigned_lost p x f y))

  planes_give_way : (p q : ℕ) (x : Float) → Field s es (suc p) (ascii "pPlanes") (level q) → Field s es (suc q) (ascii "uiCount") (double x)
      → NotUnsigned (2 ^ 64) x → (n : ℕ) → SpectralCount s es p n ↔ UiCount s es p n
  unfolding ascii
  planes_give_way p q x there f y n = (there_is, plain none_said)
    where
      none_said : (m : ℕ) → PlanesCount s es p m → ⊥
      none_said m c =
          let e : c.planes ≡ q = only_one (level_in s es M p) c.planes q c.there there in
          no_such _ (unsigned_in s es M q) (unsigned_lost q x f y) m (rw e at c.count)

      there_is : SpectralCount s es p n → UiCount s es p n
      there_is (preferred c) = absurd (none_said n c)
      there_is (plain g c) = c

  not_valid : (j : ℕ) (x : Float) → ValueOf s es j (double x) → NotUnsigned (2 ^ 64) x → (is : List ℕ) (n : ℕ) → Valid s es (j ∷ is) n ↔ Valid s es is n
  not_valid j x v y is n = (there n, λ w. unset v (λ m. none_read (suc m)) w)
    where
      none_read : (m : ℕ) → ReadsUnsigned (double x) m → ⊥
      none_read = no_such _ (unsigned_of (double x)) ((unsigned_absent x).0 y)

      there : (n : ℕ) → Valid s es (j ∷ is) n → Valid s es is n
      there n (set {m = m} {v = w} u r z) = absurd (none_read (suc m) (rw (sym (M.of_value j w u) ∙ M.of_value j (double x) v) at r))
      there n (unset u r z) = z

  -- ---- a plane's record

  color_lost : (i : ℕ) (x : Float) → Field s es (suc i) (ascii "uiColor") (double x) → NotUnsigned (2 ^ 32) x → Colored s es i 0 0 0 0
  unfolding ascii
  color_lost i x f y = no_color λ v u h. none≢some (sym (u32_lost i x f y) ∙ some_below _ v ((unsigned_in s es M i).only v u) h)

  covers_one : (i : ℕ) (x : Float) → Field s es (suc i) (ascii "uiCompCount") (double x) → NotUnsigned (2 ^ 64) x → Covers s es i 1
  unfolding ascii
  covers_one i x f y = unsaid (no_such _ (unsigned_in s es M i) (unsigned_lost i x f y))

  -- ---- of a tree whose attributes are read

  no_size : {name : List ℕ} {limit : ℕ} (i : ℕ) (a : Attributes) (x : Float) → Sized s es i a → SizeField name limit → Field s es (suc i) name (double x)
      → NotUnsigned limit x → ⊥
  unfolding ascii
  no_size i a x y width f z = no_such _ (unsigned_in s es M i) (unsigned_lost i x f z) a.width y.width
  no_size i a x y row_bytes f z = no_such _ (unsigned_in s es M i) (unsigned_lost i x f z) a.stride y.row
  no_size i a x y height f z = no_such _ (unsigned_in s es M i) (unsigned_lost i x f z) a.height y.height
  no_size i a x y components f z = no_such _ (unsigned_in s es M i) (unsigned_lost i x f z) a.components y.components
  no_size i a x y bits f z = none≢some (sym (u32_lost i x f z) ∙ some_below _ a.bits ((unsigned_in s es M i).only a.bits y.bits) y.bits_u32)

  no_attributes : {name : List ℕ} (i : ℕ) (a : Attributes) (x : Float) → AttributesOf s es a → Field s es 0 (ascii "SLxImageAttributes") (level i)
      → Field s es (suc i) name (double x) → NotStated name x → ⊥
  unfolding ascii
  no_attributes i a x y there f n = go (only_one (level_at s es M 0) i y.at_level there y.sized.level_there) f n
    where
      go : {name : List ℕ} → i ≡ y.at_level → Field s es (suc i) name (double x) → NotStated name x → ⊥
      go e f (size k z) = no_size y.at_level a x y.sized k (rw e at f) z
      go e f (compression z) = no_such _ (signed_in s es M y.at_level) (signed_lost y.at_level x (rw e at f) z) (pos 2) y.compression

  no_loop : (i : ℕ) (x : Float) (ls : List Loop) → Field s es (suc i) (ascii "eType") (double x) → NotSigned x → LoopsOf s es i ls → ls ≡ []
  unfolding ascii
  no_loop i x ls f z y = empty y.built y.on_axes (none_built y.walked)
    where
      untyped : {t c : ℕ} → LoopAt s es i t c → ⊥
      untyped {t} a = no_such _ (signed_in s es M i) (signed_lost i x f z) (pos t) a.kind

      none_built : {bs : List Built} → Walks s es (i ∷ []) 0 [] bs → bs ≡ []
      none_built (stops _ done) = refl
      none_built (spectral a _ _ _) = absurd (untyped a)
      none_built (appends a _ _ _ _ _) = absurd (untyped a)

      empty : (bs : List Built) → OnAxes (reverse bs) ls → bs ≡ [] → ls ≡ []
      empty bs a e = on_none (rw e at a)
        where
          on_none : {ls : List Loop} → OnAxes [] ls → ls ≡ []
          on_none OnAxes.nil = refl

  pub counts_as_absent : CountsAsAbsent s es
  counts_as_absent = record {
    size_missing = size_missing;
    compression_unstated = compression_unstated;
    type_stops = type_stops;
    type_no_step = type_no_step;
    count_zero = count_zero;
    planes_give_way = planes_give_way;
    not_valid = not_valid;
    no_color = color_lost;
    covers_one = covers_one;
  }

-- ---- of a file that is joined to a summary

module _ (s : List ℕ) (u : Summary) (J : Joined s u) where
  chunk_at : {name : List ℕ} {q : Range} → Named s (data_in s J.map_place) J.map_entries_is name q → ChunkAt s name q
  chunk_at n = record { map_place = J.map_place; map_entries_is = J.map_entries_is; mapped = J.mapped; named = n }

  attributes_at : TreeAt s (needed Needed.attributes) J.attributes_tree
  unfolding ascii
  attributes_at = record { place = J.attributes_place; chunk = chunk_at J.attributes_named; formed = J.attributes_formed }

  experiment_at : TreeAt s (needed Needed.experiment) J.experiment_tree
  unfolding ascii
  experiment_at = record { place = J.experiment_place; chunk = chunk_at J.experiment_named; formed = J.experiment_formed }

  joined_whole : (es : List Entry) (i : ℕ) (name : List ℕ) (x : Float) → TreeAt s (needed Needed.attributes) es
      → Field s es 0 (ascii "SLxImageAttributes") (level i) → Field s es (suc i) name (double x) → NotStated name x → ⊥
  joined_whole es i name x T there f n =
      let e : es ≡ J.attributes_tree = tree_at_unique s _ es J.attributes_tree T attributes_at in
      let m = tree_means s T.place es T.formed in
      no_attributes s es m i J.attributes x (rw (← e) at J.attributes_of_is) there f n

  joined_typed : WholeTyped s u
  unfolding ascii
  joined_typed es i x E f z =
      let e : es ≡ J.experiment_tree = tree_at_unique s _ es J.experiment_tree E.tree experiment_at in
      let m = tree_means s E.tree.place es E.tree.formed in
      let there : Field s es 0 (ascii "SLxExperiment") (level J.experiment_level) = rw (← e) at J.experiment_there in
      let l : J.experiment_level ≡ i = only_one (level_at s es m 0) J.experiment_level i there E.there in
      let ls : LoopsOf s es i J.loops = rw (← e, l) at J.loops_of_is in
      J.summary.loops_used ∙ no_loop s es m i x J.loops f z ls

-- ---- of an opening

stopped : {A B : Type 0} (x : Answer A) (k : A → Answer B) (n : ℕ) → x ≡ refused n → and_then x k ≡ refused n
unfolding and_then
stopped x k n e = rw e refl

-- an opening stops where its attributes do, unless the table is too short
attributes_stop : (s : List ℕ) (room : ℕ) (es : List Entry) (n : ℕ) → TreeAt s (needed Needed.attributes) es
    → (TooMany s (needed Needed.attributes) room → ⊥) → attributes s es ≡ refused n → opened s room ≡ refused n
unfolding opened ascii
attributes_stop s room es n T f e =
    let c = T.chunk in
    let r = c.map_place in
    let ms = c.map_entries_is in
    let l = fits (ltb room (length (tree_in s T.place).entries)) refl in
    go_on (map_range s) _ r (read_range s r ms c.mapped)
    (go_on (map_entries (data_in s r)) _ ms (read_mapped s r ms c.mapped)
    (go_on (named_tree s (data_in s r) ms room (ascii "ImageAttributesLV!")) _ es
    (given_tree s (data_in s r) ms (ascii "ImageAttributesLV!") room es T.place c.named T.formed l)
    (stopped (attributes s es) _ n e)))
  where
    fits : (b : Bool) → ltb room (length (tree_in s T.place).entries) ≡ b → length (tree_in s T.place).entries ≤ room
    fits true l =
        absurd (f
        (record {
          place = T.place;
          chunk = T.chunk;
          count = length (tree_in s T.place).entries;
          passed = passed_read s T.place;
          too_many = ltb-true room (length (tree_in s T.place).entries) l;
        }))
    fits false l = ltb-false room (length (tree_in s T.place).entries) l

module _ (file table : List ℕ) where
  numbered : (n : ℕ) → opened file (room_in (length table)) ≡ refused n → (open_call file table).number ≡ n
  unfolding open_call number_of
  numbered n e = ap number_of e

  refuses : (es : List Entry) (n : ℕ) → TreeAt file (needed Needed.attributes) es → (TooMany file (needed Needed.attributes) (room_in (length table)) → ⊥)
      → attributes file es ≡ refused n → (open_call file table).number ≡ n
  refuses es n T f e = numbered n (attributes_stop file (room_in (length table)) es n T f e)

  means : {es : List Entry} → TreeAt file (needed Needed.attributes) es → Means file es
  means {es} T = tree_means file T.place es T.formed

  pub open_whole : WholeNeeded file (room_in (length table)) (open_call file table).number
  open_whole = record {
    not_opened = λ es i name x T there f n e.
        joined_whole file (open_call file table).summary (third.returns_theirs file table e) es i name x T there f n;
    gives_11 = λ es i name limit x T there k f z g. refuses es why.missing T g (size_missing file es (means T) i name limit x there k f z);
    gives_12 = λ es i a x S f z g. refuses es why.compression S.tree g (compression_unstated file es (means S.tree) i a x S.sized f z);
  }

  pub open_typed : (open_call file table).number ≡ 0 → WholeTyped file (open_call file table).summary
  open_typed e = joined_typed file (open_call file table).summary (third.returns_theirs file table e)
