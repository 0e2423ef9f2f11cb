-- What opening finds at each stage is one thing alone, so a stage refuses with one number. Assumes nothing.
use Prim.Native.Nat.{ℕ}
use mathlib.Core.Path.{◌≡◌, refl, sym, ◌∙◌}
use mathlib.Core.List.{List, [], ◌∷◌, reverse}
use native.Mathlib.Omega.{arith}
use Rattle.format.proofs.Ground.Answers.{given_inj, refused_inj}
use Rattle.format.proofs.Ground.Agreement.{only_one}
use Rattle.format.proofs.Trees.ByRules.{tree_unique, read_fault, fault_inj}
use Rattle.format.proofs.Map.NamedTrees.{mapped_unique, named_unique, tree_means}
use Rattle.format.proofs.Values.Meaning.{Means}
use Rattle.format.proofs.Trees.Depths.{tree_depths}
use Rattle.format.proofs.Stated.Fields.{level_at, unsigned_in}
use Rattle.format.proofs.Loops.Faults.{fault_walk, levels_walk, fault_judge}
use Rattle.format.specs.Answer.{refused, given}
use Rattle.format.specs.Bytes.{ascii}
use Rattle.format.specs.Chunks.{data_in}
use Rattle.format.specs.Map.{MapEntry}
use Rattle.format.specs.Trees.{most_depth}
use Rattle.format.specs.Loops.{Built, walk}
use Rattle.format.specs.Grammar.Map.{Mapped, Named}
use Rattle.format.specs.Grammar.Attributes.{Sized}
use Rattle.format.specs.Grammar.Loops.{Walks}
use Rattle.format.specs.Refused.Chunk.{no_head, misnamed, no_data}
use Rattle.format.specs.Refused.Loops.{WalkFaults}
use Rattle.format.specs.Refused.Open.{ChunkAt, TreeAt, SizesAt, ExperimentAt, Stage, OpenRefusal, no_mark, old_mark, other_mark, no_tail}
use Rattle.format.specs.Refused.Open.{wrong_tail, no_map_chunk, no_map, no_entry, no_chunk, table_short, tree_fault, no_sizes, compressed}
use Rattle.format.specs.Refused.Open.{wrong_bits, wrong_shape, no_level, walk_fault, misjudged, plane_over, calibration_short}
use Rattle.format.specs.declared.Range.{Range}
use Rattle.format.specs.declared.Entry.{Entry}
use Rattle.format.specs.declared.Attributes.{Attributes}

module _ (s : List ℕ) where
  -- ---- chunks and their trees

  -- a chunk under a name, in the one map
  pub chunk_in : (r : Range) (es : List MapEntry) → Mapped s r es → (name : List ℕ) (q : Range) → ChunkAt s name q → Named s (data_in s r) es name q
  chunk_in r es mp name q x =
      let (p, e) = mapped_unique s r x.map_place es x.map_entries_is mp x.mapped in
      rw (p, e) x.named

  pub chunk_at_unique : (name : List ℕ) (r q : Range) → ChunkAt s name r → ChunkAt s name q → r ≡ q
  chunk_at_unique name r q x y = named_unique s _ _ name r q x.named (chunk_in x.map_place x.map_entries_is x.mapped name q y)

  pub tree_at_unique : (name : List ℕ) (es fs : List Entry) → TreeAt s name es → TreeAt s name fs → es ≡ fs
  tree_at_unique name es fs x y =
      let q : y.place ≡ x.place = chunk_at_unique name y.place x.place y.chunk x.chunk in
      tree_unique s x.place es fs x.formed (rw q at y.formed)

  -- ---- the attributes

  sized_unique : (es : List Entry) → Means s es → (i j : ℕ) (a b : Attributes) → Sized s es i a → Sized s es j b → (i ≡ j) × (a ≡ b)
  unfolding ascii
  sized_unique es M i j a b x y =
      let p : i ≡ j = only_one (level_at s es M 0) i j x.level_there y.level_there in
      let z : Sized s es j a = rw p at x in
      let w = only_one (unsigned_in s es M j) a.width b.width z.width y.width in
      let r = only_one (unsigned_in s es M j) a.stride b.stride z.row y.row in
      let h = only_one (unsigned_in s es M j) a.height b.height z.height y.height in
      let c = only_one (unsigned_in s es M j) a.components b.components z.components y.components in
      let d = only_one (unsigned_in s es M j) a.bits b.bits z.bits y.bits in
      (p, λ k. record { width = w k; stride = r k; height = h k; components = c k; bits = d k })

  pub sizes_unique : (es fs : List Entry) (i j : ℕ) (a b : Attributes) → SizesAt s es i a → SizesAt s fs j b → (es ≡ fs) × (i ≡ j) × (a ≡ b)
  sizes_unique es fs i j a b x y =
      let e : es ≡ fs = tree_at_unique _ es fs x.tree y.tree in
      let t = y.tree in
      let (p, q) = sized_unique fs (tree_means s t.place fs t.formed) i j a b (rw e at x.sized) y.sized in
      (e, p, q)

  -- ---- the experiment

  pub experiment_unique : (es fs : List Entry) (i j : ℕ) → ExperimentAt s es i → ExperimentAt s fs j → (es ≡ fs) × (i ≡ j)
  unfolding ascii
  experiment_unique es fs i j x y =
      let e : es ≡ fs = tree_at_unique _ es fs x.tree y.tree in
      let t = y.tree in
      (e, only_one (level_at s fs (tree_means s t.place fs t.formed) 0) i j (rw e at x.there) y.there)

  -- the walk of an experiment that is there
  module _ (es : List Entry) (i : ℕ) (x : ExperimentAt s es i) where
    pub refused_walk : (k : ℕ) → WalkFaults s es (i ∷ []) k → walk most_depth s es i 0 [] ≡ refused k
    refused_walk k q =
        let t = x.tree in
        let (D, R) = tree_depths s t.place es t.formed in
        fault_walk s es D R (tree_means s t.place es t.formed) i x.there k q

    pub given_walk : (bs : List Built) → Walks s es (i ∷ []) 0 [] bs → walk most_depth s es i 0 [] ≡ given bs
    given_walk bs w =
        let t = x.tree in
        let (D, R) = tree_depths s t.place es t.formed in
        levels_walk s es D R (tree_means s t.place es t.formed) i x.there bs w

-- ---- each stage has one number

pub stage_once : (s : List ℕ) (room : ℕ) (a : Stage) (n m : ℕ) → OpenRefusal s room a n → OpenRefusal s room a m → n ≡ m
stage_once s room a n m (no_mark h) (no_mark k) = refl
stage_once s room a n m (no_mark h) (old_mark k e) = absurd (omega arith)
stage_once s room a n m (no_mark h) (other_mark k f g) = refl
stage_once s room a n m (old_mark h e) (no_mark k) = absurd (omega arith)
stage_once s room a n m (old_mark h e) (old_mark k d) = refl
stage_once s room a n m (old_mark h e) (other_mark k f g) = absurd (f e)
stage_once s room a n m (other_mark h f g) (no_mark k) = refl
stage_once s room a n m (other_mark h f g) (old_mark k e) = absurd (f e)
stage_once s room a n m (other_mark h f g) (other_mark k d e) = refl
stage_once s room a n m (no_tail h) (no_tail k) = refl
stage_once s room a n m (no_tail h) (wrong_tail k f) = refl
stage_once s room a n m (wrong_tail h f) (no_tail k) = refl
stage_once s room a n m (wrong_tail h f) (wrong_tail k g) = refl
stage_once s room a n m (no_map_chunk f) (no_map_chunk g) = refl
stage_once s room a n m (no_map x f) (no_map y g) = refl
stage_once s room a n m (no_entry x f) (no_entry y g) = refl
stage_once s room a n m (no_chunk x l (no_head f)) (no_chunk y k (no_head g)) = refl
stage_once s room a n m (no_chunk x l (misnamed h)) (no_chunk y k (misnamed i)) = refl
stage_once s room a n m (no_chunk x l (no_data h f)) (no_chunk y k (no_data i g)) = refl
stage_once s room a n m (table_short x) (table_short y) = refl
stage_once s room a n m (tree_fault {r = r} x f) (tree_fault {r = q} y g) =
    let e = chunk_at_unique s _ r q x y in
    fault_inj (sym (read_fault s q n (rw e at f)) ∙ read_fault s q m g)
stage_once s room a n m (no_sizes x f) (no_sizes y g) = refl
stage_once s room a n m (compressed x f) (compressed y g) = refl
stage_once s room a n m (wrong_bits x f) (wrong_bits y g) = refl
stage_once s room a n m (wrong_shape x f) (wrong_shape y g) = refl
stage_once s room a n m (no_level x f) (no_level y g) = refl
stage_once s room a n m (walk_fault {es = es} {i = i} x f) (walk_fault {es = fs} {i = j} y g) =
    let (e, p) = experiment_unique s fs es j i y x in
    refused_inj (sym (refused_walk s es i x n f) ∙ refused_walk s es i x m (rw (e, p) at g))
stage_once s room a n m (misjudged {es = es} {i = i} {bs = bs} x v f) (misjudged {es = fs} {i = j} {bs = cs} y w g) =
    let (e, p) = experiment_unique s fs es j i y x in
    let q : cs ≡ bs = given_inj (sym (given_walk s es i x cs (rw (e, p) at w)) ∙ given_walk s es i x bs v) in
    refused_inj (sym (fault_judge [] (reverse bs) n f) ∙ fault_judge [] (reverse bs) m (rw q at g))
stage_once s room a n m (plane_over x h) (plane_over y k) = refl
stage_once s room a n m (calibration_short x) (calibration_short y) = refl
