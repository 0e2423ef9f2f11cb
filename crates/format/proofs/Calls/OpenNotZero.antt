-- A refused walk has a number that is not 0, and so has a refused opening. Assumes nothing.
use Prim.Native.Nat.{ℕ, zero, suc, ◌<◌}
use mathlib.Core.Path.{refl}
use mathlib.Core.Bool.{Bool, true, false, cond, not, ◌||◌}
use mathlib.Core.Option.{Option, none, some}
use mathlib.Core.List.{List, [], ◌∷◌}
use lib.Dec.{ltb, eqb, lit<}
use lib.IntN.{ℤ, pos, negsuc}
use Rattle.format.proofs.Ground.Answers.{Numbered, NotZero, refusal, answer, and_then_numbered}
use Rattle.format.proofs.Ground.Lists.{all_in}
use Rattle.format.proofs.Ground.Orders.{nonzero}
use Rattle.format.proofs.Ground.Stages.{decides_numbered}
use Rattle.format.proofs.Trees.ByRules.{fault_number, tree_faults}
use Rattle.format.proofs.Map.Chunks.{chunk_staged}
use Rattle.format.proofs.Loops.Faults.{walk_number, judge_number}
use Rattle.format.proofs.Calls.Open.{open_decides}
use Rattle.format.specs.Answer.{Answer}
use Rattle.format.specs.Bytes.{ascii}
use Rattle.format.specs.Values.{field_in, bind}
use Rattle.format.specs.Numbers.{signed}
use Rattle.format.specs.Loops.{Said, nothing, wrong, loop, said, said_by, typed, counted, supported, most_count, point_count, spectral_count}
use Rattle.format.specs.Loops.{count_field, Built, append, walk_all, walk_one, walk, loop_params}
use Rattle.format.specs.Calls.Open.{opened}
use Rattle.format.specs.Refused.Open.{Stage, needed, OpenRefusal, no_mark, old_mark, other_mark, no_tail, wrong_tail, no_map_chunk, no_map}
use Rattle.format.specs.Refused.Open.{no_entry, no_chunk, table_short, tree_fault, no_sizes, compressed, wrong_bits, wrong_shape, no_level}
use Rattle.format.specs.Refused.Open.{walk_fault, misjudged, plane_over, calibration_short}
use Rattle.format.specs.declared.Entry.{Entry}

-- an answer whose refusals are not 0
abbrev Some : {A : Type 0} → Answer A → Type 0
Some x = Numbered NotZero x

-- ---- the walk

-- a refusal in the walk is not 0
data Fine : Said → Type 0 where
  no_loop : Fine nothing
  wrong_some : {n : ℕ} → 0 < n → Fine (wrong n)
  a_loop : {t c : ℕ} → Fine (loop t c)

if_fine : (b : Bool) (x y : Said) → Fine x → Fine y → Fine (cond b x y)
if_fine true x y p q = p
if_fine false x y p q = q

typed_fine : (s : List ℕ) (es : List Entry) (i p : ℕ) (t : ℤ) → Fine (typed s es i p t)
unfolding typed counted
typed_fine s es i p (negsuc t) = wrong_some (lit< tt)
typed_fine s es i p (pos t) =
    let c = cond (eqb t 2) (point_count s es i p) (cond (eqb t 6) (spectral_count s es p) (count_field s es p)) in
    if_fine (eqb t 0 || ltb 10 t) _ _ no_loop
    (if_fine (not (supported t)) _ _ (wrong_some (lit< tt))
    (if_fine (ltb most_count c) _ _ (wrong_some (lit< tt)) (if_fine (eqb c 0) _ _ no_loop a_loop)))

said_fine : (s : List ℕ) (es : List Entry) (i : ℕ) → Fine (said s es i)
unfolding said said_by
said_fine s es i = go (loop_params s es (field_in s es i (ascii "uLoopPars"))) (bind (field_in s es i (ascii "eType")) signed)
  where
    go : (p : Option ℕ) (t : Option ℤ) → Fine (said_by s es i p t)
    go none t = no_loop
    go (some p) none = no_loop
    go (some p) (some t) = typed_fine s es i p t

all_some : (go : ℕ → List Built → Answer (List Built)) → ((i : ℕ) (bs : List Built) → Some (go i bs)) → (is : List ℕ) (bs : List Built)
    → Some (walk_all go is bs)
unfolding walk_all
all_some go f [] bs = answer
all_some go f (i ∷ is) bs = and_then_numbered (go i bs) (walk_all go is) (f i bs) λ cs. all_some go f is cs

one_some : (go : ℕ → ℕ → List Built → Answer (List Built)) → ((i n : ℕ) (bs : List Built) → Some (go i n bs))
    → (kids : List ℕ) (n : ℕ) (bs : List Built) (x : Said)
    → Fine x → Some (walk_one go kids n bs x)
unfolding walk_one
one_some go f kids n bs x no_loop = answer
one_some go f kids n bs x (wrong_some h) = refusal h
one_some go f kids n bs x (a_loop {t = t} {c = c}) = by (eqb t 6)
  where
    by : (b : Bool) → Some (cond b (walk_all (λ i. go i n) kids bs) (walk_all (λ i. go i (suc n)) kids (append t c n bs)))
    by true = all_some (λ i. go i n) (λ i cs. f i n cs) kids bs
    by false = all_some (λ i. go i (suc n)) (λ i cs. f i (suc n) cs) kids (append t c n bs)

pub walk_some : (levels : ℕ) (s : List ℕ) (es : List Entry) (i n : ℕ) (bs : List Built) → Some (walk levels s es i n bs)
unfolding walk
walk_some zero s es i n bs = answer
walk_some (suc levels) s es i n bs = one_some (walk levels s es) (walk_some levels s es) _ n bs (said s es i) (said_fine s es i)

-- ---- opening

stage_some : (s : List ℕ) (room : ℕ) (a : Stage) (n : ℕ) → OpenRefusal s room a n → NotZero n
stage_some s room a n (no_mark h) = lit< tt
stage_some s room a n (old_mark h e) = lit< tt
stage_some s room a n (other_mark h f g) = lit< tt
stage_some s room a n (no_tail h) = lit< tt
stage_some s room a n (wrong_tail h f) = lit< tt
stage_some s room a n (no_map_chunk f) = lit< tt
stage_some s room a n (no_map x f) = lit< tt
stage_some s room a n (no_entry x f) = lit< tt
stage_some s room a n (no_chunk {w = w} {o = o} {a = b} x l c) = (chunk_staged (needed w) s o b n c).1
stage_some s room a n (table_short x) = lit< tt
stage_some s room a n (tree_fault {r = r} x f) = all_in (fault_number s r n f) (nonzero tree_faults refl)
stage_some s room a n (no_sizes x f) = lit< tt
stage_some s room a n (compressed x f) = lit< tt
stage_some s room a n (wrong_bits x f) = lit< tt
stage_some s room a n (wrong_shape x f) = lit< tt
stage_some s room a n (no_level x f) = lit< tt
stage_some s room a n (walk_fault {es = es} {i = i} x f) = (walk_number s es (i ∷ []) n f).0
stage_some s room a n (misjudged x w f) = (judge_number [] _ n f).0
stage_some s room a n (plane_over x h) = lit< tt
stage_some s room a n (calibration_short x) = lit< tt

pub opened_some : (s : List ℕ) (room : ℕ) → Numbered NotZero (opened s room)
opened_some s room = decides_numbered (stage_some s room) (open_decides s room)
