-- The first refusal of an experiment's loops is the one that the walk gives, or the judging after it. Assumes nothing.
use Prim.Native.Nat.{ℕ, zero, suc, ◌<◌}
use mathlib.Core.Path.{◌≡◌, refl, sym, ◌∙◌}
use mathlib.Core.Bool.{Bool, true, false, cond, true≢false}
use mathlib.Core.List.{List, [], ◌∷◌, ◌++◌, reverse}
use lib.Dec.{eqb, lit<}
use borrow.Author.Tests.{eqb-true, eqb-false, eq-eqb, ne_eqb}
use Rattle.format.proofs.Ground.Answers.{refused≢given, refused_inj, then_given}
use Rattle.format.proofs.Values.Meaning.{Means}
use Rattle.format.proofs.Loops.OneLevel.{stops_said, loop_said, unfit_said, below_in}
use Rattle.format.proofs.Trees.Depths.{Ranked}
use Rattle.format.proofs.Loops.Appended.{Each, one, Axial, walks_axial, loop_of, on_axis, not_custom}
use Rattle.format.proofs.Loops.LevelsBelow.{Fine, not_deepest, kids_fine}
use Rattle.format.proofs.Loops.Walks.{walks_walk, top_levels}
use Rattle.format.proofs.Frames.Places.{has_free, free_has}
use Rattle.format.specs.Answer.{Answer, given, refused, refuse_if, and_then}
use Rattle.format.specs.Bytes.{ascii}
use Rattle.format.specs.Refusals as why
use Rattle.format.specs.Trees.{most_depth}
use Rattle.format.specs.Values.{level}
use Rattle.format.specs.Loops.{Built, append, walk_all, walk_one, walk, axis_of, has_axis, judge}
use Rattle.format.specs.Grammar.Lists.{All, over, more}
use Rattle.format.specs.Grammar.Values.{Field}
use Rattle.format.specs.Grammar.Loops.{LoopAt, Below, Walks, done, stops, spectral, appends, Free}
use Rattle.format.specs.Refused.Loops.{type_negative, type_other, count_over, WalkFaults, here, below, behind_stop, behind_loop, Misjudged}
use Rattle.format.specs.Refused.Loops.{custom, twice, later}
use Rattle.format.specs.declared.Entry.{Entry}
use Rattle.format.specs.declared.Axis.{Axis}
use Rattle.format.specs.declared.Loop.{Loop}

-- ---- the walk

module _ (s : List ℕ) (es : List Entry) (D : ℕ → ℕ) (R : Ranked D 0 es) (M : Means s es) where
  -- the walk of the levels below i, where that is a loop of type t and count c
  under : ℕ → ℕ → ℕ → ℕ → List ℕ → List Built → Answer (List Built)
  under m t c n ks bs = cond (eqb t 6) (walk_all (λ i. walk m s es i n) ks bs) (walk_all (λ i. walk m s es i (suc n)) ks (append t c n bs))

  -- what holds of it at every nesting, whatever was appended before
  under_by : (P : Answer (List Built) → Type 0) (m t c n : ℕ) (ks : List ℕ) (bs : List Built)
      → ((d : ℕ) (cs : List Built) → P (walk_all (λ i. walk m s es i d) ks cs)) → P (under m t c n ks bs)
  unfolding under
  under_by P m t c n ks bs f = go (eqb t 6)
    where
      go : (b : Bool) → P (cond b (walk_all (λ i. walk m s es i n) ks bs) (walk_all (λ i. walk m s es i (suc n)) ks (append t c n bs)))
      go true = f n bs
      go false = f (suc n) (append t c n bs)

  loop_walk : (m i t c n : ℕ) (ks : List ℕ) (bs : List Built) → LoopAt s es i t c → Below s es i ks → walk (suc m) s es i n bs ≡ under m t c n ks bs
  unfolding walk walk_one under
  loop_walk m i t c n ks bs x b = rw (loop_said s es M i t c x, (below_in s es M i).only ks b) refl

  below_fine : (m i : ℕ) (ks : List ℕ) → Fine D (suc m) i → Below s es i ks → All (Fine D m) ks
  below_fine m i ks f b = rw ((below_in s es M i).only ks b) at (kids_fine s es D R m i f)

  -- an answer that is given
  data Whole : Answer (List Built) → Type 0 where
    whole : {bs : List Built} → Whole (given bs)

  whole_then : (x : Answer (List Built)) (k : List Built → Answer (List Built)) → Whole x → ((bs : List Built) → Whole (k bs)) → Whole (and_then x k)
  unfolding and_then
  whole_then x k (whole {bs = bs}) f = f bs

  whole_on : {k : ℕ} (x : Answer (List Built)) (f : List Built → Answer (List Built)) → Whole x → ((bs : List Built) → f bs ≡ refused k)
      → and_then x f ≡ refused k
  unfolding and_then
  whole_on x f (whole {bs = bs}) h = h bs

  -- levels that pass once pass at every nesting, whatever was appended before
  walks_pass : (left : ℕ) (is : List ℕ) (d : ℕ) (bs bs' : List Built) → All (Fine D left) is → Walks s es is d bs bs'
      → (n : ℕ) (cs : List Built) → Whole (walk_all (λ i. walk left s es i n) is cs)
  unfolding walk_all walk walk_one and_then
  walks_pass left is d bs bs' a done n cs = whole
  walks_pass zero is d bs bs' (more f a) (stops x w) n cs = absurd (not_deepest f)
  walks_pass (suc m) is d bs bs' (more f a) (stops {i = i} {is = js} x w) n cs = rw (stops_said s es M i x) (walks_pass (suc m) js d bs bs' a w n cs)
  walks_pass zero is d bs bs' (more f a) (spectral x b k w) n cs = absurd (not_deepest f)
  walks_pass (suc m) is d bs bs' (more f a) (spectral {i = i} {c = c} {is = js} {ks = ks} {bs₁ = bs₁} x b k w) n cs =
      rw (loop_walk m i 6 c n ks cs x b)
      (whole_then (under m 6 c n ks cs) _ (under_by Whole m 6 c n ks cs (walks_pass m ks d bs bs₁ (below_fine m i ks f b) k))
      (walks_pass (suc m) js d bs₁ bs' a w n))
  walks_pass zero is d bs bs' (more f a) (appends x h p b k w) n cs = absurd (not_deepest f)
  walks_pass (suc m) is d bs bs' (more f a) (appends {i = i} {t = t} {c = c} {is = js} {ks = ks} {bs₁ = bs₁} {bs₂ = bs₂} x h p b k w) n cs =
      rw (loop_walk m i t c n ks cs x b)
      (whole_then (under m t c n ks cs) _ (under_by Whole m t c n ks cs (walks_pass m ks (suc d) bs₁ bs₂ (below_fine m i ks f b) k))
      (walks_pass (suc m) js d bs₂ bs' a w n))

  -- the walk is refused with its first refusal's number
  faults_walk : (left : ℕ) (is : List ℕ) (k : ℕ) → All (Fine D left) is → WalkFaults s es is k → (n : ℕ) (bs : List Built)
      → walk_all (λ i. walk left s es i n) is bs ≡ refused k
  unfolding walk_all walk walk_one and_then
  faults_walk zero is k over x n bs = elim x [ ]
  faults_walk (suc m) is k over x n bs = elim x [ ]
  faults_walk zero is k (more f a) (here x) n bs = absurd (not_deepest f)
  faults_walk (suc m) is k (more f a) (here {i = i} x) n bs = rw (unfit_said s es M i k x) refl
  faults_walk zero is k (more f a) (below x b q) n bs = absurd (not_deepest f)
  faults_walk (suc m) is k (more f a) (below {i = i} {t = t} {c = c} {ks = ks} x b q) n bs =
      rw (loop_walk m i t c n ks bs x b, under_by (λ y. y ≡ refused k) m t c n ks bs (faults_walk m ks k (below_fine m i ks f b) q)) refl
  faults_walk zero is k (more f a) (behind_stop x q) n bs = absurd (not_deepest f)
  faults_walk (suc m) is k (more f a) (behind_stop {i = i} {is = js} x q) n bs = rw (stops_said s es M i x) (faults_walk (suc m) js k a q n bs)
  faults_walk zero is k (more f a) (behind_loop x b w q) n bs = absurd (not_deepest f)
  faults_walk (suc m) is k (more f a) (behind_loop {i = i} {t = t} {c = c} {m = d} {is = js} {ks = ks} {bs = cs} {bs' = ds} x b w q) n bs =
      rw (loop_walk m i t c n ks bs x b)
      (whole_on (under m t c n ks bs) _ (under_by Whole m t c n ks bs (walks_pass m ks d cs ds (below_fine m i ks f b) w)) (faults_walk (suc m) js k a q n))

-- its number, 15 or 16, is below 18
pub walk_number : (s : List ℕ) (es : List Entry) (is : List ℕ) (n : ℕ) → WalkFaults s es is n → (0 < n) × (n < why.table)
walk_number s es is n (here (type_negative x y)) = (lit< tt, lit< tt)
walk_number s es is n (here (type_other x y h l f)) = (lit< tt, lit< tt)
walk_number s es is n (here (count_over x y k h)) = (lit< tt, lit< tt)
walk_number s es is n (below {ks = ks} x b q) = walk_number s es ks n q
walk_number s es is n (behind_stop {is = js} x q) = walk_number s es js n q
walk_number s es is n (behind_loop {is = js} x b w q) = walk_number s es js n q

-- from the experiment's level on
module _ (s : List ℕ) (es : List Entry) (D : ℕ → ℕ) (R : Ranked D 0 es) (M : Means s es) (i : ℕ) (there : Field s es 0 (ascii "SLxExperiment") (level i)) where
  pub fault_walk : (k : ℕ) → WalkFaults s es (i ∷ []) k → walk most_depth s es i 0 [] ≡ refused k
  unfolding walk_all
  fault_walk k q = sym (then_given (walk most_depth s es i 0 [])) ∙ faults_walk s es D R M most_depth (i ∷ []) k (top_levels s es D R M i there) q 0 []

  pub levels_walk : (bs : List Built) → Walks s es (i ∷ []) 0 [] bs → walk most_depth s es i 0 [] ≡ given bs
  unfolding walk_all
  levels_walk bs w = sym (then_given (walk most_depth s es i 0 [])) ∙ walks_walk s es D R M most_depth (i ∷ []) 0 [] bs (top_levels s es D R M i there) w

-- ---- the appended loops, judged

judge_fault_read : (ls : List Loop) (bs : List Built) (n : ℕ) → Each Axial bs → judge ls bs ≡ refused n → Misjudged ls bs n
unfolding judge refuse_if
judge_fault_read ls [] n a e = absurd (refused≢given (sym e))
judge_fault_read ls (b ∷ bs) n (one k a) e =
    go (eqb b.kind 7) refl (has_axis (axis_of b.kind) ls) refl (judge_fault_read (ls ++ loop_of b ∷ []) bs n a) e
  where
    go : (x : Bool) → eqb b.kind 7 ≡ x → (y : Bool) → has_axis (axis_of b.kind) ls ≡ y
        → (judge (ls ++ loop_of b ∷ []) bs ≡ refused n → Misjudged (ls ++ loop_of b ∷ []) bs n)
        → refuse_if x why.loop_kind (refuse_if y why.axis_twice (judge (ls ++ loop_of b ∷ []) bs)) ≡ refused n → Misjudged ls (b ∷ bs) n
    go true p y q f e = rw (← refused_inj e) (custom (eqb-true _ _ p))
    go false p true q f e =
        rw (← refused_inj e) (twice (k (eqb-false _ _ p)) λ g. true≢false (sym q ∙ free_has (axis_of b.kind) ls g))
    go false p false q f e = later (k (eqb-false _ _ p)) (has_free (axis_of b.kind) ls q) (f e)

pub fault_judge : (ls : List Loop) (bs : List Built) (n : ℕ) → Misjudged ls bs n → judge ls bs ≡ refused n
unfolding judge refuse_if
fault_judge ls bs n (custom {b = b} h) = rw (eq-eqb b.kind 7 h) refl
fault_judge ls bs n (twice {b = b} {a = a} o f) = rw (ne_eqb b.kind 7 (not_custom b.kind a o), ← on_axis b.kind a o, not_free a ls f) refl
  where
    not_free : (a : Axis) (ls : List Loop) → (Free a ls → ⊥) → has_axis a ls ≡ true
    not_free a ls f = go (has_axis a ls) refl
      where
        go : (y : Bool) → has_axis a ls ≡ y → y ≡ true
        go true q = refl
        go false q = absurd (f (has_free a ls q))
fault_judge ls bs n (later {b = b} {bs = cs} {a = a} o f m) =
    rw (ne_eqb b.kind 7 (not_custom b.kind a o), ← on_axis b.kind a o, free_has a ls f)
    (fault_judge (ls ++ record { axis = a; count = b.count } ∷ []) cs n m)

-- the number, 15 or 17, is below 18
pub judge_number : (ls : List Loop) (bs : List Built) (n : ℕ) → Misjudged ls bs n → (0 < n) × (n < why.table)
judge_number ls bs n (custom h) = (lit< tt, lit< tt)
judge_number ls bs n (twice o f) = (lit< tt, lit< tt)
judge_number ls bs n (later {bs = cs} o f m) = judge_number _ cs n m

-- the loops of a walk, in order
pub judge_read : (s : List ℕ) (es : List Entry) (is : List ℕ) (d : ℕ) (bs : List Built) → Walks s es is d [] bs → (n : ℕ) → judge [] (reverse bs) ≡ refused n
    → Misjudged [] (reverse bs) n
judge_read s es is d bs w n e = judge_fault_read [] (reverse bs) n (walks_axial s es is d bs w) e
