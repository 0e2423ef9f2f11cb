-- The grammar's loops are those that the walk finds. Assumes nothing.
use Prim.Native.Nat.{ℕ, zero, suc, max}
use mathlib.Core.Path.{◌≡◌, refl, sym, ap, ◌∙◌, subst}
use mathlib.Core.Bool.{Bool, true, false, cond, ◌&&◌}
use mathlib.Core.List.{List, [], ◌∷◌, ◌++◌, map, reverse, append_assoc, append-nil}
use native.Mathlib.Omega.{arith}
use lib.Dec.{eqb, ltb}
use borrow.Author.Tests.{ltb-true, ltb-false, lt-ltb, le-ltb, eqb-true, eqb-false, eq-eqb, ne_eqb}
use Rattle.format.proofs.Ground.Answers.{refused≢given, refused_inj, refuse_if_given, and_then_given, given_inj, not_refused, go_on, then_given}
use Rattle.format.proofs.Values.Meaning.{Means}
use Rattle.format.proofs.Loops.OneLevel.{Told, told, stops_said, loop_said, below_in}
use Rattle.format.proofs.Trees.Depths.{Ranked}
use Rattle.format.proofs.Loops.Appended.{Each, one, Axial, walks_axial, loop_of, on_axes, not_custom}
use Rattle.format.proofs.Loops.LevelsBelow.{Fine, not_deepest, kids_fine, top_fine}
use Rattle.format.proofs.Frames.Places.{has_free, free_has}
use Rattle.format.specs.Answer.{Answer, given, refused, and_then}
use Rattle.format.specs.Bytes.{ascii}
use Rattle.format.specs.Trees.{most_depth}
use Rattle.format.specs.Values.{level, field_in}
use Rattle.format.specs.Loops.{child_levels, Said, nothing, wrong, loop, said, Built, append, walk_all, walk_one, walk, axis_of, has_axis, judge, experiment}
use Rattle.format.specs.Grammar.Lists.{All, more}
use Rattle.format.specs.Grammar.Values.{Field}
use Rattle.format.specs.Grammar.Loops.{LoopAt}
use Rattle.format.specs.Grammar.Loops.{Appended, first, deeper, larger, dropped, Walks, done, stops, spectral, appends, OnAxes, Free, Distinct, LoopsOf}
use Rattle.format.specs.Grammar.Loops.{nil, cons}
use Rattle.format.specs.Refused.Loops.{WalkFaults, here, below, behind_stop, behind_loop}
use Rattle.format.specs.declared.Entry.{Entry}
use Rattle.format.specs.declared.Axis.{Axis}
use Rattle.format.specs.declared.Loop.{Loop}

-- ---- the walk

append_is : (t c n : ℕ) (bs bs' : List Built) → Appended t c n bs bs' → append t c n bs ≡ bs'
unfolding append
append_is t c n bs bs' first = refl
append_is t c n bs bs' (deeper h) = rw (lt-ltb _ _ h) refl
append_is t c n bs bs' (larger {b = b} {bs = cs} p q) =
    let h : ltb b.nesting n ≡ false = le-ltb b.nesting n (omega arith) in
    rw (h, eq-eqb b.nesting n p, eq-eqb b.kind t q) refl
append_is t c n bs bs' (dropped {b = b} {bs = cs} h f) =
    rw (le-ltb b.nesting n h) (go (eqb b.nesting n) refl (eqb b.kind t) refl)
  where
    go : (x : Bool) → eqb b.nesting n ≡ x → (y : Bool) → eqb b.kind t ≡ y
        → cond (x && y) (record { kind = t; count = max b.count c; nesting = n } ∷ cs) (b ∷ cs) ≡ b ∷ cs
    go true p true q = absurd (f (eqb-true _ _ p) (eqb-true _ _ q))
    go true p false q = refl
    go false p y q = refl

is_append : (t c n : ℕ) (bs : List Built) → Appended t c n bs (append t c n bs)
unfolding append
is_append t c n [] = first
is_append t c n (b ∷ bs) = go (ltb b.nesting n) refl (eqb b.nesting n) refl (eqb b.kind t) refl
  where
    go : (x : Bool) → ltb b.nesting n ≡ x → (y : Bool) → eqb b.nesting n ≡ y → (z : Bool) → eqb b.kind t ≡ z
        → Appended t c n (b ∷ bs)
        (cond x (record { kind = t; count = c; nesting = n } ∷ b ∷ bs)
        (cond (y && z) (record { kind = t; count = max b.count c; nesting = n } ∷ bs) (b ∷ bs)))
    go true p y q z r = deeper (ltb-true _ _ p)
    go false p true q true r = larger (eqb-true _ _ q) (eqb-true _ _ r)
    go false p true q false r = dropped (ltb-false _ _ p) (λ _. eqb-false _ _ r)
    go false p false q z r = dropped (ltb-false _ _ p) (λ e _. eqb-false _ _ q e)

module _ (s : List ℕ) (es : List Entry) (D : ℕ → ℕ) (R : Ranked D 0 es) (M : Means s es) where
  pub walks_walk : (left : ℕ) (is : List ℕ) (n : ℕ) (bs bs' : List Built) → All (Fine D left) is → Walks s es is n bs bs'
      → walk_all (λ i. walk left s es i n) is bs ≡ given bs'
  unfolding walk_all walk walk_one and_then
  walks_walk left is n bs bs' a done = refl
  walks_walk zero is n bs bs' (more f a) (stops x w) = absurd (not_deepest f)
  walks_walk (suc m) is n bs bs' (more f a) (stops {i = i} {is = js} x w) = rw (stops_said s es M i x) (walks_walk (suc m) js n bs bs' a w)
  walks_walk zero is n bs bs' (more f a) (spectral x b k w) = absurd (not_deepest f)
  walks_walk (suc m) is n bs bs' (more f a) (spectral {i = i} {c = c} {is = js} {ks = ks} {bs₁ = cs} x b k w) =
      let q = (below_in s es M i).only ks b in
      rw (loop_said s es M i 6 c x, q, walks_walk m ks n bs cs (rw q at (kids_fine s es D R m i f)) k) (walks_walk (suc m) js n cs bs' a w)
  walks_walk zero is n bs bs' (more f a) (appends x h p b k w) = absurd (not_deepest f)
  walks_walk (suc m) is n bs bs' (more f a) (appends {i = i} {t = t} {c = c} {is = js} {ks = ks} {bs₁ = cs} {bs₂ = ds} x h p b k w) =
      let q = (below_in s es M i).only ks b in
      rw (loop_said s es M i t c x, ne_eqb t 6 h, append_is t c n bs cs p, q, walks_walk m ks (suc n) cs ds (rw q at (kids_fine s es D R m i f)) k)
      (walks_walk (suc m) js n ds bs' a w)

  -- what the walk over the experiment levels `is` comes to
  pub data Walked (is : List ℕ) (n : ℕ) (bs : List Built) : Answer (List Built) → Type 0 where
    faulty : {k : ℕ} → WalkFaults s es is k → Walked is n bs (refused k)
    whole : {bs' : List Built} → Walks s es is n bs bs' → Walked is n bs (given bs')

  -- one level deeper than what is known
  walked_more : (m : ℕ) → ((is : List ℕ) (n : ℕ) (bs : List Built) → All (Fine D m) is → Walked is n bs (walk_all (λ i. walk m s es i n) is bs))
      → (is : List ℕ) (n : ℕ) (bs : List Built) → All (Fine D (suc m)) is → Walked is n bs (walk_all (λ i. walk (suc m) s es i n) is bs)
  unfolding walk_all walk walk_one and_then Told
  walked_more m ih [] n bs a = whole done
  walked_more m ih (i ∷ is) n bs (more f a) = go (λ cs. walked_more m ih is n cs a) (said s es i) (told s es M i)
    where
      ks : List ℕ
      ks = child_levels s es (field_in s es i (ascii "ppNextLevelEx"))

      fine : All (Fine D m) ks
      fine = kids_fine s es D R m i f

      rest : List Built → Answer (List Built)
      rest = walk_all (λ i. walk (suc m) s es i n) is

      -- behind the level i
      behind : {cs : List Built} {x : Answer (List Built)} → Walked is n cs x → ((k : ℕ) → WalkFaults s es is k → WalkFaults s es (i ∷ is) k)
          → ((ds : List Built) → Walks s es is n cs ds → Walks s es (i ∷ is) n bs ds) → Walked (i ∷ is) n bs x
      behind (faulty q) f g = faulty (f _ q)
      behind (whole w) f g = whole (g _ w)

      -- below it, and then behind it
      below_it : {d : ℕ} {cs : List Built} {x : Answer (List Built)} → Walked ks d cs x → ((k : ℕ) → WalkFaults s es ks k → WalkFaults s es (i ∷ is) k)
          → ((ds : List Built) → Walks s es ks d cs ds → Walked (i ∷ is) n bs (rest ds)) → Walked (i ∷ is) n bs (and_then x rest)
      below_it (faulty q) f g = faulty (f _ q)
      below_it (whole w) f g = g _ w

      kind : ((cs : List Built) → Walked is n cs (rest cs)) → (t c : ℕ) → LoopAt s es i t c → (b : Bool) → eqb t 6 ≡ b
          → Walked (i ∷ is) n bs (and_then (cond b (walk_all (λ i. walk m s es i n) ks bs) (walk_all (λ i. walk m s es i (suc n)) ks (append t c n bs))) rest)
      kind later t c x true h =
          let k = (below_in s es M i).holds in
          below_it (ih ks n bs fine) (λ _. below x k) λ cs w.
          behind (later cs) (λ _. behind_loop x k w) λ ds v. spectral (rw (eqb-true t 6 h) at x) k w v
      kind later t c x false h =
          let k = (below_in s es M i).holds in
          below_it (ih ks (suc n) (append t c n bs) fine) (λ _. below x k) λ cs w.
          behind (later cs) (λ _. behind_loop x k w) λ ds v. appends x (eqb-false t 6 h) (is_append t c n bs) k w v

      go : ((cs : List Built) → Walked is n cs (rest cs)) → (x : Said) → Told s es i x → Walked (i ∷ is) n bs (and_then (walk_one (walk m s es) ks n bs x) rest)
      go later nothing q = behind (later bs) (λ _. behind_stop q) λ ds. stops q
      go later (wrong k) q = faulty (here q)
      go later (loop t c) q = kind later t c q (eqb t 6) refl

  pub walked : (left : ℕ) (is : List ℕ) (n : ℕ) (bs : List Built) → All (Fine D left) is → Walked is n bs (walk_all (λ i. walk left s es i n) is bs)
  unfolding walk_all
  walked zero [] n bs a = whole done
  walked zero (i ∷ is) n bs (more f a) = absurd (not_deepest f)
  walked (suc m) is n bs a = walked_more m (walked m) is n bs a

-- ---- the appended loops, judged

free_snoc : (a : Axis) (ls : List Loop) (l : Loop) → Free a ls → (l.axis ≡ a → ⊥) → Free a (ls ++ l ∷ [])
free_snoc a [] l f h = cons h nil
free_snoc a (k ∷ ls) l (cons g f) h = cons g (free_snoc a ls l f h)

distinct_snoc : (ls : List Loop) (l : Loop) → Distinct ls → Free l.axis ls → Distinct (ls ++ l ∷ [])
distinct_snoc [] l d f = cons nil nil
distinct_snoc (k ∷ ls) l (cons g d) (cons h f) = cons (free_snoc k.axis ls l g (λ e. h (sym e))) (distinct_snoc ls l d f)

free_head : (a : Axis) (ls : List Loop) (l : Loop) (ms : List Loop) → Free a (ls ++ l ∷ ms) → (l.axis ≡ a → ⊥)
free_head a [] l ms (cons h f) = h
free_head a (k ∷ ls) l ms (cons h f) = free_head a ls l ms f

distinct_free : (ls : List Loop) (l : Loop) (ms : List Loop) → Distinct (ls ++ l ∷ ms) → Free l.axis ls
distinct_free [] l ms d = nil
distinct_free (k ∷ ls) l ms (cons f d) = cons (λ e. free_head k.axis ls l ms f (sym e)) (distinct_free ls l ms d)

snoc_more : (ls : List Loop) (l : Loop) (ms : List Loop) → (ls ++ l ∷ []) ++ ms ≡ ls ++ l ∷ ms
snoc_more ls l ms = append_assoc ls (l ∷ []) ms

judge_read : (ls : List Loop) (bs : List Built) (ms : List Loop) → Each Axial bs → Distinct ls → judge ls bs ≡ given ms
    → OnAxes bs (map loop_of bs) × (ms ≡ ls ++ map loop_of bs) × Distinct ms
unfolding judge
judge_read ls [] ms a d e = let q : ls ≡ ms = given_inj e in (nil, sym q ∙ sym (append-nil ls), rw (← q) d)
judge_read ls (b ∷ bs) ms (one k a) d e =
    let (f₁, e₁) = refuse_if_given (eqb b.kind 7) 15 _ e in
    let (f₂, e₂) = refuse_if_given (has_axis (axis_of b.kind) ls) 17 _ e₁ in
    let (r₁, r₂, r₃) = judge_read (ls ++ loop_of b ∷ []) bs ms a (distinct_snoc ls (loop_of b) d (has_free (axis_of b.kind) ls f₂)) e₂ in
    (cons (k (eqb-false _ _ f₁)) refl r₁, r₂ ∙ snoc_more ls (loop_of b) (map loop_of bs), r₃)

read_judge : (ls : List Loop) (bs : List Built) → OnAxes bs (map loop_of bs) → Distinct (ls ++ map loop_of bs) → judge ls bs ≡ given (ls ++ map loop_of bs)
unfolding judge
read_judge ls [] x d = rw append-nil refl
read_judge ls (b ∷ bs) (cons o e x) d =
    not_refused (eqb b.kind 7) 15 _ _ (ne_eqb _ _ (not_custom b.kind _ o))
    (not_refused (has_axis (axis_of b.kind) ls) 17 _ _ (free_has (axis_of b.kind) ls (distinct_free ls (loop_of b) (map loop_of bs) d))
    (read_judge (ls ++ loop_of b ∷ []) bs x (rw snoc_more d) ∙ ap given (snoc_more ls (loop_of b) (map loop_of bs))))

-- ---- the experiment's level of a tree

module _ (s : List ℕ) (es : List Entry) (D : ℕ → ℕ) (R : Ranked D 0 es) (M : Means s es) (i : ℕ) (there : Field s es 0 (ascii "SLxExperiment") (level i)) where
  pub top_levels : All (Fine D most_depth) (i ∷ [])
  unfolding ascii
  top_levels = top_fine s es D R (ascii "SLxExperiment") i (M.of_field 0 _ _ (level i) there)

  -- what it comes to from the experiment's level on
  top : Walked s es D R M (i ∷ []) 0 [] (walk most_depth s es i 0 [])
  unfolding walk_all
  top = rw (then_given (walk most_depth s es i 0 [])) at (walked s es D R M most_depth (i ∷ []) 0 [] top_levels)

  pub levels_read : (bs : List Built) → walk most_depth s es i 0 [] ≡ given bs → Walks s es (i ∷ []) 0 [] bs
  levels_read bs e = go (walk most_depth s es i 0 []) top e
    where
      go : (x : Answer (List Built)) → Walked s es D R M (i ∷ []) 0 [] x → x ≡ given bs → Walks s es (i ∷ []) 0 [] bs
      go (refused k) w e = absurd (refused≢given e)
      go (given cs) (whole w) e = rw (given_inj e) at w

  pub walk_fault_read : (k : ℕ) → walk most_depth s es i 0 [] ≡ refused k → WalkFaults s es (i ∷ []) k
  walk_fault_read k e = go (walk most_depth s es i 0 []) top e
    where
      go : (x : Answer (List Built)) → Walked s es D R M (i ∷ []) 0 [] x → x ≡ refused k → WalkFaults s es (i ∷ []) k
      go (refused m) (faulty q) e = rw (refused_inj e) at q
      go (given cs) w e = absurd (refused≢given (sym e))

  pub loops_read : (ls : List Loop) → experiment s es i ≡ given ls → LoopsOf s es i ls
  unfolding experiment walk_all
  loops_read ls e =
      let (bs, e₁, e₂) = and_then_given (walk most_depth s es i 0 []) _ e in
      let w = levels_read bs e₁ in
      let (r₁, r₂, r₃) = judge_read [] (reverse bs) ls (walks_axial s es (i ∷ []) 0 bs w) nil e₂ in
      record {
        built = bs;
        walked = w;
        on_axes = subst (OnAxes (reverse bs)) (sym r₂) r₁;
        distinct = r₃;
      }

  pub read_loops : (ls : List Loop) → LoopsOf s es i ls → experiment s es i ≡ given ls
  unfolding experiment walk_all
  read_loops ls x =
      let (bs, e₁, e₂) = and_then_given (walk most_depth s es i 0 []) _ (walks_walk s es D R M most_depth (i ∷ []) 0 [] x.built top_levels x.walked) in
      let e : ls ≡ map loop_of (reverse x.built) = on_axes (reverse x.built) ls x.on_axes in
      let j : judge [] (reverse x.built) ≡ given (map loop_of (reverse x.built)) =
      read_judge [] (reverse x.built) (subst (OnAxes (reverse x.built)) e x.on_axes) (subst Distinct e x.distinct) in
      go_on (walk most_depth s es i 0 []) _ x.built (e₁ ∙ e₂) (j ∙ ap given (sym e))
