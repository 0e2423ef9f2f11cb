-- A walk over experiment levels, step by step. Assumes nothing.
use Prim.Native.Nat.{ℕ, suc, ◌-◌}
use mathlib.Core.Path.{◌≡◌, refl, sym, ◌∙◌, subst}
use mathlib.Core.Bool.{Bool, true, false, cond}
use mathlib.Core.List.{List, [], ◌∷◌, reverse}
use native.Mathlib.Omega.{arith}
use lib.Dec.{eqb}
use Rattle.std.specs.Prelude as std
use Rattle.format.specs.Answer.{Answer, refused, given, and_then}
use Rattle.format.specs.Bytes.{ascii}
use Rattle.format.specs.Given.{number, answer}
use Rattle.format.specs.Trees.{most_depth}
use Rattle.format.specs.Values.{field_in}
use Rattle.format.specs.Loops.{child_levels, nothing, wrong, loop, said, Built, append, walk_all, walk_one, walk, judge, experiment}
use Rattle.format.specs.declared.Entry.{Entry}
use Rattle.format.specs.declared.refusal.Refusal.{Refusal}
use Rattle.experiment.specs.Kept.{Stands, Reached, handed}
use Rattle.experiment.specs.Walked.{Gives, went, stopped}
use Rattle.experiment.specs.declared.kept.Kept.{Kept}

-- ---- one level

-- the experiment levels below the level i
abbrev pub below : List ℕ → List Entry → ℕ → List ℕ
unfolding ascii
below s es i = child_levels s es (field_in s es i (ascii "ppNextLevelEx"))

module _ (s : List ℕ) (es : List Entry) (i n levels : ℕ) (bs : List Built) where
  walk_zero : levels ≡ 0 → walk levels s es i n bs ≡ given bs
  unfolding walk
  walk_zero h = rw h refl

  walk_step : (levels ≡ 0 → ⊥) → walk levels s es i n bs ≡ walk_one (walk (levels - 1) s es) (below s es i) n bs (said s es i)
  walk_step h = go levels (levels - 1) (omega arith)
    where
      go : (l m : ℕ) → l ≡ suc m → walk l s es i n bs ≡ walk_one (walk m s es) (below s es i) n bs (said s es i)
      go l m e = unfold walk in rw e refl

  module _ (h : levels ≡ 0 → ⊥) where
    walk_nothing : nothing ≡ said s es i → walk levels s es i n bs ≡ given bs
    walk_nothing e = walk_step h ∙ (unfold walk_one in rw (← e) refl)

    walk_wrong : (k : ℕ) → wrong k ≡ said s es i → walk levels s es i n bs ≡ refused k
    walk_wrong k e = walk_step h ∙ (unfold walk_one in rw (← e) refl)

    walk_loop : (t c : ℕ) → loop t c ≡ said s es i
        → walk levels s es i n bs ≡ walk_all (λ j. walk (levels - 1) s es j (cond (eqb t 6) n (suc n))) (below s es i) (cond (eqb t 6) bs (append t c n bs))
    walk_loop t c e = walk_step h ∙ (unfold walk_one in rw (← e) (by (eqb t 6)))
      where
        by : (b : Bool)
            → cond b (walk_all (λ j. walk (levels - 1) s es j n) (below s es i) bs)
            (walk_all (λ j. walk (levels - 1) s es j (suc n)) (below s es i) (append t c n bs))
            ≡ walk_all (λ j. walk (levels - 1) s es j (cond b n (suc n))) (below s es i) (cond b bs (append t c n bs))
        by true = refl
        by false = refl

-- ---- where a walk has come to

gives_as : {w : std.Result Kept Refusal} {x y : Answer (List Built)} → x ≡ y → Gives w y → Gives w x
gives_as {w} e g = subst (Gives w) (sym e) g

module _ (s : List ℕ) (es : List Entry) (i n levels : ℕ) (bs : List Built) where
  pub gives_zero : (k : Kept) → levels ≡ 0 → Stands k bs → Gives (std.Ok k) (walk levels s es i n bs)
  gives_zero k h t = gives_as (walk_zero s es i n levels bs h) (went t)

  module _ (h : levels ≡ 0 → ⊥) where
    pub gives_nothing : (k : Kept) → nothing ≡ said s es i → Stands k bs → Gives (std.Ok k) (walk levels s es i n bs)
    gives_nothing k e t = gives_as (walk_nothing s es i n levels bs h e) (went t)

    pub gives_wrong : (r : Refusal) → wrong (number r) ≡ said s es i → Gives (std.Err r) (walk levels s es i n bs)
    gives_wrong r e = gives_as (walk_wrong s es i n levels bs h (number r) e) (stopped refl)

    pub gives_loop : (w : std.Result Kept Refusal) (t c deeper : ℕ) (l : List ℕ) → loop t c ≡ said s es i → deeper ≡ cond (eqb t 6) n (suc n) → below s es i ≡ l
        → Gives w (walk_all (λ j. walk (levels - 1) s es j deeper) l (cond (eqb t 6) bs (append t c n bs))) → Gives w (walk levels s es i n bs)
    gives_loop w t c deeper l e d q g = gives_as (walk_loop s es i n levels bs h t c e) (rw (← d, q) g)

-- ---- level after level

-- from the loops of `first` the levels l go as from those of `now` the levels that are left
pub record On (go : ℕ → List Built → Answer (List Built)) (l : List ℕ) (first : Kept) (left : List ℕ) (now : Kept) : Type 0 where
  pub reached : Reached now
  pub from : (bs : List Built) → Stands first bs → (cs : List Built) × Stands now cs × (walk_all go l bs ≡ walk_all go left cs)

module _ (go : ℕ → List Built → Answer (List Built)) (l : List ℕ) (first : Kept) where
  pub on_first : Reached first → On go l first l first
  on_first r = record { reached = r; from = λ bs k. (bs, k, refl) }

  module _ (left : List ℕ) (now : Kept) (o : On go l first left now) where
    pub on_end : left ≡ [] → (bs : List Built) → Stands first bs → Gives (std.Ok now) (walk_all go l bs)
    unfolding walk_all
    on_end e bs k = let (cs, j, p) = o.from bs k in gives_as (p ∙ rw e refl) (went j)

    module _ (i : ℕ) (rest : List ℕ) (e : left ≡ i ∷ rest) where
      -- a refusal ends the walk
      pub on_stopped : (r : Refusal) → ((cs : List Built) → Stands now cs → Gives (std.Err r) (go i cs)) → (bs : List Built) → Stands first bs
          → Gives (std.Err r) (walk_all go l bs)
      unfolding walk_all and_then
      on_stopped r g bs k = let (cs, j, p) = o.from bs k in gives_as (p ∙ rw e refl) (by (go i cs) (g cs j))
        where
          by : (x : Answer (List Built)) → Gives (std.Err r) x → Gives (std.Err r) (and_then x (walk_all go rest))
          by (refused n) (stopped q) = stopped q
          by (given cs) g = elim g [ ]

      module _ (then : Kept) (g : (cs : List Built) → Stands now cs → Gives (std.Ok then) (go i cs)) where
        -- the walk of a level gives loops that are kept
        went_on : (x : Answer (List Built)) → Gives (std.Ok then) x → (cs : List Built) × (x ≡ given cs) × Stands then cs
        went_on (refused n) g = elim g [ ]
        went_on (given cs) (went k) = (cs, refl, k)

        step : (cs ds : List Built) → go i cs ≡ given ds → walk_all go left cs ≡ walk_all go rest ds
        step cs ds q = unfold walk_all and_then in rw (e, q) refl

        pub on_more : On go l first rest then
        on_more =
            record {
              reached =
                  let (bs, k) = o.reached in
                  let (cs, q, j) = went_on (go i bs) (g bs k) in
                  (cs, j);
              from = λ bs k.
                  let (cs, j, p) = o.from bs k in
                  let (ds, q, m) = went_on (go i cs) (g cs j) in
                  (ds, m, p ∙ step cs ds q);
            }

-- ---- the loops of an experiment

module _ (s : List ℕ) (es : List Entry) (i : ℕ) where
  pub experiment_err : (r : Refusal) → Gives (std.Err r) (walk most_depth s es i 0 []) → refused (number r) ≡ handed (experiment s es i)
  unfolding experiment and_then
  experiment_err r g = go (walk most_depth s es i 0 []) g
    where
      go : (x : Answer (List Built)) → Gives (std.Err r) x → refused (number r) ≡ handed (and_then x λ bs. judge [] (reverse bs))
      go (refused n) (stopped e) = rw e refl
      go (given bs) g = elim g [ ]

  pub experiment_ok : (k : Kept) → Gives (std.Ok k) (walk most_depth s es i 0 []) → answer k.judged ≡ handed (experiment s es i)
  unfolding experiment and_then
  experiment_ok k g = go (walk most_depth s es i 0 []) g
    where
      go : (x : Answer (List Built)) → Gives (std.Ok k) x → answer k.judged ≡ handed (and_then x λ bs. judge [] (reverse bs))
      go (refused n) g = elim g [ ]
      go (given bs) (went t) = t.judged
