-- What stands for the appended loops, with one more or a larger last one. Assumes nothing.
use Prim.Native.Nat.{ℕ, ◌+◌, ◌-◌, ◌≤◌, ◌<◌, max}
use mathlib.Core.Path.{◌≡◌, refl, sym, ap, ◌∙◌}
use mathlib.Core.Bool.{Bool, true, false, cond, ◌&&◌}
use Rattle.std.proofs.Math.Bool.{and_comm}
use mathlib.Core.List.{List, [], ◌∷◌, ◌++◌, reverse}
use native.Mathlib.Omega.{arith}
use lib.Dec.{eqb}
use lib.ListN.{length, length-append, take, set, get_or}
use borrow.Author.Tests.{eqb-true, lt-ltb, le-ltb}
use Rattle.std.specs.Prelude as std
use Rattle.format.specs.Answer.{Answer, refused, given, refuse_if, and_then}
use Rattle.format.specs.Given.{number}
use Rattle.format.specs.Refusals as why
use Rattle.format.specs.Loops.{Built, append, axis_of, has_axis, judge}
use Rattle.format.specs.Summary.{in_three, no_loop}
use Rattle.format.specs.declared.Axis.{Axis}
use Rattle.format.specs.declared.Loop.{Loop}
use Rattle.format.specs.declared.refusal.Refusal.{Refusal}
use Rattle.format.proofs.Ground.Answers.{refused≢given, given_inj}
use Rattle.format.proofs.Ground.Tests.{and_left, and_right}
use Rattle.format.proofs.Loops.Judged.{judge_last, judge_next, judge_few, judge_room, Alike, neither, both, judge_count}
use Rattle.format.proofs.Files.SoundSummary.{three_loops}
use Rattle.experiment.specs.Kind.{number_of}
use Rattle.experiment.proofs.Handed.{handed_ok, handed_err}
use Rattle.experiment.specs.Kept.{placed, handed, Last, none, one, Judged, Stands, larger}
use Rattle.experiment.specs.declared.Loops.{Loops}
use Rattle.experiment.specs.declared.kept.Appended.{Appended}
use Rattle.experiment.specs.declared.kept.Kept.{Kept}

-- ---- three places

-- the loops ls and l, with room for l
module _ (ls : List Loop) (l : Loop) (room : length ls < 3) where
  -- l is stored in the next place
  stored : set (in_three ls) (length ls) l ≡ in_three (ls ++ l ∷ [])
  stored = go ls room
    where
      go : (ls : List Loop) → length ls < 3 → set (in_three ls) (length ls) l ≡ in_three (ls ++ l ∷ [])
      go [] h = refl
      go (a ∷ []) h = refl
      go (a ∷ b ∷ []) h = refl
      go (a ∷ b ∷ c ∷ ls) h = absurd (omega arith)

  -- it is the last one, and another goes in its place
  last_there : get_or (in_three (ls ++ l ∷ [])) (length ls) no_loop ≡ l
  last_there = go ls room
    where
      go : (ls : List Loop) → length ls < 3 → get_or (in_three (ls ++ l ∷ [])) (length ls) no_loop ≡ l
      go [] h = refl
      go (a ∷ []) h = refl
      go (a ∷ b ∷ []) h = refl
      go (a ∷ b ∷ c ∷ ls) h = absurd (omega arith)

  replaced : (k : Loop) → set (in_three (ls ++ l ∷ [])) (length ls) k ≡ in_three (ls ++ k ∷ [])
  replaced k = go ls room
    where
      go : (ls : List Loop) → length ls < 3 → set (in_three (ls ++ l ∷ [])) (length ls) k ≡ in_three (ls ++ k ∷ [])
      go [] h = refl
      go (a ∷ []) h = refl
      go (a ∷ b ∷ []) h = refl
      go (a ∷ b ∷ c ∷ ls) h = absurd (omega arith)

-- ---- one more loop, judged

-- a refusal stays
judged_err : (b : Built) (bs : List Built) (n : ℕ) → refused n ≡ handed (judge [] (reverse bs)) → refused n ≡ handed (judge [] (reverse (b ∷ bs)))
unfolding and_then
judged_err b bs n e = rw (judge_last b bs, handed_err (judge [] (reverse bs)) n e) refl

-- k in the next place
abbrev one_more : Loop → Loops → Loops
one_more k l = record { loops = set l.loops l.depth k; depth = l.depth + 1 }

-- what is known of loops that were judged
record Fine (bs : List Built) (l : Loops) : Type 0 where
  pub kept : List Loop
  pub given_is : judge [] (reverse bs) ≡ given kept
  pub places : l ≡ placed kept
  pub few : length kept ≤ 3

fine : (bs : List Built) (l : Loops) → Judged (std.Ok l) bs → Fine bs l
fine bs l t =
    let (ms, q, p) = handed_ok (judge [] (reverse bs)) l t in
    record { kept = ms; given_is = q; places = p; few = judge_few (reverse bs) ms q }

module _ (bs : List Built) (l : Loops) (t : Judged (std.Ok l) bs) where
  abbrev f : Fine bs l
  f = fine bs l t

  depth_is : l.depth ≡ length f.kept
  depth_is = ap (λ (l : Loops). l.depth) f.places

  in_use : take l.depth l.loops ≡ f.kept
  in_use = ap (λ (l : Loops). take l.depth l.loops) f.places ∙ three_loops f.kept f.few

  pub next_few : l.depth ≤ 3
  next_few = omega (arith, depth_is, f.few)

  pub next_room : (a : Axis) → has_axis a (take l.depth l.loops) ≡ false → l.depth < 3
  next_room a h = omega (arith, judge_room (reverse bs) f.kept a f.given_is (rw in_use at h), depth_is)

  module _ (b : Built) where
    pub next_custom : eqb b.kind 7 ≡ true → refused why.loop_kind ≡ handed (judge [] (reverse (b ∷ bs)))
    unfolding refuse_if
    next_custom h = rw (judge_next b bs f.kept f.given_is, h) refl

    module _ (other : eqb b.kind 7 ≡ false) where
      pub next_twice : has_axis (axis_of b.kind) (take l.depth l.loops) ≡ true → refused why.axis_twice ≡ handed (judge [] (reverse (b ∷ bs)))
      unfolding refuse_if
      next_twice h = rw (judge_next b bs f.kept f.given_is, other, rw in_use at h) refl

      pub next_kept : has_axis (axis_of b.kind) (take l.depth l.loops) ≡ false
          → given (one_more (record { axis = axis_of b.kind; count = b.count }) l) ≡ handed (judge [] (reverse (b ∷ bs)))
      unfolding refuse_if
      next_kept h =
          let k : Loop = record { axis = axis_of b.kind; count = b.count } in
          let room : length f.kept < 3 = omega (arith, next_room (axis_of b.kind) h, depth_is) in
          rw (judge_next b bs f.kept f.given_is, other, rw in_use at h)
          (ap (λ (l : Loops). given (one_more k l)) f.places ∙ rw (stored f.kept k room, length-append f.kept (k ∷ [])) refl)

-- ---- a larger count of the last one

module _ (b : Built) (bs : List Built) (c : ℕ) where
  abbrev narrow : Loop
  narrow = record { axis = axis_of b.kind; count = b.count }

  abbrev wide : Loop
  wide = record { axis = axis_of b.kind; count = max b.count c }

  -- the larger count in the last place
  abbrev last_wider : Loops → Loops
  last_wider l =
      let n = l.depth - 1 in
      let k = get_or l.loops n no_loop in
      record { loops = set l.loops n (record { axis = k.axis; count = max k.count c }); depth = l.depth }

  alike : Alike (axis_of b.kind) b.count (max b.count c) (judge [] (reverse (b ∷ bs))) (judge [] (reverse (larger b c ∷ bs)))
  alike = judge_count b.kind b.nesting b.count (max b.count c) bs

  wider_err : (n : ℕ) → refused n ≡ handed (judge [] (reverse (b ∷ bs))) → refused n ≡ handed (judge [] (reverse (larger b c ∷ bs)))
  wider_err n e = go alike e
    where
      go : {x y : Answer (List Loop)} → Alike (axis_of b.kind) b.count (max b.count c) x y → refused n ≡ handed x → refused n ≡ handed y
      go neither e = e
      go (both ms r) e = absurd (refused≢given e)

  module _ (l : Loops) (t : Judged (std.Ok l) (b ∷ bs)) where
    -- where the last one stands
    record Place : Type 0 where
      pub before : List Loop
      pub room : length before < 3
      pub places : l ≡ placed (before ++ narrow ∷ [])
      pub widened : judge [] (reverse (larger b c ∷ bs)) ≡ given (before ++ wide ∷ [])

    place : Place
    place = go alike refl t
      where
        go : {x y : Answer (List Loop)} → Alike (axis_of b.kind) b.count (max b.count c) x y → judge [] (reverse (larger b c ∷ bs)) ≡ y
            → given l ≡ handed x → Place
        go neither q e = absurd (refused≢given (sym e))
        go (both ms r) q e = record { before = ms; room = r; places = given_inj e; widened = q }

    depth_one : l.depth ≡ length place.before + 1
    depth_one = ap (λ (l : Loops). l.depth) place.places ∙ length-append place.before (narrow ∷ [])

    pub wider_some : 1 ≤ l.depth
    wider_some = omega (arith, depth_one)

    pub wider_room : l.depth - 1 < 3
    wider_room = omega (arith, depth_one, place.room)

    pub wider_kept : given (last_wider l) ≡ handed (judge [] (reverse (larger b c ∷ bs)))
    wider_kept = go place.before place.room place.places place.widened
      where
        go : (ms : List Loop) → length ms < 3 → l ≡ placed (ms ++ narrow ∷ []) → judge [] (reverse (larger b c ∷ bs)) ≡ given (ms ++ wide ∷ [])
            → given (last_wider l) ≡ handed (judge [] (reverse (larger b c ∷ bs)))
        go ms r q e =
            let n : length (ms ++ narrow ∷ []) - 1 ≡ length ms = omega (arith, length-append ms (narrow ∷ [])) in
            rw e
            (ap (λ (l : Loops). given (last_wider l)) q
            ∙ rw (n, last_there ms narrow r, replaced ms narrow r wide, length-append ms (narrow ∷ []), length-append ms (wide ∷ [])) refl)

-- ---- what is done with a loop of the walk

-- as the next in order is judged, where none was refused before
pub after_next : {P : Loops → Type 0} (j r : std.Result Loops Refusal) (b : Built) (bs : List Built) → std.MatchResult j P (λ e. r ≡ std.Err e)
    → ((l : Loops) → P l → Judged (std.Ok l) bs → Judged r (b ∷ bs)) → Judged j bs → Judged r (b ∷ bs)
after_next (std.Ok l) r b bs m f t = f l m t
after_next (std.Err e) r b bs m f t = rw m (judged_err b bs (number e) t)

-- as the last one is widened, where none was refused before
pub after_wider : {P : Loops → Loops → Type 0} (j r : std.Result Loops Refusal) (b : Built) (bs : List Built) (c : ℕ)
    → std.MatchResult j (λ l. std.IsOkAnd r (P l)) (λ e. r ≡ std.Err e)
    → ((l m : Loops) → P l m → Judged (std.Ok l) (b ∷ bs) → Judged (std.Ok m) (larger b c ∷ bs)) → Judged j (b ∷ bs) → Judged r (larger b c ∷ bs)
after_wider (std.Ok l) (std.Ok m) b bs c p f t = f l m p t
after_wider (std.Ok l) (std.Err e) b bs c p f t = absurd p
after_wider (std.Err e) r b bs c m f t = rw m (wider_err b bs c (number e) t)

-- appended where it lies deeper
pub append_deeper : (t c n : ℕ) (k r : Kept) (bs : List Built) → Stands k bs → ((a : Appended) → k.last ≡ std.Some a → a.nesting < n)
    → Stands r (record { kind = t; count = c; nesting = n } ∷ bs) → Stands r (append t c n bs)
unfolding append
append_deeper t c n k r bs s h g = go k.last refl bs s.last g
  where
    go : (l : std.Option Appended) → k.last ≡ l → (bs : List Built) → Last l bs → Stands r (record { kind = t; count = c; nesting = n } ∷ bs)
        → Stands r (append t c n bs)
    go std.None q [] none g = g
    go std.None q (b ∷ bs) l g = elim l [ ]
    go (std.Some a) q [] l g = elim l [ ]
    go (std.Some a) q (b ∷ bs) (one e f) g = let d = h a q in rw (lt-ltb b.nesting n (omega arith)) g

-- where there is one before it, and that lies no deeper
module _ (t c n : ℕ) (k : Kept) (a : Appended) (q : k.last ≡ std.Some a) (h : n ≤ a.nesting) (bs : List Built) (s : Stands k bs) where
  by_test : (x : Bool) → (eqb (number_of a.kind) t && eqb a.nesting n) ≡ x → (b : Built) (bs : List Built) → number_of a.kind ≡ b.kind → a.nesting ≡ b.nesting
      → append t c n (b ∷ bs) ≡ cond x (record { kind = t; count = max b.count c; nesting = n } ∷ bs) (b ∷ bs)
  unfolding append
  by_test x e b bs f g = rw (le-ltb b.nesting n (omega arith), and_comm (eqb b.nesting n) (eqb b.kind t), ← f, ← g, e) refl

  -- the larger count where both nesting and type are the same
  pub append_same : (r : std.Result Loops Refusal) → (eqb (number_of a.kind) t && eqb a.nesting n) ≡ true
      → ((b : Built) (bs : List Built) → Judged k.judged (b ∷ bs) → Judged r (larger b c ∷ bs))
      → Stands (record { last = k.last; judged = r }) (append t c n bs)
  append_same r e f = go bs (rw q at s.last) s.judged
    where
      go : (bs : List Built) → Last (std.Some a) bs → Judged k.judged bs → Stands (record { last = k.last; judged = r }) (append t c n bs)
      go [] l j = elim l [ ]
      go (b ∷ bs) (one f' g) j =
          let kind : t ≡ b.kind = omega (arith, eqb-true (number_of a.kind) t (and_left _ (eqb a.nesting n) e)) in
          let nest : n ≡ b.nesting = omega (arith, eqb-true a.nesting n (and_right (eqb (number_of a.kind) t) _ e)) in
          rw (by_test true e b bs f' g, kind, nest) (record { last = rw q (one f' g); judged = f b bs j })

  -- else it is dropped
  pub append_other : (eqb (number_of a.kind) t && eqb a.nesting n) ≡ false → Stands k (append t c n bs)
  append_other e = go bs (rw q at s.last) s
    where
      go : (bs : List Built) → Last (std.Some a) bs → Stands k bs → Stands k (append t c n bs)
      go [] l s = elim l [ ]
      go (b ∷ bs) (one f g) s = rw (by_test false e b bs f g) s
