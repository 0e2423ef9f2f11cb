-- Appended loops judged with one more at the end, and the room that three axes leave. Assumes nothing.
use Prim.Native.Nat.{ℕ, zero, suc, ◌+◌, ◌≤◌, ◌<◌}
use mathlib.Core.Path.{◌≡◌, refl, sym, ap, ◌∙◌}
use mathlib.Core.Bool.{Bool, true, false, ◌||◌}
use mathlib.Core.List.{List, [], ◌∷◌, ◌++◌, reverse, reverse-cons}
use native.Mathlib.Omega.{arith}
use lib.Dec.{eqb}
use lib.ListN.{length, length-append, get_or}
use borrow.Author.Tests.{eq-eqb, ne_eqb}
use Rattle.format.proofs.Ground.Tests.{or_none}
use Rattle.format.proofs.Ground.Answers.{given_inj, refuse_if_given, then_refuse_if}
use Rattle.format.specs.Answer.{Answer, refused, given, refuse_if, and_then}
use Rattle.format.specs.Refusals as why
use Rattle.format.specs.Numbers.{one_if}
use Rattle.format.specs.Loops.{Built, axis_of, axis_number, same_axis, has_axis, judge}
use Rattle.format.specs.Summary.{no_loop}
use Rattle.format.specs.declared.Axis.{Axis}
use Rattle.format.specs.declared.Axis.TheVariants.{T, Z, P}
use Rattle.format.specs.declared.Loop.{Loop}

-- ---- one more at the end

pub judge_more : (ls : List Loop) (bs cs : List Built) → judge ls (bs ++ cs) ≡ and_then (judge ls bs) λ ms. judge ms cs
unfolding judge and_then
judge_more ls [] cs = refl
judge_more ls (b ∷ bs) cs =
    let more = ls ++ record { axis = axis_of b.kind; count = b.count } ∷ [] in
    let custom = eqb b.kind 7 in
    let twice = has_axis (axis_of b.kind) ls in
    rw (judge_more more bs cs)
    (ap (refuse_if custom why.loop_kind) (sym (then_refuse_if twice why.axis_twice (judge more bs) λ ms. judge ms cs))
    ∙ sym (then_refuse_if custom why.loop_kind (refuse_if twice why.axis_twice (judge more bs)) λ ms. judge ms cs))

-- the last appended one, the first of the list, is judged last
pub judge_last : (b : Built) (bs : List Built) → judge [] (reverse (b ∷ bs)) ≡ and_then (judge [] (reverse bs)) λ ms. judge ms (b ∷ [])
judge_last b bs = rw (reverse-cons b bs) (judge_more [] (reverse bs) (b ∷ []))

-- it is a custom one, or a second one of an axis, or goes after those before it
pub judge_next : (b : Built) (bs : List Built) (ms : List Loop) → judge [] (reverse bs) ≡ given ms
    → judge [] (reverse (b ∷ bs))
    ≡ refuse_if (eqb b.kind 7) why.loop_kind
    (refuse_if (has_axis (axis_of b.kind) ms) why.axis_twice (given (ms ++ record { axis = axis_of b.kind; count = b.count } ∷ [])))
unfolding judge and_then
judge_next b bs ms e = judge_last b bs ∙ rw e refl

-- ---- an axis that loops have, by their places

pub has_at : (a : Axis) (ls : List Loop) (i : ℕ) → i < length ls → axis_number (get_or ls i no_loop).axis ≡ axis_number a → has_axis a ls ≡ true
unfolding has_axis
has_at a [] i h e = absurd (omega arith)
has_at a (l ∷ ls) zero h e = rw (eq-eqb _ _ e) refl
has_at a (l ∷ ls) (suc i) h e = rw (has_at a ls i (omega arith) e) (or_true (same_axis l.axis a))
  where
    or_true : (b : Bool) → (b || true) ≡ true
    or_true true = refl
    or_true false = refl

pub has_none : (a : Axis) (ls : List Loop) → ((i : ℕ) → i < length ls → axis_number (get_or ls i no_loop).axis ≡ axis_number a → ⊥) → has_axis a ls ≡ false
unfolding has_axis
has_none a [] f = refl
has_none a (l ∷ ls) f =
    or_none (same_axis l.axis a) (has_axis a ls) (ne_eqb _ _ (f 0 (omega arith)))
    (has_none a ls (λ i h. f (suc i) (omega arith)))

-- ---- three axes

-- how many axes the loops have
axes : List Loop → ℕ
axes ls = one_if (has_axis T ls) + one_if (has_axis Z ls) + one_if (has_axis P ls)

has_snoc : (a : Axis) (ls : List Loop) (l : Loop) → has_axis a (ls ++ l ∷ []) ≡ (has_axis a ls || same_axis l.axis a)
unfolding has_axis
has_snoc a [] l = or_false (same_axis l.axis a)
  where
    or_false : (b : Bool) → (b || false) ≡ b
    or_false true = refl
    or_false false = refl
has_snoc a (k ∷ ls) l = rw (has_snoc a ls l) (or_assoc (same_axis k.axis a) (has_axis a ls) (same_axis l.axis a))
  where
    or_assoc : (a b c : Bool) → (a || (b || c)) ≡ (a || b || c)
    or_assoc true b c = refl
    or_assoc false b c = refl

axes_snoc : (ls : List Loop) (a : Axis) (n : ℕ) → has_axis a ls ≡ false → axes (ls ++ record { axis = a; count = n } ∷ []) ≡ axes ls + 1
unfolding axes
axes_snoc ls a n e = go a e
  where
    or_false : (b : Bool) → one_if (b || false) ≡ one_if b
    or_false true = refl
    or_false false = refl

    go : (a : Axis) → has_axis a ls ≡ false → axes (ls ++ record { axis = a; count = n } ∷ []) ≡ axes ls + 1
    go T e = simp (has_snoc, or_false, e) (omega arith)
    go Z e = simp (has_snoc, or_false, e) (omega arith)
    go P e = simp (has_snoc, or_false, e) (omega arith)

-- loops that were judged have an axis each
judge_axes : (ls : List Loop) (bs : List Built) (ms : List Loop) → length ls ≡ axes ls → judge ls bs ≡ given ms → length ms ≡ axes ms
unfolding judge
judge_axes ls [] ms h e = rw (given_inj e) at h
judge_axes ls (b ∷ bs) ms h e =
    let l : Loop = record { axis = axis_of b.kind; count = b.count } in
    let (f₁, e₁) = refuse_if_given (eqb b.kind 7) why.loop_kind _ e in
    let (f₂, e₂) = refuse_if_given (has_axis (axis_of b.kind) ls) why.axis_twice _ e₁ in
    judge_axes (ls ++ l ∷ []) bs ms (length-append ls (l ∷ []) ∙ omega (arith, axes_snoc ls (axis_of b.kind) b.count f₂)) e₂

most_one : (b : Bool) → one_if b < 2
most_one true = omega arith
most_one false = omega arith

-- so they are at most three
pub judge_few : (bs : List Built) (ms : List Loop) → judge [] bs ≡ given ms → length ms ≤ 3
unfolding axes has_axis
judge_few bs ms e = omega (arith, judge_axes [] bs ms refl e, most_one (has_axis T ms), most_one (has_axis Z ms), most_one (has_axis P ms))

-- and fewer where an axis has none
pub judge_room : (bs : List Built) (ms : List Loop) (a : Axis) → judge [] bs ≡ given ms → has_axis a ms ≡ false → length ms < 3
unfolding axes has_axis
judge_room bs ms a e h = let q = judge_axes [] bs ms refl e in go a h q
  where
    go : (a : Axis) → has_axis a ms ≡ false → length ms ≡ axes ms → length ms < 3
    go T h q = omega (arith, ap one_if h, most_one (has_axis Z ms), most_one (has_axis P ms))
    go Z h q = omega (arith, ap one_if h, most_one (has_axis T ms), most_one (has_axis P ms))
    go P h q = omega (arith, ap one_if h, most_one (has_axis T ms), most_one (has_axis Z ms))

-- ---- another count of the last one

-- what two counts of the last one make of it: the same refusal, or the same loops but for that count
pub data Alike (a : Axis) (n m : ℕ) : Answer (List Loop) → Answer (List Loop) → Type 0 where
  neither : {k : ℕ} → Alike a n m (refused k) (refused k)
  both : (ms : List Loop) → length ms < 3 → Alike a n m (given (ms ++ record { axis = a; count = n } ∷ [])) (given (ms ++ record { axis = a; count = m } ∷ []))

pub judge_count : (t l n m : ℕ) (bs : List Built)
    → Alike (axis_of t) n m (judge [] (reverse (record { kind = t; count = n; nesting = l } ∷ bs)))
    (judge [] (reverse (record { kind = t; count = m; nesting = l } ∷ bs)))
unfolding and_then refuse_if
judge_count t l n m bs = go (judge [] (reverse bs)) refl
  where
    built : ℕ → Built
    built n = record { kind = t; count = n; nesting = l }

    axis : (ms : List Loop) → judge [] (reverse bs) ≡ given ms → (b : Bool) → has_axis (axis_of t) ms ≡ b
        → Alike (axis_of t) n m (refuse_if b why.axis_twice (given (ms ++ record { axis = axis_of t; count = n } ∷ [])))
        (refuse_if b why.axis_twice (given (ms ++ record { axis = axis_of t; count = m } ∷ [])))
    axis ms q true h = neither
    axis ms q false h = both ms (judge_room (reverse bs) ms (axis_of t) q h)

    kind : (ms : List Loop) → judge [] (reverse bs) ≡ given ms → (b : Bool)
        → Alike (axis_of t) n m
        (refuse_if b why.loop_kind (refuse_if (has_axis (axis_of t) ms) why.axis_twice (given (ms ++ record { axis = axis_of t; count = n } ∷ []))))
        (refuse_if b why.loop_kind (refuse_if (has_axis (axis_of t) ms) why.axis_twice (given (ms ++ record { axis = axis_of t; count = m } ∷ []))))
    kind ms q true = neither
    kind ms q false = axis ms q (has_axis (axis_of t) ms) refl

    go : (x : Answer (List Loop)) → judge [] (reverse bs) ≡ x → Alike (axis_of t) n m (judge [] (reverse (built n ∷ bs))) (judge [] (reverse (built m ∷ bs)))
    go (refused k) q = rw (judge_last (built n) bs, judge_last (built m) bs, q) neither
    go (given ms) q = rw (judge_next (built n) bs ms q, judge_next (built m) bs ms q) (kind ms q (eqb t 7))
