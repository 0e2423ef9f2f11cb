-- What holds of each loop that the walk appends, and that each is on the axis of its type. Assumes nothing.
use Prim.Native.Nat.{ℕ, suc, max}
use mathlib.Core.Path.{◌≡◌, refl, ap, ap₂}
use mathlib.Core.List.{List, [], ◌∷◌, map, reverse, reverse_aux}
use native.Mathlib.Omega.{arith}
use Rattle.format.specs.Loops.{Built, axis_of}
use Rattle.format.specs.Grammar.Loops.{LoopAt, Count, of_time, of_points, of_focus, of_spectral, of_custom, of_time_uneven}
use Rattle.format.specs.Grammar.Loops.{Appended, first, deeper, larger, dropped, Walks, done, stops, spectral, appends}
use Rattle.format.specs.Grammar.Loops.{OnAxis, time, points, focus, time_uneven, OnAxes, nil, cons}
use Rattle.format.specs.declared.Entry.{Entry}
use Rattle.format.specs.declared.Axis.{Axis}
use Rattle.format.specs.declared.Loop.{Loop}

-- ---- a property of type and count

-- Q holds of each loop's type and count
pub data Each (Q : ℕ → ℕ → Type 0) : List Built → Type 0 where
  no_more : Each Q []
  one : {b : Built} {bs : List Built} → Q b.kind b.count → Each Q bs → Each Q (b ∷ bs)

module _ (s : List ℕ) (es : List Entry) (Q : ℕ → ℕ → Type 0) (said : (i t c : ℕ) → LoopAt s es i t c → (t ≡ 6 → ⊥) → Q t c)
    (both : (t c d : ℕ) → Q t c → Q t d → Q t (max c d)) where
  appended_each : (t c n : ℕ) (bs bs' : List Built) → Q t c → Appended t c n bs bs' → Each Q bs → Each Q bs'
  appended_each t c n bs bs' h first r = one h no_more
  appended_each t c n bs bs' h (deeper l) r = one h r
  appended_each t c n bs bs' h (larger {b = b} p q) (one k r) = one (both t b.count c (rw q at k) h) r
  appended_each t c n bs bs' h (dropped l f) r = r

  pub walks_each : (is : List ℕ) (n : ℕ) (bs bs' : List Built) → Walks s es is n bs bs' → Each Q bs → Each Q bs'
  walks_each is n bs bs' done r = r
  walks_each is n bs bs' (stops {is = js} x w) r = walks_each js n bs bs' w r
  walks_each is n bs bs' (spectral {is = js} {ks = ks} {bs₁ = cs} x b k w) r = walks_each js n cs bs' w (walks_each ks n bs cs k r)
  walks_each is n bs bs' (appends {i = i} {t = t} {c = c} {is = js} {ks = ks} {bs₁ = cs} {bs₂ = ds} x h a b k w) r =
      walks_each js n ds bs' w (walks_each ks (suc n) cs ds k (appended_each t c n bs cs (said i t c x h) a r))

pub each_reverse : (Q : ℕ → ℕ → Type 0) (bs cs : List Built) → Each Q bs → Each Q cs → Each Q (reverse_aux bs cs)
each_reverse Q [] cs r q = q
each_reverse Q (b ∷ bs) cs (one h r) q = each_reverse Q bs (b ∷ cs) r (one h q)

-- ---- axes

-- a type and its count: on the axis of the type where it is not custom
abbrev pub Axial : ℕ → ℕ → Type 0
Axial t c = (t ≡ 7 → ⊥) → OnAxis t (axis_of t)

axial : (s : List ℕ) (es : List Entry) (i p t c : ℕ) → Count s es i p t c → (t ≡ 6 → ⊥) → Axial t c
axial s es i p t c (of_time x) h k = time
axial s es i p t c (of_points x) h k = points
axial s es i p t c (of_focus x) h k = focus
axial s es i p t c (of_spectral x) h k = absurd (h refl)
axial s es i p t c (of_custom x) h k = absurd (k refl)
axial s es i p t c (of_time_uneven x) h k = time_uneven

-- the loops of a walk, in order
pub walks_axial : (s : List ℕ) (es : List Entry) (is : List ℕ) (n : ℕ) (bs : List Built) → Walks s es is n [] bs → Each Axial (reverse bs)
walks_axial s es is n bs w =
    each_reverse Axial bs [] (walks_each s es Axial (λ i t c x h. axial s es i x.parameters t c x.count h) (λ t c d k _. k) is n [] bs w no_more) no_more

abbrev pub loop_of : Built → Loop
loop_of b = record { axis = axis_of b.kind; count = b.count }

pub on_axis : (t : ℕ) (a : Axis) → OnAxis t a → a ≡ axis_of t
on_axis t a time = refl
on_axis t a points = refl
on_axis t a focus = refl
on_axis t a time_uneven = refl

-- an axis leaves no choice
pub on_axes : (bs : List Built) (ls : List Loop) → OnAxes bs ls → ls ≡ map loop_of bs
on_axes [] ls nil = refl
on_axes (b ∷ bs) ls (cons {l = l} {ls = ms} o e x) = rw (on_axes bs ms x) (ap (λ (k : Loop). k ∷ map loop_of bs) (ap₂ made (on_axis b.kind l.axis o) e))
  where
    made : Axis → ℕ → Loop
    made a n = record { axis = a; count = n }

-- and a custom loop has none
pub not_custom : (t : ℕ) (a : Axis) → OnAxis t a → t ≡ 7 → ⊥
not_custom t a time e = absurd (omega arith)
not_custom t a points e = absurd (omega arith)
not_custom t a focus e = absurd (omega arith)
not_custom t a time_uneven e = absurd (omega arith)
