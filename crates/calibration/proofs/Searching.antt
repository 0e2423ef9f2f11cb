-- The search for a z step, level by level. Assumes nothing.
use Prim.Native.Nat.{ℕ, suc, ◌-◌}
use mathlib.Core.Path.{◌≡◌, refl, sym, ap, ◌∙◌}
use mathlib.Core.Option.{Option, none, some, or_else}
use mathlib.Core.List.{List, [], ◌∷◌}
use native.Mathlib.Omega.{arith}
use lib.Ieee.{Float}
use Rattle.format.specs.Bytes.{ascii}
use Rattle.format.specs.Values.{Value, field_in}
use Rattle.format.specs.Loops.{child_levels}
use Rattle.format.specs.Calibration.{first_of, step_at, z_step}
use Rattle.format.specs.declared.Entry.{Entry}

-- ---- one level, and those below it

module _ (s : List ℕ) (es : List Entry) (i levels : ℕ) where
  -- the experiment levels below the level i
  abbrev kids : List ℕ
  kids = child_levels s es (field_in s es i (ascii "ppNextLevelEx"))

  pub step_zero : levels ≡ 0 → none ≡ z_step levels s es i
  unfolding z_step
  step_zero h = rw h refl

  module _ (h : levels ≡ 0 → ⊥) where
    step_one : z_step levels s es i ≡ or_else (step_at s es i) (first_of (z_step (levels - 1) s es) kids)
    step_one = go levels (levels - 1) (omega arith)
      where
        go : (l m : ℕ) → l ≡ suc m → z_step l s es i ≡ or_else (step_at s es i) (first_of (z_step m s es) kids)
        go l m e = unfold z_step in rw e refl

    -- the level's own step comes first
    pub step_own : (x : Float) → some x ≡ step_at s es i → some x ≡ z_step levels s es i
    unfolding or_else
    step_own x e = sym (step_one ∙ rw (← e) refl)

    pub step_below : (f : Option Value) (l : List ℕ) (o : Option Float)
        → none ≡ step_at s es i → f ≡ field_in s es i (ascii "ppNextLevelEx") → child_levels s es f ≡ l → o ≡ first_of (z_step (levels - 1) s es) l
        → o ≡ z_step levels s es i
    unfolding or_else ascii
    step_below f l o e p q g =
        let w : kids ≡ l = ap (child_levels s es) (sym p) ∙ q in
        sym (step_one ∙ rw (← e, w) (sym g))

-- ---- level after level

module _ (f : ℕ → Option Float) (l : List ℕ) where
  pub first_end : l ≡ [] → none ≡ first_of f l
  unfolding first_of
  first_end e = rw e refl

  module _ (i : ℕ) (rest : List ℕ) (e : l ≡ i ∷ rest) where
    pub first_here : (x : Float) → some x ≡ f i → some x ≡ first_of f l
    unfolding first_of or_else
    first_here x q = rw (e, ← q) refl

    pub first_later : none ≡ f i → first_of f l ≡ first_of f rest
    unfolding first_of or_else
    first_later q = rw (e, ← q) refl
