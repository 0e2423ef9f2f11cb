-- The test 20 of a summary is the grammar's. Assumes nothing.
use Prim.Native.Nat.{ℕ, ◌+◌, ◌*◌}
use mathlib.Core.Path.{◌≡◌, refl, sym, ◌∙◌}
use mathlib.Core.Bool.{Bool, true, false, not, ◌||◌, true≢false}
use mathlib.Core.List.{List}
use native.Mathlib.Omega.{arith}
use lib.Dec.{ltb, eqb}
use lib.ListN.{length}
use borrow.Author.Tests.{ltb-false, le-ltb, eqb-true, eqb-false, ne_eqb}
use Rattle.format.proofs.Ground.Tests.{or_left, or_right, or_none}
use Rattle.format.proofs.Frames.Places.{good_loops, loops_good}
use Rattle.format.specs.Bytes.{most64}
use Rattle.format.specs.Attributes.{sample_bytes, plane_bytes, bad_shape, bad_bits}
use Rattle.format.specs.Summary.{shape_of, loops_of, bad_loops, bad_summary}
use Rattle.format.specs.Grammar.Attributes.{Bits, eight, sixteen, thirtytwo, Shape}
use Rattle.format.specs.Refused.Summary.{Sound}
use Rattle.format.specs.declared.Attributes.{Attributes}
use Rattle.format.specs.declared.Summary.{Summary}

-- ---- bits and shape

pub bits_good : (b : ℕ) → bad_bits b ≡ false → Bits b
unfolding bad_bits
bits_good b e = go (eqb b 8) refl (eqb b 16) refl (eqb b 32) refl e
  where
    go : (p : Bool) → eqb b 8 ≡ p → (q : Bool) → eqb b 16 ≡ q → (r : Bool) → eqb b 32 ≡ r → not (p || q || r) ≡ false → Bits b
    go true h q hq r hr e = rw (eqb-true b 8 h) eight
    go false h true hq r hr e = rw (eqb-true b 16 hq) sixteen
    go false h false hq true hr e = rw (eqb-true b 32 hr) thirtytwo
    go false h false hq false hr e = absurd (true≢false e)

pub good_bits : (b : ℕ) → Bits b → bad_bits b ≡ false
unfolding bad_bits
good_bits b eight = refl
good_bits b sixteen = refl
good_bits b thirtytwo = refl

pub shape_good : (a : Attributes) → bad_shape a ≡ false → Shape a
unfolding bad_shape
shape_good a e =
    let row = a.width * a.components * sample_bytes a.bits in
    let t₁ = eqb a.width 0 in
    let t₂ = eqb a.height 0 in
    let t₃ = eqb a.components 0 in
    let t₄ = ltb 1024 a.components in
    let t₅ = ltb most64 row in
    let t₆ = ltb a.stride row in
    let e₅ = or_left (t₁ || t₂ || t₃ || t₄ || t₅) t₆ e in
    let e₄ = or_left (t₁ || t₂ || t₃ || t₄) t₅ e₅ in
    let e₃ = or_left (t₁ || t₂ || t₃) t₄ e₄ in
    let e₂ = or_left (t₁ || t₂) t₃ e₃ in
    let n₁ : (a.width ≡ 0 → ⊥) = eqb-false _ _ (or_left t₁ t₂ e₂) in
    let n₂ : (a.height ≡ 0 → ⊥) = eqb-false _ _ (or_right t₁ t₂ e₂) in
    let n₃ : (a.components ≡ 0 → ⊥) = eqb-false _ _ (or_right (t₁ || t₂) t₃ e₃) in
    record {
      width_some = omega arith;
      height_some = omega arith;
      components_some = omega arith;
      components_most = ltb-false _ _ (or_right (t₁ || t₂ || t₃) t₄ e₄);
      row_most = ltb-false _ _ (or_right (t₁ || t₂ || t₃ || t₄) t₅ e₅);
      row_fits = ltb-false _ _ (or_right (t₁ || t₂ || t₃ || t₄ || t₅) t₆ e);
    }

pub good_shape : (a : Attributes) → Shape a → bad_shape a ≡ false
unfolding bad_shape
good_shape a s =
    let n₁ = s.width_some in
    let n₂ = s.height_some in
    let n₃ = s.components_some in
    or_none _ _ (or_none _ _ (or_none _ _ (or_none _ _ (or_none _ _ (ne_eqb a.width 0 (λ q. omega arith)) (ne_eqb a.height 0 (λ q. omega arith)))
    (ne_eqb a.components 0 (λ q. omega arith))) (le-ltb _ _ s.components_most)) (le-ltb _ _ s.row_most)) (le-ltb _ _ s.row_fits)

-- ---- the test 20

pub sound_read : (s : List ℕ) (u : Summary) → bad_summary s u ≡ false → Sound s u
unfolding bad_summary
sound_read s u e =
    let a = shape_of u in
    let t₁ = bad_bits u.bits in
    let t₂ = bad_shape a in
    let t₃ = ltb most64 (plane_bytes a) in
    let t₄ = ltb 3 u.depth in
    let t₅ = bad_loops (loops_of u) in
    let t₆ = ltb (length s) (u.map.start + u.map.len) in
    let e₅ = or_left (t₁ || t₂ || t₃ || t₄ || t₅) t₆ e in
    let e₄ = or_left (t₁ || t₂ || t₃ || t₄) t₅ e₅ in
    let e₃ = or_left (t₁ || t₂ || t₃) t₄ e₄ in
    let e₂ = or_left (t₁ || t₂) t₃ e₃ in
    let ls = good_loops (loops_of u) (or_right (t₁ || t₂ || t₃ || t₄) t₅ e₅) in
    record {
      bits = bits_good u.bits (or_left t₁ t₂ e₂);
      shape = shape_good a (or_right t₁ t₂ e₂);
      plane_most = ltb-false _ _ (or_right (t₁ || t₂) t₃ e₃);
      loops_most = ltb-false _ _ (or_right (t₁ || t₂ || t₃) t₄ e₄);
      loops_counted = ls.0;
      loops_distinct = ls.1;
      map_within = ltb-false _ _ (or_right (t₁ || t₂ || t₃ || t₄ || t₅) t₆ e);
    }

pub read_sound : (s : List ℕ) (u : Summary) → Sound s u → bad_summary s u ≡ false
unfolding bad_summary
read_sound s u g =
    or_none _ _ (or_none _ _ (or_none _ _ (or_none _ _ (or_none _ _ (good_bits u.bits g.bits) (good_shape (shape_of u) g.shape))
    (le-ltb _ _ g.plane_most)) (le-ltb _ _ g.loops_most)) (loops_good (loops_of u) g.loops_counted g.loops_distinct)) (le-ltb _ _ g.map_within)

pub unsound : (s : List ℕ) (u : Summary) → bad_summary s u ≡ true → Sound s u → ⊥
unsound s u e g = true≢false (sym e ∙ read_sound s u g)
