-- A double by its value: narrowing sees only the value, and finite is below the infinity; the bits of the z step's limits. Assumes nothing.
use mathlib.Core.Path.{◌≡◌, refl, ap, ◌∙◌}
use mathlib.Core.Bool.{Bool, true, false, false≢true}
use Prim.Native.Nat.{ℕ, ◌*◌, ◌<◌}
use lib.Ieee.{Float, nan, inf, fin, binary32, up, down, round, of_bits, lt}
use lib.Ieee.Fits.{down_pos}
use lib.Ieee.Exact.{HasValue}
use lib.Ieee.Scale.{round_same}
use Rattle.format.specs.Numbers.{narrow, positive, finite}
use Rattle.format.specs.Calibration.{least_step, most_step}

pub narrow_is : (v : Float) (s : Bool) (a c : ℕ) → 0 < c → HasValue v s a c → narrow v ≡ round binary32 s a c
unfolding narrow
narrow_is nan s a c C h = absurd h
narrow_is (inf t) s a c C h = absurd h
narrow_is (fin t m e) s a c C h =
    ap (λ (b : Bool). round binary32 b (m * up e) (down e)) h.0 ∙ round_same binary32 s (m * up e) (down e) a c (down_pos e) C h.1

-- ---- finite numbers above 0

pub finite_below : (x : Float) → positive x ≡ true → lt x (inf false) ≡ finite x
unfolding positive finite lt
finite_below nan h = refl
finite_below (inf true) h = absurd (false≢true h)
finite_below (inf false) h = refl
finite_below (fin s m e) h = refl

-- ---- the limits of class 1, by their bits

pub least_bits : least_step ≡ of_bits binary32 0x358637BD
unfolding round of_bits
least_bits = refl

pub most_bits : most_step ≡ of_bits binary32 0x447A0000
unfolding round of_bits
most_bits = refl
