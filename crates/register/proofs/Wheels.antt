-- A wheel at frame 0, one frame on, and the index that it shows. Assumes nothing.
use Prim.Native.Nat.{ℕ, ◌+◌, ◌*◌, ◌/◌, ◌%◌, ◌≤◌, ◌<◌}
use mathlib.Core.Path.{◌≡◌, sym, ap, ◌∙◌}
use mathlib.Core.List.{List}
use native.Mathlib.Nat.{add-zero, mul-add-div_right, mul-add-mod_self_right, mod-eq_of_lt, div-eq_of_lt}
use native.Mathlib.Omega.{arith}
use Rattle.format.specs.Frames.{index_at}
use Rattle.format.specs.declared.Axis.{Axis}
use Rattle.format.specs.declared.Axis.TheVariants.{T, Z, P}
use Rattle.format.specs.declared.Loop.{Loop}
use Rattle.summary.specs.Pacing.{Paced}
use Rattle.summary.specs.declared.Pace.{Pace}
use Rattle.register.specs.Turning.{Shows}
use Rattle.register.specs.declared.wheel.Wheel.{Wheel}

-- the quotient of a sum, and what is left of it
digit : (r c i s o : ℕ) → i < c → o < s → ((r * c + i) * s + o) / s % c ≡ i
digit r c i s o h k =
    let e : ((r * c + i) * s + o) / s ≡ r * c + i = mul-add-div_right (omega arith) (r * c + i) o ∙ rw (div-eq_of_lt k) (add-zero (r * c + i)) in
    rw (e, mul-add-mod_self_right r c i) (mod-eq_of_lt h)

module _ {w : Wheel} {a : Axis} {ls : List Loop} {n : ℕ} (h : Shows w a ls n) where
  pub shown : w.index ≡ index_at a n ls
  shown = sym (h.paced.index n ∙ rw h.number (digit h.rounds w.count w.index w.stay w.stood h.low h.short))

  -- one frame on: the index stays, the next one comes, or the first again
  pub stays_on : w.stood + 1 < w.stay → Shows (record { stay = w.stay; count = w.count; index = w.index; stood = w.stood + 1 }) a ls (n + 1)
  stays_on l =
      record { paced = h.paced; short = l; low = h.low; rounds = h.rounds; number = let e = h.number in omega arith }

  module _ (full : w.stay ≤ w.stood + 1) where
    -- the frames of the present index are over
    used_up : n + 1 ≡ (h.rounds * w.count + (w.index + 1)) * w.stay
    used_up = let e = h.number in let k = h.short in omega arith

    pub next_index : w.index + 1 < w.count → Shows (record { stay = w.stay; count = w.count; index = w.index + 1; stood = 0 }) a ls (n + 1)
    next_index l =
        record { paced = h.paced; short = omega (arith, h.short); low = l; rounds = h.rounds; number = used_up ∙ sym (add-zero _) }

    pub first_again : w.count ≤ w.index + 1 → Shows (record { stay = w.stay; count = w.count; index = 0; stood = 0 }) a ls (n + 1)
    first_again l =
        let e : h.rounds * w.count + (w.index + 1) ≡ (h.rounds + 1) * w.count + 0 = omega (arith, h.low) in
        record {
          paced = h.paced;
          short = omega (arith, h.short);
          low = omega (arith, h.low);
          rounds = h.rounds + 1;
          number = used_up ∙ (ap (λ (x : ℕ). x * w.stay) e ∙ sym (add-zero _));
        }

pub wheel_start : {p : Pace} {a : Axis} {ls : List Loop} → Paced p a ls → Shows (record { stay = p.stay; count = p.count; index = 0; stood = 0 }) a ls 0
wheel_start h = record { paced = h; short = h.stays; low = h.some; rounds = 0; number = omega arith }

-- the wheels of the three axes stand at frame n
pub record Stand (scene t z : Wheel) (ls : List Loop) (n : ℕ) : Type 0 where
  pub on_p : Shows scene P ls n
  pub on_t : Shows t T ls n
  pub on_z : Shows z Z ls n
