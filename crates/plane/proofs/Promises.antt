-- What a plane call's number and buffer promise, and what they are where the frame is refused or found. Assumes nothing.
use Prim.Native.Nat.{ℕ, ◌+◌, ◌-◌, ◌≤◌}
use mathlib.Core.Path.{◌≡◌, refl, sym, ◌∙◌}
use mathlib.Core.List.{List}
use native.Mathlib.Nat.{mul_comm}
use native.Mathlib.Omega.{arith}
use lib.ListN.{length}
use Rattle.format.specs.Bytes.{over}
use Rattle.format.specs.Answer.{given, refused}
use Rattle.format.specs.Attributes.{plane_bytes}
use Rattle.format.specs.Summary.{shape_of}
use Rattle.format.specs.Calls.Plane.{frame_for, plane_samples, plane_by, plane_call}
use Rattle.format.specs.Sentences.{Refuses, AcceptedUnless, AtSome, PlaneCopied, FrameNamed}
use Rattle.format.specs.Refused.Order.{FirstAt}
use Rattle.format.specs.Refused.Plane.{PlaneStage, PlaneRefusal, plane_order}
use Rattle.format.specs.declared.Range.{Range}
use Rattle.format.specs.declared.Summary.{Summary}
use Rattle.format.proofs.Calls.Plane.{Found, ready, plane_number, plane_accepted, plane_sample, plane_refused}
use Rattle.format.proofs.Demands.Misnamed.{plane_named}
use Rattle.plane.specs.Found.{Fit}

-- what a frame that was found has; sheets cite it too
module _ {s : List ℕ} {u : Summary} {scene t c z : ℕ} {r : Range} (f : Found s u scene t c z r) where
  pub found_inside : r.start + r.len ≤ length s
  found_inside = let k = f.frame_data.chunk in omega (arith, k.data_within, k.data_start, k.data_len)

  pub found_fit : (room : ℕ) → plane_bytes (shape_of u) ≤ room → Fit u c (r.len - 8) room
  found_fit room enough =
      record { bits = f.sound.bits; shape = f.sound.shape; component = f.component; whole = rw mul_comm f.frame_long.rows; enough = enough }

module _ (s : List ℕ) (u : Summary) (scene t c z : ℕ) (buf : List ℕ) where
  abbrev R : PlaneStage → ℕ → Type 0
  R = PlaneRefusal s u scene t c z buf

  -- the call's number and buffer, and the sentences that follow
  abbrev pub Promised : ℕ → List ℕ → Type 0
  Promised n out = record {
    number : n ≡ (plane_call s u scene t c z buf).number;
    buffer : out ≡ (plane_call s u scene t c z buf).buffer;
    first : FirstAt R plane_order n;
    accepted : AcceptedUnless (AtSome R) n;
    copied : n ≡ 0 → PlaneCopied s u scene t c z buf out;
    untouched : Refuses n → out ≡ buf;
    named : FrameNamed s u scene t c z n;
  }

  promised : {n : ℕ} {out : List ℕ} → n ≡ (plane_call s u scene t c z buf).number → out ≡ (plane_call s u scene t c z buf).buffer → Promised n out
  promised e f = record {
    number = e;
    buffer = f;
    first = rw e (plane_number s u scene t c z buf);
    accepted = rw e (plane_accepted s u scene t c z buf);
    copied = λ q. rw f (plane_sample s u scene t c z buf (sym e ∙ q));
    untouched = λ g. f ∙ plane_refused s u scene t c z buf (λ q. g (e ∙ q));
    named = rw e (plane_named s u scene t c z buf);
  }

  pub refused_plane : {n : ℕ} → refused n ≡ frame_for s u scene t c z (length buf) → Promised n buf
  unfolding plane_call plane_by
  refused_plane q = promised (rw (sym q) refl) (rw (sym q) refl)

  pub found_plane : {r : Range} {out : List ℕ} → given r ≡ frame_for s u scene t c z (length buf) → out ≡ over (plane_samples s u c r) buf → Promised 0 out
  unfolding plane_call plane_by
  found_plane q e = promised (rw (sym q) refl) (e ∙ rw (sym q) refl)

  -- the frame of an accepted call
  module _ {r : Range} (q : given r ≡ frame_for s u scene t c z (length buf)) where
    pub inside : r.start + r.len ≤ length s
    inside = found_inside (ready s u scene t c z buf r (sym q)).frame_found

    pub prefix : 8 ≤ r.len
    prefix = (ready s u scene t c z buf r (sym q)).frame_found.frame_long.prefix

    pub fit : Fit u c (r.len - 8) (length buf)
    fit = let g = ready s u scene t c z buf r (sym q) in found_fit g.frame_found (length buf) g.room
