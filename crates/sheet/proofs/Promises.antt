-- What the calls' numbers and buffers promise, and what they are at each way out. Assumes nothing.
use Prim.Native.Nat.{ℕ, ◌+◌, ◌-◌, ◌≤◌}
use mathlib.Core.Path.{◌≡◌, refl, sym, ap, ◌∙◌}
use mathlib.Core.List.{List, [], ◌++◌, append_assoc, append-nil}
use native.Mathlib.Omega.{arith}
use lib.ListN.{length, take, drop, length-append, length-drop}
use lib.Seq.{take_all, take_at, drop_at, drop-drop, drop-length}
use borrow.Rule.Slice.PartMut.{put_mid}
use Rattle.format.specs.Bytes.{over}
use Rattle.format.specs.Answer.{given, refused}
use Rattle.format.specs.Sheets.{sheet_head, sheet}
use Rattle.format.specs.Calls.Plane.{plane_samples}
use Rattle.format.specs.Calls.Sheet.{sheet_for, sheet_by, sheet_call}
use Rattle.format.specs.Refused.Order.{FirstAt}
use Rattle.format.specs.Refused.Sheet.{SheetStage, SheetRefusal, sheet_order}
use Rattle.format.specs.Sentences.{Refuses, AcceptedUnless, AtSome, SheetWritten, PlaneOn, FrameNamed}
use Rattle.format.specs.declared.Range.{Range}
use Rattle.format.specs.declared.Summary.{Summary}
use Rattle.format.proofs.Demands.Requests.{sheets, chunk_names}
use Rattle.format.proofs.Calls.Sheet.{Fitting, fitting}
use Rattle.plane.specs.Found.{Fit}
use Rattle.plane.proofs.Promises.{found_inside, found_fit}
use Rattle.sheet.specs.Fits.{Fits}

-- ---- written

module _ (s : List ℕ) (u : Summary) (scene t c z : ℕ) (lent : List ℕ) where
  abbrev W : SheetStage → ℕ → Type 0
  W = SheetRefusal s u scene t c z lent

  -- the call's number and buffer, and the sentences that follow
  abbrev pub Promised : ℕ → List ℕ → Type 0
  Promised n out = record {
    number : n ≡ (sheet_call s u scene t c z lent).number;
    buffer : out ≡ (sheet_call s u scene t c z lent).buffer;
    first : FirstAt W sheet_order n;
    accepted : AcceptedUnless (AtSome W) n;
    written : n ≡ 0 → SheetWritten s u scene t c z lent out;
    plane : n ≡ 0 → PlaneOn s u scene t c z out;
    untouched : Refuses n → out ≡ lent;
    named : FrameNamed s u scene t c z n;
  }

  promised : {n : ℕ} {out : List ℕ} → n ≡ (sheet_call s u scene t c z lent).number → out ≡ (sheet_call s u scene t c z lent).buffer → Promised n out
  promised e f = record {
    number = e;
    buffer = f;
    first = rw e (sheets.write_number s u scene t c z lent);
    accepted = rw e (sheets.write_accepted s u scene t c z lent);
    written = λ q. rw f (sheets.written s u scene t c z lent (sym e ∙ q));
    plane = λ q samples room. rw f (sheets.plane_written s u scene t c z lent (sym e ∙ q) samples room);
    untouched = λ g. f ∙ sheets.write_refused s u scene t c z lent (λ q. g (e ∙ q));
    named = rw e (chunk_names.sheet_named s u scene t c z lent);
  }

  pub refused_sheet : {n : ℕ} → refused n ≡ sheet_for s u scene t c z (length lent) → Promised n lent
  unfolding sheet_call sheet_by
  refused_sheet q = promised (rw (sym q) refl) (rw (sym q) refl)

  -- the frame of an accepted call
  module _ {r : Range} (q : given r ≡ sheet_for s u scene t c z (length lent)) where
    found : Fitting s u scene t c z lent r
    found = fitting s u scene t c z lent r (sym q)

    pub inside : r.start + r.len ≤ length s
    inside = found_inside found.found

    pub prefix : 8 ≤ r.len
    prefix = found.found.frame_long.prefix

    pub head_room : 186 ≤ length lent
    head_room = omega (arith, found.room)

    pub head_fits : Fits u.width u.height u.bits
    head_fits =
        let f = found.found in
        record { width_some = f.sound.shape.width_some; height_some = f.sound.shape.height_some; bits = f.sound.bits; most = found.most }

    pub fit : Fit u c (r.len - 8) (length lent - 186)
    fit = found_fit found.found (length lent - 186) (omega (arith, found.room))

    pub written_sheet : {out : List ℕ} → out ≡ over (sheet_head u.width u.height u.bits ++ plane_samples s u c r) lent → Promised 0 out
    unfolding sheet_call sheet_by sheet
    written_sheet e = promised (rw (sym q) refl) (e ∙ rw (sym q) refl)

-- a head and then a strip, stored in lent bytes
module _ (head xs lent d q : List ℕ) (long : length head ≡ 186) (headed : d ≡ over head lent) (room : 186 ≤ length lent) where
  pub headed_length : length d ≡ length lent
  unfolding over
  headed_length = ap length headed ∙ rw (length-append, length-drop, long) (omega arith)

  behind_head : drop 186 d ≡ drop 186 lent
  unfolding over
  behind_head = rw headed (drop_at head (drop (length head) lent) 186 long ∙ ap (λ n. drop n lent) long)

  all_behind : take (length d - 186) (drop 186 d) ≡ drop 186 lent
  all_behind = take_all (length d - 186) (drop 186 d) (rw length-drop (omega arith)) ∙ behind_head

  pub strip_length : length (take (length d - 186) (drop 186 d)) ≡ length lent - 186
  strip_length = ap length all_behind ∙ length-drop 186 lent

  past : (n : ℕ) → n ≡ length d → drop n d ≡ []
  past n k = rw k (drop-length d)

  pub strip_stored : q ≡ over xs (take (length d - 186) (drop 186 d)) → put_mid 186 (length d - 186) d q ≡ over (head ++ xs) lent
  unfolding over
  strip_stored e =
      let none : drop (length d - 186) (drop 186 d) ≡ [] = drop-drop (length d - 186) 186 d ∙ past (186 + (length d - 186)) (omega (arith, headed_length)) in
      let front : take 186 d ≡ head = rw headed (take_at head (drop (length head) lent) 186 long) in
      rw (none, append-nil, front, e, all_behind, drop-drop, append_assoc, length-append, long) refl
