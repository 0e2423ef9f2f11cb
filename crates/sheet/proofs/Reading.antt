-- Whether a sheet is laid out as one, test by test, and what a reading promises at each way out. Assumes nothing.
use Prim.Native.Nat.{ℕ, ◌+◌, ◌-◌, ◌*◌, ◌≤◌, ◌<◌}
use mathlib.Core.Path.{◌≡◌, refl, sym, ap, ◌∙◌}
use mathlib.Core.Bool.{Bool, true, false}
use mathlib.Core.List.{List, ◌++◌}
use native.Mathlib.Omega.{arith}
use lib.Dec.{ltb}
use lib.ListN.{length, take, drop, length-drop}
use lib.Seq.{take_all}
use borrow.Author.Tests.{ltb-false, lt-ltb, le-ltb, le-leb, eq-eqb}
use Rattle.format.specs.Bytes.{le_at, part, over, same}
use Rattle.format.specs.Answer.{refused, refuse_if, and_then}
use Rattle.format.specs.Refusals as why
use Rattle.format.specs.Attributes.{sample_bytes, bad_bits}
use Rattle.format.specs.Sheets.{sheet_head, sheet_bytes, most_sheet_bytes}
use Rattle.format.specs.Calls.Sheet.{laid_as, sheet_from, sheet_into, sheet_read_by, sheet_read_call}
use Rattle.format.specs.Refused.Order.{First}
use Rattle.format.specs.Refused.Sheet.{SheetReadRefusal, sheet_read_order}
use Rattle.format.specs.Sentences.{Refuses, AcceptedUnless, SheetTaken, TurnedAway, ZeroSizes}
use Rattle.format.proofs.Demands.Requests.{sheets}
use Rattle.format.proofs.Files.SummaryTest.{bits_good, good_bits}
use Rattle.format.proofs.Ground.Buffers.{over_all}
use Rattle.format.proofs.Calls.SheetBytes.{head_length, laid_ruled, size_is_bytes, bits_of_bytes}
use Rattle.sheet.specs.Fits.{Fits}

-- ---- the layout

refuted : (b : Bool) → (b ≡ true → ⊥) → b ≡ false
refuted true f = absurd (f refl)
refuted false f = refl

-- sizes that fit, by the tests
pub fits_by : (w h b : ℕ) → bad_bits b ≡ false → (w ≡ 0 → ⊥) → (h ≡ 0 → ⊥) → ltb most_sheet_bytes (sheet_bytes w h b) ≡ false → Fits w h b
fits_by w h b e x y f = record {
  width_some = omega arith;
  height_some = omega arith;
  bits = bits_good b e;
  most = ltb-false most_sheet_bytes (sheet_bytes w h b) f;
}

module _ (s : List ℕ) (w h b : ℕ) where
  -- what is laid out as a sheet fits, and has its length
  laid_fits : laid_as s w h b ≡ true → Fits w h b × (length s ≡ 186 + w * h * sample_bytes b)
  laid_fits e =
      let z = laid_ruled s w h b e in
      let k : length (drop 186 s) ≡ w * h * sample_bytes b = z.sizes.whole ∙ ap (λ n. w * h * n) (size_is_bytes z.sizes.size_is) in
      let m = z.sizes.most in (
        record { width_some = z.sizes.width_some; height_some = z.sizes.height_some; bits = bits_of_bytes z.sizes.size_is; most = omega arith },
        z.ends ∙ ap (λ n. 186 + n) k,
      )

  pub head_decides : Fits w h b → 186 ≤ length s → length s - 186 ≡ w * h * sample_bytes b → same (part s 0 186) (sheet_head w h b) ≡ laid_as s w h b
  unfolding laid_as
  head_decides f long e =
      rw (
        good_bits b f.bits,
        lt-ltb 0 w f.width_some,
        lt-ltb 0 h f.height_some,
        le-leb (sheet_bytes w h b) most_sheet_bytes f.most,
        eq-eqb (length s) (sheet_bytes w h b) (omega arith),
      ) refl

  -- a head that was stored where a head has room
  pub head_compared : (t : Bool) (x y : List ℕ) → t ≡ same (part s 0 (length x)) x → x ≡ over (sheet_head w h b) y → length y ≡ 186
      → t ≡ same (part s 0 186) (sheet_head w h b)
  head_compared t x y e f l =
      let k : x ≡ sheet_head w h b = f ∙ over_all (sheet_head w h b) y (head_length w h b ∙ sym l) in
      e ∙ rw (k, head_length w h b) refl

-- the strip, copied to the front of lent bytes
pub strip_copied : (s d q : List ℕ) → q ≡ take (length s - 186) (drop 186 s) → q ++ drop (length s - 186) d ≡ over (drop 186 s) d
unfolding over
strip_copied s d q e = rw (e, take_all (length s - 186) (drop 186 s) (rw length-drop (omega arith)), length-drop) refl

-- ---- a reading

module _ (s buf : List ℕ) where
  abbrev T : ℕ → Type 0
  T = SheetReadRefusal s buf

  -- the call's numbers and buffer, and the sentences that follow
  abbrev pub Promised : ℕ → ℕ → ℕ → ℕ → List ℕ → Type 0
  Promised n w h b out = record {
    number : n ≡ (sheet_read_call s buf).number;
    width : w ≡ (sheet_read_call s buf).width;
    height : h ≡ (sheet_read_call s buf).height;
    bits : b ≡ (sheet_read_call s buf).bits;
    buffer : out ≡ (sheet_read_call s buf).samples;
    first : First T sheet_read_order n;
    accepted : AcceptedUnless T n;
    taken : n ≡ 0 → SheetTaken s w h b buf out;
    layout : TurnedAway s n;
    untouched : Refuses n → out ≡ buf;
    zero : Refuses n → ZeroSizes w h b;
  }

  promised : {n w h b : ℕ} {out : List ℕ} → n ≡ (sheet_read_call s buf).number → w ≡ (sheet_read_call s buf).width → h ≡ (sheet_read_call s buf).height
      → b ≡ (sheet_read_call s buf).bits → out ≡ (sheet_read_call s buf).samples → Promised n w h b out
  promised e ew eh eb eo = record {
    number = e;
    width = ew;
    height = eh;
    bits = eb;
    buffer = eo;
    first = rw e (sheets.read_number s buf);
    accepted = rw e (sheets.read_accepted s buf);
    taken = λ q. rw (ew, eh, eb, eo) (sheets.read_taken s buf (sym e ∙ q));
    layout = rw e (sheets.turned_away s buf);
    untouched = λ g. eo ∙ sheets.read_refused s buf (λ q. g (e ∙ q));
    zero = λ g. rw (ew, eh, eb) (sheets.read_zero s buf (λ q. g (e ∙ q)));
  }

  refused_read : {n : ℕ} → sheet_into s (length buf) ≡ refused n → Promised n 0 0 0 buf
  unfolding sheet_read_call sheet_read_by
  refused_read q = promised (rw q refl) (rw q refl) (rw q refl) (rw q refl) (rw q refl)

  abbrev laid : Bool
  laid = laid_as s (le_at 4 s 18) (le_at 4 s 30) (le_at 2 s 42)

  away : laid ≡ false → sheet_into s (length buf) ≡ refused why.sheet_layout
  unfolding sheet_into sheet_from and_then
  away e = rw e refl

  pub short_read : length s < 186 → Promised why.sheet_layout 0 0 0 buf
  short_read l = refused_read (away (refuted laid λ q. let k = (laid_fits s _ _ _ q).1 in omega arith))

  -- width, height and bits where they stand
  module _ {w h b : ℕ} (at_width : w ≡ le_at 4 s 18) (at-height : h ≡ le_at 4 s 30) (at_bits : b ≡ le_at 2 s 42) where
    pub away_read : false ≡ laid_as s w h b → Promised why.sheet_layout 0 0 0 buf
    away_read l = refused_read (away (rw (at_width, at-height, at_bits) at (sym l)))

    module _ (l : true ≡ laid_as s w h b) where
      is_laid : laid ≡ true
      is_laid = rw (at_width, at-height, at_bits) at (sym l)

      pub full_read : length buf < length s - 186 → Promised why.buffer 0 0 0 buf
      full_read k = refused_read full
        where
          full : sheet_into s (length buf) ≡ refused why.buffer
          full = unfold sheet_into sheet_from and_then refuse_if in rw (is_laid, lt-ltb (length buf) (length (drop 186 s)) (rw length-drop k)) refl

      pub taken_read : {out : List ℕ} → length s - 186 ≤ length buf → out ≡ over (drop 186 s) buf → Promised 0 w h b out
      unfolding sheet_read_call sheet_read_by sheet_into sheet_from and_then refuse_if
      taken_read k e =
          let room = le-ltb (length buf) (length (drop 186 s)) (rw length-drop k) in
          promised (rw (is_laid, room) refl) (at_width ∙ rw (is_laid, room) refl) (at-height ∙ rw (is_laid, room) refl) (at_bits ∙ rw (is_laid, room) refl)
          (e ∙ rw (is_laid, room) refl)
