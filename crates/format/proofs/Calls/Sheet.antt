-- The numbers of the calls that write and read a sheet, what they leave, and that what was written is read back. Assumes nothing.
use Prim.Native.Nat.{ℕ, ◌+◌, ◌≤◌, ◌<◌}
use mathlib.Core.Path.{◌≡◌, refl, sym, ap, ◌∙◌}
use mathlib.Core.Logic.{◌↔◌}
use mathlib.Core.Bool.{Bool, true, false}
use mathlib.Core.List.{List, [], ◌∷◌, map}
use native.Mathlib.Omega.{arith}
use lib.Dec.{ltb, lit<}
use lib.ListN.{length, take, drop, length-replicate}
use lib.Seq.{take_at, drop_at}
use borrow.Author.Tests.{ltb-true, ltb-false, le-ltb}
use Rattle.format.specs.Answer.{Answer, given, refused, refuse_if, and_then, number_of}
use Rattle.format.specs.Bytes.{over, zeros}
use Rattle.format.specs.Refusals as why
use Rattle.format.specs.Attributes.{sample_bytes, plane_bytes}
use Rattle.format.specs.Summary.{shape_of}
use Rattle.format.specs.Sheets.{sheet, most_sheet_bytes}
use Rattle.format.specs.Calls.Plane.{frame_of, frame_for, plane_samples, plane_by, plane_call}
use Rattle.format.specs.Calls.Sheet.{sheet_for, sheet_by, sheet_call, SheetSaid, sheet_from, sheet_into, SheetOutcome, sheet_read_by, sheet_read_call}
use Rattle.format.specs.Grammar.Lists.{In, here, behind}
use Rattle.format.specs.Grammar.Sheets.{SheetSizes, SheetOf}
use Rattle.format.specs.Refused.Order.{First, FirstAt}
use Rattle.format.specs.Refused.Plane.{FrameStage, FrameRefusal, frame_order}
use Rattle.format.specs.Refused.Sheet.{SheetStage, frame, size, buffer, sheet_order, SheetRefusal, frame_refused, too_long, lent_short}
use Rattle.format.specs.Refused.Sheet.{SheetReadRefusal, layout, samples_short, sheet_read_order}
use Rattle.format.specs.Sentences.{Refuses, AcceptedUnless, AtSome, SheetWritten, SheetTaken}
use Rattle.format.specs.declared.Range.{Range}
use Rattle.format.specs.declared.Summary.{Summary}
use Rattle.format.proofs.Ground.Answers.{refused≢given, refuse_if_given, and_then_given, given_inj, not_refused, go_on, Numbered, refusal}
use Rattle.format.proofs.Ground.Orders as order
use Rattle.format.proofs.Ground.Orders.{Decides, decides_less, decides_one, nonzero, accepted_iff}
use Rattle.format.proofs.Ground.Stages as staged
use Rattle.format.proofs.Ground.Stages.{DecidesAt, gives, goes, tests, decides_then, decides_map, accepted_at, first_once}
use Rattle.format.proofs.Ground.Lists.{in_left, in_right, in_map}
use Rattle.format.proofs.Ground.Buffers.{over_length, over_all}
use Rattle.format.proofs.Calls.Plane.{frame_decides, frame_staged, frame_stage_once, Found, frame_found, plane_length, samples_copied}
use Rattle.format.proofs.Calls.SheetBytes.{bytes_of_bits, sheet_length, rule_is, sheet_said, said_sheet, sheet_numbered}

-- ---- lent bytes with an answer in front

front : (xs buf : List ℕ) (n : ℕ) → length xs ≡ n → take n (over xs buf) ≡ xs
unfolding over
front xs buf n e = take_at xs (drop (length xs) buf) n e

behind_front : (xs buf : List ℕ) (n : ℕ) → length xs ≡ n → drop n (over xs buf) ≡ drop n buf
unfolding over
behind_front xs buf n e = drop_at xs (drop (length xs) buf) n e ∙ ap (λ k. drop k buf) e

-- ---- writing

module _ (s : List ℕ) (u : Summary) (scene t c z : ℕ) (lent : List ℕ) where
  abbrev W : SheetStage → ℕ → Type 0
  W = SheetRefusal s u scene t c z lent

  abbrev bytes : ℕ
  bytes = 186 + plane_bytes (shape_of u)

  says_frame : (a : FrameStage) (n : ℕ) → W (frame a) n → FrameRefusal s u scene t c z a n
  says_frame a n (frame_refused f) = f

  size_passes : bytes ≤ most_sheet_bytes → (n : ℕ) → W size n → ⊥
  size_passes h n (too_long l) = omega arith

  buffer_passes : bytes ≤ length lent → (n : ℕ) → W buffer n → ⊥
  buffer_passes h n (lent_short l) = omega arith

  sheet_decides : DecidesAt W sheet_order (sheet_for s u scene t c z (length lent))
  unfolding sheet_for
  sheet_decides =
      decides_then {front = map frame frame_order} (frame_of s u scene t c z) _
      (decides_map frame (λ a n. frame_refused) says_frame (frame_decides s u scene t c z)) λ r e.
      tests (ltb most_sheet_bytes bytes) why.sheet_long _ (λ q. too_long (ltb-true _ _ q)) λ q₁.
      goes (size_passes (ltb-false _ _ q₁))
      (tests (ltb (length lent) bytes) why.buffer _ (λ q. lent_short (ltb-true _ _ q)) λ q₂. goes (buffer_passes (ltb-false _ _ q₂)) gives)

  pub by_number : (x : Answer Range) → (sheet_by s u c lent x).number ≡ number_of x
  unfolding sheet_by number_of
  by_number (refused n) = refl
  by_number (given r) = refl

  -- The number is what the first stage that refuses gives.
  pub write_number : FirstAt W sheet_order (sheet_call s u scene t c z lent).number
  unfolding sheet_call
  write_number = rw (by_number (sheet_for s u scene t c z (length lent))) (staged.decides_first sheet_decides)

  once : (a : SheetStage) (n m : ℕ) → W a n → W a m → n ≡ m
  once a n m (frame_refused {a = b} f) (frame_refused g) = frame_stage_once s u scene t c z b n m f g
  once a n m (too_long h) (too_long k) = refl
  once a n m (lent_short h) (lent_short k) = refl

  -- No other number is.
  pub write_number_only : (n m : ℕ) → FirstAt W sheet_order n → FirstAt W sheet_order m → n ≡ m
  write_number_only n m x y = first_once once x y

  in_stages : (a : SheetStage) (n : ℕ) → W a n → In a sheet_order × (0 < n)
  in_stages a n (frame_refused {a = b} f) = let (i, h) = frame_staged s u scene t c z b n f in (in_left (size ∷ buffer ∷ []) (in_map frame i), h)
  in_stages a n (too_long h) = (in_right (map frame frame_order) here, lit< tt)
  in_stages a n (lent_short h) = (in_right (map frame frame_order) (behind here), lit< tt)

  -- It is 0 exactly when no stage refuses.
  pub write_accepted : AcceptedUnless (AtSome W) (sheet_call s u scene t c z lent).number
  write_accepted = accepted_at in_stages write_number

  -- Where it is not 0, the lent bytes are as they were.
  pub write_refused : Refuses (sheet_call s u scene t c z lent).number → (sheet_call s u scene t c z lent).buffer ≡ lent
  unfolding sheet_call sheet_by
  write_refused f = go (sheet_for s u scene t c z (length lent)) f
    where
      go : (x : Answer Range) → Refuses (sheet_by s u c lent x).number → (sheet_by s u c lent x).buffer ≡ lent
      go (refused n) f = refl
      go (given r) f = absurd (f refl)

  -- what an accepted call has found
  pub record Fitting (r : Range) : Type 0 where
    pub framed : frame_of s u scene t c z ≡ given r
    pub found : Found s u scene t c z r
    pub most : bytes ≤ most_sheet_bytes
    pub room : bytes ≤ length lent

  pub fitting : (r : Range) → sheet_for s u scene t c z (length lent) ≡ given r → Fitting r
  unfolding sheet_for
  fitting r e =
      let (r', e₀, e₁) = and_then_given (frame_of s u scene t c z) _ e in
      let (f₁, e₂) = refuse_if_given (ltb most_sheet_bytes bytes) why.sheet_long _ e₁ in
      let (f₂, e₃) = refuse_if_given (ltb (length lent) bytes) why.buffer (given r') e₂ in
      let k : r' ≡ r = given_inj e₃ in
      let e₄ = rw k at e₀ in
      record { framed = e₄; found = frame_found s u scene t c z r e₄; most = ltb-false _ _ f₁; room = ltb-false _ _ f₂ }

  -- a number of 0 comes with a frame
  write_found : (sheet_call s u scene t c z lent).number ≡ 0 → (r : Range) × (sheet_for s u scene t c z (length lent) ≡ given r)
  unfolding sheet_call
  write_found e = staged.decides_given (λ a n w. (in_stages a n w).1) sheet_decides (sym (by_number (sheet_for s u scene t c z (length lent))) ∙ e)

  module _ (r : Range) (f : Fitting r) where
    abbrev xs : List ℕ
    xs = plane_samples s u c r

    abbrev made : List ℕ
    made = sheet u.width u.height u.bits xs

    long_xs : length xs ≡ plane_bytes (shape_of u)
    long_xs = plane_length s u scene t c z r f.found

    long_made : length made ≡ bytes
    long_made = sheet_length u.width u.height u.bits xs ∙ ap (λ n. 186 + n) long_xs

    sizes : SheetSizes u.width u.height u.bits xs
    sizes =
        record {
          width_some = f.found.sound.shape.width_some;
          height_some = f.found.sound.shape.height_some;
          size = sample_bytes u.bits;
          size_is = bytes_of_bits u.bits f.found.sound.bits;
          whole = long_xs;
          most = rw long_xs f.most;
        }

    is_sheet : SheetOf made u.width u.height u.bits xs
    is_sheet = (rule_is made u.width u.height u.bits xs).1 (sizes, refl)

    filled : over xs (zeros (plane_bytes (shape_of u))) ≡ xs
    unfolding zeros
    filled = over_all xs _ (long_xs ∙ sym (length-replicate (plane_bytes (shape_of u)) 0))

    enough : plane_bytes (shape_of u) ≤ length (zeros (plane_bytes (shape_of u)))
    unfolding zeros
    enough = rw length-replicate (omega arith)

    made_written : SheetWritten s u scene t c z lent (over made lent)
    made_written =
        record {
          samples = xs;
          plane = (r, f.found.frame_data, rw filled at (samples_copied s u scene t c z r f.found (zeros (plane_bytes (shape_of u))) enough));
          sheet = rw (front made lent bytes long_made) is_sheet;
          later = behind_front made lent bytes long_made;
          length_kept = over_length made lent (rw long_made f.room);
        }

  -- An accepted call leaves the sheet of the plane's samples in front.
  pub written : (sheet_call s u scene t c z lent).number ≡ 0 → SheetWritten s u scene t c z lent (sheet_call s u scene t c z lent).buffer
  unfolding sheet_call sheet_by
  written e = let (r, q) = write_found e in rw q (made_written r (fitting r q))

  -- the frame of a plane that has room for it
  plane_framed : (r : Range) (samples : List ℕ) → frame_of s u scene t c z ≡ given r → plane_bytes (shape_of u) ≤ length samples
      → frame_for s u scene t c z (length samples) ≡ given r
  unfolding frame_for
  plane_framed r samples e h =
      go_on (frame_of s u scene t c z) _ r e (not_refused (ltb (length samples) (plane_bytes (shape_of u))) why.buffer (given r) (given r) (le-ltb _ _ h) refl)

  -- The plane call on the same arguments is accepted, and the sheet is that of its samples.
  pub plane_written : (samples : List ℕ) → (sheet_call s u scene t c z lent).number ≡ 0 → plane_bytes (shape_of u) ≤ length samples
      → ((plane_call s u scene t c z samples).number ≡ 0)
      × (take bytes (sheet_call s u scene t c z lent).buffer
      ≡ sheet u.width u.height u.bits (take (plane_bytes (shape_of u)) (plane_call s u scene t c z samples).buffer))
  unfolding sheet_call sheet_by plane_call plane_by
  plane_written samples e h =
      let (r, q) = write_found e in
      let f = fitting r q in
      let e₁ = front (made r f) lent bytes (long_made r f) in
      let e₂ = front (xs r f) samples (plane_bytes (shape_of u)) (long_xs r f) in
      rw (q, plane_framed r samples f.framed h, e₁, e₂) (refl, refl)

-- ---- reading

module _ (s buf : List ℕ) where
  abbrev T : ℕ → Type 0
  T = SheetReadRefusal s buf

  says_layout : T why.sheet_layout → (w h b : ℕ) (xs : List ℕ) → SheetOf s w h b xs → ⊥
  says_layout (layout f) = f

  says_short : (q : SheetSaid) → sheet_from s ≡ given q → T why.buffer → length buf < length q.samples
  says_short q e (samples_short z l) = rw (sym (ap samples_of (given_inj (sym (sheet_said s z) ∙ e)))) l
    where
      samples_of : SheetSaid → List ℕ
      samples_of q = q.samples

  read_decides : Decides T sheet_read_order (sheet_into s (length buf))
  unfolding sheet_into
  read_decides =
      order.decides_then {ns = why.sheet_layout ∷ []} (sheet_from s) _
      (decides_one why.sheet_layout _ (sheet_numbered s refl) (λ f. layout λ w h b xs z. f _ (sheet_said s z))
      (λ q e p. says_layout p _ _ _ _ (said_sheet s q e))) λ q e.
      decides_less (length buf) (length q.samples) why.buffer _ (samples_short (said_sheet s q e)) (says_short q e) order.gives

  read_by_number : (x : Answer SheetSaid) → (sheet_read_by buf x).number ≡ number_of x
  unfolding sheet_read_by number_of
  read_by_number (refused n) = refl
  read_by_number (given q) = refl

  -- The number is the first of the refusals in order.
  pub read_number : First T sheet_read_order (sheet_read_call s buf).number
  unfolding sheet_read_call
  read_number = rw (read_by_number (sheet_into s (length buf))) (order.decides_first read_decides)

  read_in_order : (k : ℕ) → T k → In k sheet_read_order
  read_in_order k (layout f) = here
  read_in_order k (samples_short z h) = behind here

  -- It is 0 exactly when none of them holds.
  pub read_accepted : AcceptedUnless T (sheet_read_call s buf).number
  read_accepted = accepted_iff (nonzero sheet_read_order refl) read_in_order read_number

  -- Where it is not 0, the samples are as they were, and the numbers 0.
  pub read_refused : Refuses (sheet_read_call s buf).number → (sheet_read_call s buf).samples ≡ buf
  unfolding sheet_read_call sheet_read_by
  read_refused f = go (sheet_into s (length buf)) f
    where
      go : (x : Answer SheetSaid) → Refuses (sheet_read_by buf x).number → (sheet_read_by buf x).samples ≡ buf
      go (refused n) f = refl
      go (given q) f = absurd (f refl)

  pub read_zero : Refuses (sheet_read_call s buf).number
      → ((sheet_read_call s buf).width ≡ 0) × (((sheet_read_call s buf).height ≡ 0) × ((sheet_read_call s buf).bits ≡ 0))
  unfolding sheet_read_call sheet_read_by
  read_zero f = go (sheet_into s (length buf)) f
    where
      go : (x : Answer SheetSaid) → Refuses (sheet_read_by buf x).number
          → ((sheet_read_by buf x).width ≡ 0) × (((sheet_read_by buf x).height ≡ 0) × ((sheet_read_by buf x).bits ≡ 0))
      go (refused n) f = (refl, (refl, refl))
      go (given q) f = absurd (f refl)

  into_taken : (q : SheetSaid) → sheet_into s (length buf) ≡ given q → SheetTaken s q.width q.height q.bits buf (over q.samples buf)
  unfolding sheet_into
  into_taken q e =
      let (q', e₀, e₁) = and_then_given (sheet_from s) _ e in
      let (f, e₂) = refuse_if_given (ltb (length buf) (length q'.samples)) why.buffer (given q') e₁ in
      let k : q' ≡ q = given_inj e₂ in
      let room = ltb-false (length buf) (length q'.samples) f in
      record {
        samples = q.samples;
        sheet = said_sheet s q (rw k at e₀);
        front = front q.samples buf (length q.samples) refl;
        later = behind_front q.samples buf (length q.samples) refl;
        length_kept = over_length q.samples buf (rw k at room);
      }

  -- Where it is 0, the sheet is that of the answered sizes and bits, and its samples are in front.
  pub read_taken : (sheet_read_call s buf).number ≡ 0
      → SheetTaken s (sheet_read_call s buf).width (sheet_read_call s buf).height (sheet_read_call s buf).bits buf (sheet_read_call s buf).samples
  unfolding sheet_read_call sheet_read_by
  read_taken e =
      let (q, f) = order.decides_given (nonzero sheet_read_order refl) read_decides (sym (read_by_number (sheet_into s (length buf))) ∙ e) in
      rw f (into_taken q f)

  -- It is 27 exactly where no rules hold of the sheet.
  pub turned_away : ((sheet_read_call s buf).number ≡ why.sheet_layout) ↔ ((w h b : ℕ) (xs : List ℕ) → SheetOf s w h b xs → ⊥)
  unfolding sheet_read_call sheet_read_by sheet_into and_then refuse_if
  turned_away = go (sheet_from s) refl (sheet_numbered s refl)
    where
      other : (b : Bool) (q : SheetSaid) → (sheet_read_by buf (refuse_if b why.buffer (given q))).number ≡ why.sheet_layout → ⊥
      other true q e = omega arith
      other false q e = omega arith

      go : (x : Answer SheetSaid) → sheet_from s ≡ x → Numbered (λ n. n ≡ why.sheet_layout) x
          → ((sheet_read_by buf (and_then x λ q. refuse_if (ltb (length buf) (length q.samples)) why.buffer (given q))).number ≡ why.sheet_layout)
          ↔ ((w h b : ℕ) (xs : List ℕ) → SheetOf s w h b xs → ⊥)
      go (refused n) e (refusal k) = (λ _ w h b xs z. refused≢given (sym e ∙ sheet_said s z), λ _. k)
      go (given q) e d = (λ f. absurd (other (ltb (length buf) (length q.samples)) q f), λ f. absurd (f _ _ _ _ (said_sheet s q e)))

-- ---- there and back

-- a sheet is taken where there is room for its samples
taken : {s : List ℕ} {w h b : ℕ} {xs : List ℕ} (buf : List ℕ) → SheetOf s w h b xs → length xs ≤ length buf
    → sheet_read_call s buf ≡ record { number = 0; width = w; height = h; bits = b; samples = over xs buf }
unfolding sheet_read_call sheet_read_by sheet_into and_then refuse_if
taken {s} {w} {h} {b} {xs} buf z room = rw (sheet_said s z, le-ltb (length buf) (length xs) room) refl

module _ (s : List ℕ) (u : Summary) (scene t c z : ℕ) (lent samples : List ℕ) where
  abbrev back : SheetOutcome
  back = sheet_read_call (take (186 + plane_bytes (shape_of u)) (sheet_call s u scene t c z lent).buffer) samples

  -- What was written gives sizes and bits back, and the samples that the plane call gives.
  pub read_back : (sheet_call s u scene t c z lent).number ≡ 0 → plane_bytes (shape_of u) ≤ length samples
      → (back.number ≡ 0) × ((back.width ≡ u.width) × ((back.height ≡ u.height) × ((back.bits ≡ u.bits)
      × (back.samples ≡ (plane_call s u scene t c z samples).buffer))))
  unfolding sheet_call sheet_by plane_call plane_by
  read_back e h =
      let (r, q) = write_found s u scene t c z lent e in
      let f = fitting s u scene t c z lent r q in
      let n = 186 + plane_bytes (shape_of u) in
      let long = long_xs s u scene t c z lent r f in
      rw (
        q,
        front (made s u scene t c z lent r f) lent n (long_made s u scene t c z lent r f),
        taken samples (is_sheet s u scene t c z lent r f) (rw long h),
        plane_framed s u scene t c z lent r samples f.framed h,
      ) (refl, (refl, (refl, (refl, refl))))
