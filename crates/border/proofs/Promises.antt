-- What a border call's number, table and samples promise: the opening's refusal, or the plane of the summary that it returned. Assumes nothing.
use Prim.Native.Nat.{ℕ}
use mathlib.Core.Path.{◌≡◌, refl, sym, ◌∙◌}
use mathlib.Core.List.{List}
use native.Mathlib.Omega.{arith}
use lib.ListN.{length}
use Rattle.format.specs.Answer.{Answer, given, refused, number_of}
use Rattle.format.specs.Bytes.{zeros}
use Rattle.format.specs.Trees.{room_in}
use Rattle.format.specs.Summary.{loops_of}
use Rattle.format.specs.Calls.Open.{opened, open_call, summary_or_zero}
use Rattle.format.specs.Calls.Plane.{plane_call}
use Rattle.format.specs.Calls.Border.{border_call, plane_after}
use Rattle.format.specs.Sentences.{Refuses, Different, PlaneCopied, ReadsExactly, FrameNamed}
use Rattle.format.specs.Grammar.File.{Joined}
use Rattle.format.specs.Grammar.Table.{Enough}
use Rattle.format.specs.Refused.Order.{FirstAt}
use Rattle.format.specs.Refused.Plane.{PlaneStage, PlaneRefusal, plane_order}
use Rattle.format.specs.Refused.Border.{BorderFirst}
use Rattle.format.specs.Given.{number}
use Rattle.format.specs.declared.refusal.Refusal.{Refusal}
use Rattle.format.specs.declared.Summary.{Summary}
use Rattle.format.proofs.Ground.Answers.{Numbered, NotZero, refusal}
use Rattle.format.proofs.Calls.OpenNotZero.{opened_some}
use Rattle.format.proofs.Demands.FirstAndThird.{first, third}
use Rattle.format.proofs.Files.SoundSummary.{joined_sound}
use Rattle.format.proofs.Demands.Misnamed.{plane_named}

-- no refusal has the number 0
pub number_some : (e : Refusal) → number e ≡ 0 → ⊥
number_some e h = grind arith

module _ (s tab : List ℕ) (scene t c z : ℕ) (buf : List ℕ) where
  abbrev opening : ℕ
  opening = (open_call s tab).number

  abbrev theirs : Summary
  theirs = (open_call s tab).summary

  abbrev R : Summary → PlaneStage → ℕ → Type 0
  R u = PlaneRefusal s u scene t c z buf

  abbrev Fits : Type 0
  Fits = Enough s (room_in (length tab))

  -- ---- the call, by what opening answers

  after_refused : Refuses opening → ((border_call s tab scene t c z buf).number ≡ opening) × ((border_call s tab scene t c z buf).samples ≡ buf)
  unfolding border_call open_call plane_after number_of
  after_refused f = go (opened s (room_in (length tab))) f
    where
      go : (x : Answer Summary) → Refuses (number_of x) → ((plane_after s scene t c z buf x).number ≡ number_of x)
          × ((plane_after s scene t c z buf x).buffer ≡ buf)
      go (refused n) f = (refl, refl)
      go (given u) f = absurd (f refl)

  after_opened : opening ≡ 0 → ((border_call s tab scene t c z buf).number ≡ (plane_call s theirs scene t c z buf).number)
      × ((border_call s tab scene t c z buf).samples ≡ (plane_call s theirs scene t c z buf).buffer)
  unfolding border_call open_call plane_after number_of summary_or_zero
  after_opened e = go (opened s (room_in (length tab))) (opened_some s (room_in (length tab))) e
    where
      go : (x : Answer Summary) → Numbered NotZero x → number_of x ≡ 0
          → ((plane_after s scene t c z buf x).number ≡ (plane_call s (summary_or_zero x) scene t c z buf).number)
          × ((plane_after s scene t c z buf x).buffer ≡ (plane_call s (summary_or_zero x) scene t c z buf).buffer)
      go (refused n) (refusal h) e = absurd (omega arith)
      go (given u) h e = (refl, refl)

  -- ---- the sentences

  -- the call's number, samples and table, and the sentences that follow
  pub record Promised (n : ℕ) (out left : List ℕ) : Type 0 where
    pub number : n ≡ (border_call s tab scene t c z buf).number
    pub table : left ≡ (border_call s tab scene t c z buf).table
    pub samples : out ≡ (border_call s tab scene t c z buf).samples
    pub zeroed : left ≡ zeros (length tab)
    pub untouched : Refuses n → out ≡ buf
    pub first : BorderFirst s tab scene t c z buf n
    pub then : (u : Summary) → Joined s u → Fits → FirstAt (R u) plane_order n
    pub accepted : ReadsExactly s (room_in (length tab)) scene t c z buf n
    pub copied : n ≡ 0 → (u : Summary) × Joined s u × PlaneCopied s u scene t c z buf out
    pub different : (u : Summary) → Joined s u → Different (loops_of u)
    pub named : (u : Summary) → Joined s u → Fits → FrameNamed s u scene t c z n

  loops_differ : (u : Summary) → Joined s u → Different (loops_of u)
  loops_differ u j = third.frames_different s u (joined_sound s u j)

  -- what the grammar joins to the bytes is what opening returned
  same_theirs : opening ≡ 0 → (u : Summary) → Joined s u → u ≡ theirs
  same_theirs e u j = third.joined_unique s u theirs j (third.returns_theirs s tab e)

  pub refused_border : {n : ℕ} {left : List ℕ} → n ≡ opening → Refuses n → left ≡ zeros (length tab) → Promised n buf left
  refused_border {n} e f l =
      let g : Refuses opening = λ q. f (e ∙ q) in
      let (p, q) = after_refused g in
      let shut : (u : Summary) → Joined s u → Fits → ⊥ = λ u j h. g ((third.opens_exactly s tab).1 (u, j, h)) in
      record {
        number = e ∙ sym p;
        table = l ∙ sym (first.border_table s tab scene t c z buf);
        samples = sym q;
        zeroed = l;
        untouched = λ _. refl;
        first = rw (e ∙ sym p) (first.border_number s tab scene t c z buf);
        then = λ u j h. absurd (shut u j h);
        accepted = (λ x. absurd (f x), λ (u, j, h, k). absurd (shut u j h));
        copied = λ x. absurd (f x);
        different = loops_differ;
        named = λ u j h. absurd (shut u j h);
      }

  pub opened_border : {n : ℕ} {out left : List ℕ} {u : Summary} → opening ≡ 0 → u ≡ theirs → n ≡ (plane_call s u scene t c z buf).number
      → out ≡ (plane_call s u scene t c z buf).buffer
      → left ≡ zeros (length tab) → Promised n out left
  opened_border {n} {out} {u = v} o w e₀ f₀ l =
      let e : n ≡ (plane_call s theirs scene t c z buf).number = rw w at e₀ in
      let f : out ≡ (plane_call s theirs scene t c z buf).buffer = rw w at f₀ in
      let (p, q) = after_opened o in
      let j = third.returns_theirs s tab o in
      let (v, i, h) = (third.opens_exactly s tab).0 o in
      let a = third.plane_accepted s theirs scene t c z buf in
      record {
        number = e ∙ sym p;
        table = l ∙ sym (first.border_table s tab scene t c z buf);
        samples = f ∙ sym q;
        zeroed = l;
        untouched = λ g. f ∙ first.plane_refused s theirs scene t c z buf (λ x. g (e ∙ x));
        first = rw (e ∙ sym p) (first.border_number s tab scene t c z buf);
        then = λ u k _. rw (same_theirs o u k, e) (first.plane_number s theirs scene t c z buf);
        accepted = (λ x. (theirs, j, h, a.0 (sym e ∙ x)), λ (u, k, _, none). e ∙ a.1 (rw (same_theirs o u k) at none));
        copied = λ x. (theirs, j, rw f (third.plane_sample s theirs scene t c z buf (sym e ∙ x)));
        different = loops_differ;
        named = λ u k _. rw (same_theirs o u k, e) (plane_named s theirs scene t c z buf);
      }
