-- What an opening's number and summary promise. Assumes nothing.
use Prim.Native.Nat.{ℕ}
use mathlib.Core.Path.{◌≡◌, refl, ap, ◌∙◌}
use mathlib.Core.List.{List}
use lib.ListN.{length}
use Rattle.std.specs.Prelude.{Result, Ok, Err, IfOk}
use Rattle.std.specs.Result.{result_unwrap_or}
use Rattle.format.specs.Answer.{number_of}
use Rattle.format.specs.Bytes.{zeros}
use Rattle.format.specs.Given.{answer, said}
use Rattle.format.specs.Trees.{room_in}
use Rattle.format.specs.Summary.{loops_of, zero_summary}
use Rattle.format.specs.Calls.Open.{opened, open_call, summary_or_zero}
use Rattle.format.specs.Grammar.File.{Joined}
use Rattle.format.specs.Refused.Order.{FirstAt}
use Rattle.format.specs.Refused.Open.{OpenRefusal, open_order}
use Rattle.format.specs.Refused.Summary.{Sound, Blank}
use Rattle.format.specs.Sentences.{Refuses, OpensExactly, Different, WholeNeeded, WholeTyped, NeededNamed, CalibrationNamed}
use Rattle.format.specs.declared.Summary.{Summary}
use Rattle.format.specs.declared.refusal.Refusal.{Refusal}
use Rattle.format.proofs.Demands.FirstAndThird.{first, third}
use Rattle.format.proofs.Demands.Requests.{whole_numbers, chunk_names}

-- the number and the summary of an answer
number_is : (r : Result Summary Refusal) → said r ≡ number_of (answer r)
unfolding number_of
number_is (Ok u) = refl
number_is (Err e) = refl

summary_is : (r : Result Summary Refusal) → result_unwrap_or r zero_summary ≡ summary_or_zero (answer r)
unfolding summary_or_zero
summary_is (Ok u) = refl
summary_is (Err e) = refl

on_ok : (P : Summary → Type 0) (r : Result Summary Refusal) → (said r ≡ 0 → P (result_unwrap_or r zero_summary)) → IfOk r P
on_ok P (Ok u) f = f refl
on_ok P (Err e) f = tt

module _ (s t : List ℕ) where
  -- what an answer promises, by the names of the clauses
  pub record Promised (r : Result Summary Refusal) (out : List ℕ) : Type 0 where
    pub number : said r ≡ (open_call s t).number
    pub summary : result_unwrap_or r zero_summary ≡ (open_call s t).summary
    pub table : out ≡ (open_call s t).table
    pub zeroed : out ≡ zeros (length t)
    pub first_at : FirstAt (OpenRefusal s (room_in (length t))) open_order (said r)
    pub blank : Refuses (said r) → Blank (result_unwrap_or r zero_summary)
    pub exactly : OpensExactly s (room_in (length t)) (said r)
    pub theirs : IfOk r (Joined s)
    pub sound : IfOk r (Sound s)
    pub different : IfOk r (λ u. Different (loops_of u))
    pub whole : WholeNeeded s (room_in (length t)) (said r)
    pub typed : IfOk r (WholeTyped s)
    pub named : NeededNamed s (said r)
    pub calibrated : IfOk r (CalibrationNamed s)

  pub promised : (r : Result Summary Refusal) {out : List ℕ} → answer r ≡ opened s (room_in (length t)) → out ≡ zeros (length t) → Promised r out
  unfolding open_call
  promised r q z =
      let e : said r ≡ (open_call s t).number = number_is r ∙ ap number_of q in
      let f : result_unwrap_or r zero_summary ≡ (open_call s t).summary = summary_is r ∙ ap summary_or_zero q in
      record {
        number = e;
        summary = f;
        table = z;
        zeroed = z;
        first_at = rw e (first.open_number s t);
        blank = rw (e, f) (first.open_refused s t);
        exactly = rw e (third.opens_exactly s t);
        theirs = on_ok _ r (rw (e, f) (third.returns_theirs s t));
        sound = on_ok _ r (rw (e, f) (third.opened_sound s t));
        different = on_ok _ r (rw (e, f) (λ o. third.frames_different s (open_call s t).summary (third.opened_sound s t o)));
        whole = rw e (whole_numbers.open_whole s t);
        typed = on_ok _ r (rw (e, f) (whole_numbers.open_typed s t));
        named = rw e (chunk_names.open_named s t);
        calibrated = on_ok _ r (rw (e, f) (chunk_names.calibration_missing s t));
      }
