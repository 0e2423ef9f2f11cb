-- What a picometres call's number, size and table promise. Assumes nothing.
use Prim.Native.Nat.{ℕ}
use mathlib.Core.Path.{◌≡◌, refl, ap, ◌∙◌}
use mathlib.Core.List.{List}
use lib.ListN.{length}
use Rattle.std.specs.Prelude.{Result, Ok, Err, IfOk}
use Rattle.std.specs.Result.{result_unwrap_or}
use Rattle.format.specs.Answer.{Answer, number_of}
use Rattle.format.specs.Bytes.{ascii, zeros}
use Rattle.format.specs.Given.{answer, said}
use Rattle.format.specs.Trees.{room_in}
use Rattle.format.specs.Calls.Picometres.{picometres_of, picometres_call, size_or_zero}
use Rattle.format.specs.Refused.Order.{FirstAt}
use Rattle.format.specs.Refused.Picometres.{PicometresRefusal, picometres_order, SizeIs}
use Rattle.format.specs.Sentences.{Refuses, AcceptedUnless, AtSome, TreeNamed}
use Rattle.format.specs.declared.Summary.{Summary}
use Rattle.format.specs.declared.refusal.Refusal.{Refusal}
use Rattle.format.proofs.Calls.Picometres.{picometres_number, picometres_accepted, picometres_refused, picometres_size}
use Rattle.format.proofs.Demands.Misnamed.{picometres_named}

-- the number and the size of an answer
number_is : (r : Result ℕ Refusal) → said r ≡ number_of (answer r)
unfolding number_of
number_is (Ok n) = refl
number_is (Err e) = refl

size_is : (r : Result ℕ Refusal) → result_unwrap_or r 0 ≡ size_or_zero (answer r)
unfolding size_or_zero
size_is (Ok n) = refl
size_is (Err e) = refl

on_ok : (P : ℕ → Type 0) (r : Result ℕ Refusal) → (said r ≡ 0 → P (result_unwrap_or r 0)) → IfOk r P
on_ok P (Ok n) f = f refl
on_ok P (Err e) f = tt

module _ (s : List ℕ) (u : Summary) (t : List ℕ) where
  abbrev R : ℕ → Type 0
  R = AtSome (PicometresRefusal s u (room_in (length t)))

  abbrev Promised : Result ℕ Refusal → List ℕ → Type 0
  Promised r out =
      (said r ≡ (picometres_call s u t).number) × (result_unwrap_or r 0 ≡ (picometres_call s u t).picometres) × (out ≡ (picometres_call s u t).table)
      × (out ≡ zeros (length t)) × FirstAt (PicometresRefusal s u (room_in (length t))) picometres_order (said r) × AcceptedUnless R (said r)
      × (Refuses (said r) → result_unwrap_or r 0 ≡ 0) × IfOk r (SizeIs s u) × TreeNamed s u (ascii "ImageCalibrationLV|0!") (said r)

  pub promised : (r : Result ℕ Refusal) {out : List ℕ} → answer r ≡ picometres_of s u (room_in (length t)) → out ≡ zeros (length t) → Promised r out
  unfolding picometres_call
  promised r q z =
      let e : said r ≡ (picometres_call s u t).number = number_is r ∙ ap number_of q in
      let f : result_unwrap_or r 0 ≡ (picometres_call s u t).picometres = size_is r ∙ ap size_or_zero q in (
        e,
        f,
        z,
        z,
        rw e (picometres_number s u t),
        rw e (picometres_accepted s u t),
        rw (e, f) (picometres_refused s u t),
        on_ok _ r (rw (e, f) (picometres_size s u t)),
        rw e (picometres_named s u t),
      )
