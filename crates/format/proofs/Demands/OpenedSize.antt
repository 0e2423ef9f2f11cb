-- Beside the summary of an opening: the size that it states in f32 is the one whose picometres are told. Assumes nothing.
use Prim.Native.Nat.{ℕ}
use mathlib.Core.Path.{◌≡◌, refl, sym, ap, ◌∙◌}
use mathlib.Core.Bool.{Bool, true, false, cond}
use mathlib.Core.Option.{Option, none, some}
use mathlib.Core.List.{List}
use native.Mathlib.Omega.{arith}
use lib.Dec.{eqb}
use lib.ListN.{length}
use lib.Ieee.{Float}
use Rattle.format.proofs.Ground.Answers.{refused≢given, given_inj}
use Rattle.format.proofs.Ground.Stages.{decides_from}
use Rattle.format.proofs.Files.SummaryTest.{read_sound}
use Rattle.format.proofs.Files.SoundSummary.{joined_sound}
use Rattle.format.proofs.Files.Joined.{opened_iff_joined, opened_by}
use Rattle.format.proofs.Demands.FirstAndThird.{opened_given}
use Rattle.format.proofs.Calls.Tree.{tree_staged, never_28, named_decides, named_whole}
use Rattle.format.proofs.Stated.Calibration.{calibration_name}
use Rattle.format.proofs.Calls.Picometres.{means, size_found}
use Rattle.format.proofs.Numbers.Picometres.{size_of}
use Rattle.format.specs.Answer.{Answer, refused, given, refuse_if, and_then, or_refuse, number_of}
use Rattle.format.specs.Chunks.{data_in}
use Rattle.format.specs.Refusals as why
use Rattle.format.specs.Map.{MapEntry, map_entries}
use Rattle.format.specs.Trees.{room_in, named_tree}
use Rattle.format.specs.Values.{Value}
use Rattle.format.specs.Numbers.{narrow}
use Rattle.format.specs.Calibration.{pixel_size, unstated, stated, calibration_by, calibration}
use Rattle.format.specs.Picometres.{picometres}
use Rattle.format.specs.Summary.{bad_summary, summary_of, map_of}
use Rattle.format.specs.Calls.Open.{opened, open_call, summary_or_zero}
use Rattle.format.specs.Calls.Tree.{tree_named}
use Rattle.format.specs.Calls.Picometres.{picometres_in, picometres_of, size_or_zero, picometres_call}
use Rattle.format.specs.Refused.Picometres.{CalibrationTree, SizeAt}
use Rattle.format.specs.Sentences.{StatedSize, SizeTold}
use Rattle.format.specs.Sentences as sentences
use Rattle.format.specs.declared.Range.{Range}
use Rattle.format.specs.declared.Entry.{Entry}
use Rattle.format.specs.declared.Calibration.{Calibration}
use Rattle.format.specs.declared.Summary.{Summary}

-- a number that is neither 0 nor 28
abbrev Other : ℕ → Type 0
Other n = (n ≡ 0 → ⊥) × (n ≡ why.size_range → ⊥)

-- the same of a calibration and the call's answer
data Told (s : List ℕ) (u : Summary) (c : Calibration) (a : Answer ℕ) : Type 0 where
  size_of_is : (x : Float) (v : Value) → SizeAt s u v → size_of v ≡ some x → c.state ≡ 1 → c.size ≡ narrow x → a ≡ or_refuse (picometres x) why.size_range
      → Told s u c a
  refuses : (n : ℕ) → (c.state ≡ 1 → ⊥) → a ≡ refused n → Other n → Told s u c a

module _ (s : List ℕ) (u : Summary) (room : ℕ) (es : List MapEntry) (map : map_entries (map_of s u) ≡ given es) where
  -- a tree's numbers
  tree_other : (n : ℕ) → named_tree s (map_of s u) es room calibration_name ≡ refused n → Other n
  tree_other n e =
      let (a, x) = decides_from (named_decides s u calibration_name room es map) e in
      let h = (tree_staged s u calibration_name room a n x).1 in
      (λ z. omega arith, never_28 s u calibration_name room a n x)

  by_tree : (z : Option Float) (c : Calibration) (t : Answer (List Entry)) → named_tree s (map_of s u) es room calibration_name ≡ t
      → calibration_by s z t ≡ given c → Told s u c (and_then t (picometres_in s))
  unfolding calibration_by stated unstated picometres_in and_then or_refuse
  by_tree z c (given ts) q e = by_size (pixel_size s ts) refl e
    where
      tree : CalibrationTree s u ts
      tree =
          let (r, c, t, h) = named_whole s u calibration_name room es map ts q in
          record { place = r; chunk = c; tree = t }

      by_size : (o : Option Float) → pixel_size s ts ≡ o → given (stated o z) ≡ given c
          → Told s u c (and_then (or_refuse o why.missing) λ x. or_refuse (picometres x) why.size_range)
      by_size none f e = rw (← given_inj e) (refuses why.missing (λ h. omega arith) refl (λ h. omega arith, λ h. omega arith))
      by_size (some x) f e =
          let (v, y, g) = size_found s ts (means s u tree) x f in
          rw (← given_inj e) (size_of_is x v (record { entries = ts; tree = tree; stated = y }) g refl refl refl)
  by_tree z c (refused n) q e = by_number (eqb n why.table) e
    where
      unsized : (b : Bool) → (unstated (cond b 2 0)).state ≡ 1 → ⊥
      unsized true h = omega arith
      unsized false h = omega arith

      by_number : (b : Bool) → cond b (refused why.table) (given (unstated (cond (eqb n why.packed) 2 0))) ≡ given c → Told s u c (refused n)
      by_number true e = absurd (refused≢given e)
      by_number false e = rw (← given_inj e) (refuses n (unsized (eqb n why.packed)) refl (tree_other n q))

  told : bad_summary s u ≡ false → (z : Option Float) (c : Calibration) → calibration s (map_of s u) es room z ≡ given c → Told s u c (picometres_of s u room)
  unfolding calibration picometres_of tree_named refuse_if and_then
  told b z c e = rw (b, map) (by_tree z c (named_tree s (map_of s u) es room calibration_name) refl e)

-- the summary of an opening
opened_told : (s : List ℕ) (room : ℕ) (u : Summary) → opened s room ≡ given u
    → (c : Calibration) × (u.calibration ≡ c.state) × (u.x ≡ c.size) × Told s u c (picometres_of s u room)
unfolding summary_of
opened_told s room u e =
    let b = read_sound s u (joined_sound s u ((opened_iff_joined s room u).0 e).0) in
    let x = opened_by s room u e in
    let q = x.summary_is in (
      x.calibrated,
      ap (λ (v : Summary). v.calibration) q,
      ap (λ (v : Summary). v.x) q,
      go x.place (sym (ap (λ (v : Summary). v.map) q)) x.entries x.map_read b _ x.calibrated x.calibration_read,
    )
  where
    go : (r : Range) → r ≡ u.map → (es : List MapEntry) → map_entries (data_in s r) ≡ given es → bad_summary s u ≡ false → (z : Option Float) (c : Calibration)
        → calibration s (data_in s r) es room z ≡ given c → Told s u c (picometres_of s u room)
    go r q es f b z c g = told s u room es (rw q at f) b z c (rw q at g)

-- and what the call says of it
by_answer : (file table : List ℕ) (u : Summary) (c : Calibration) → u.calibration ≡ c.state → u.x ≡ c.size
    → Told file u c (picometres_of file u (room_in (length table))) → SizeTold file u (picometres_call file u table)
unfolding picometres_call number_of size_or_zero or_refuse
by_answer file table u c p q (size_of_is x v t g h k a) = go (picometres x) refl
  where
    is : StatedSize file u x
    is = record { value = v; there = t; read = g; state = p ∙ h; in_f32 = q ∙ k }

    go : (o : Option ℕ) → picometres x ≡ o → SizeTold file u (picometres_call file u table)
    go none e = sentences.over is (rw (a, e) refl) e
    go (some n) e = sentences.stated is (rw (a, e) refl) (e ∙ (rw (a, e) refl))
by_answer file table u c p q (refuses n h a (z, w)) = sentences.unstated (λ y. h (sym p ∙ y)) (λ y. z (rw a at y)) (λ y. w (rw a at y))

pub opened_size : (file table : List ℕ) → (open_call file table).number ≡ 0
    → SizeTold file (open_call file table).summary (picometres_call file (open_call file table).summary table)
unfolding open_call
opened_size file table e =
    let room = room_in (length table) in
    let (c, p, q, t) = opened_told file room (summary_or_zero (opened file room)) (opened_given file room e) in
    by_answer file table (summary_or_zero (opened file room)) c p q t
