-- The summary that is computed is the one of which the grammar's equations hold. Assumes nothing.
use Prim.Native.Nat.{ℕ, zero, suc, ◌+◌, ◌≤◌, ◌<◌, min}
use mathlib.Core.Path.{◌≡◌, refl, sym, ap, ◌∙◌}
use mathlib.Core.Bool.{Bool, true, false}
use mathlib.Core.Option.{some}
use mathlib.Core.List.{List, [], ◌∷◌, ◌++◌}
use native.Mathlib.Omega.{arith}
use lib.Dec.{ltb}
use lib.ListN.{length, take, replicate, get_or, get_elem?, length-append, length-take}
use lib.Seq.{ext_get_or, get_or-take}
use borrow.Author.Tests.{ltb-true, ltb-false}
use Rattle.format.proofs.Ground.Answers.{none≢some}
use Rattle.format.proofs.Files.SoundSummary.{three_loops}
use Rattle.format.specs.Summary.{no_loop, in_three, summary_of}
use Rattle.format.specs.Grammar.File.{SummaryOf}
use Rattle.format.specs.declared.Range.{Range}
use Rattle.format.specs.declared.Attributes.{Attributes}
use Rattle.format.specs.declared.Calibration.{Calibration}
use Rattle.format.specs.declared.Loop.{Loop}
use Rattle.format.specs.declared.Summary.{Summary}

-- ---- three places

padded : (ls : List Loop) (k j i : ℕ) → length ls ≤ i → i < k → k ≤ length ls + j → get_elem? (take k (ls ++ replicate j no_loop)) i ≡ some no_loop
padded [] zero j i a b c = absurd (omega arith)
padded [] (suc k) zero i a b c = absurd (omega arith)
padded [] (suc k) (suc j) zero a b c = refl
padded [] (suc k) (suc j) (suc i) a b c = padded [] k j i (omega arith) (omega arith) (omega arith)
padded (l ∷ ls) zero j i a b c = absurd (omega arith)
padded (l ∷ ls) (suc k) j zero a b c = absurd (omega arith)
padded (l ∷ ls) (suc k) j (suc i) a b c = padded ls k j i (omega arith) (omega arith) (omega arith)

there : (l : List Loop) (i : ℕ) (x : Loop) → get_elem? l i ≡ some x → get_or l i no_loop ≡ x
there [] i x e = absurd (none≢some e)
there (a ∷ l) zero x e = cc
there (a ∷ l) (suc i) x e = there l i x e

three_places : (ls : List Loop) → length (in_three ls) ≡ 3
three_places ls = rw (length-take, length-append) (omega arith)

-- three places that have the loops ls, and no others
places_are : (ls ps : List Loop) → length ls ≤ 3 → take (length ls) ps ≡ ls → length ps ≡ 3 → ((i : ℕ) → length ls ≤ i → i < 3 → get_elem? ps i ≡ some no_loop)
    → ps ≡ in_three ls
places_are ls ps few e n u = ext_get_or no_loop ps (in_three ls) (n ∙ sym (three_places ls)) λ i h. go i (rw n at h) (ltb i (length ls)) refl
  where
    go : (i : ℕ) → i < 3 → (b : Bool) → ltb i (length ls) ≡ b → get_or ps i no_loop ≡ get_or (in_three ls) i no_loop
    go i h true q =
        let l = ltb-true i (length ls) q in
        sym (get_or-take (length ls) ps i no_loop l) ∙ ap (λ (x : List Loop). get_or x i no_loop) (e ∙ sym (three_loops ls few))
        ∙ get_or-take (length ls) (in_three ls) i no_loop l
    go i h false q =
        let l = ltb-false i (length ls) q in
        there ps i no_loop (u i l h) ∙ sym (there (in_three ls) i no_loop (padded ls 3 3 i l h (omega arith)))

-- ---- the summary

module _ (m : Range) (a : Attributes) (ls : List Loop) (c : Calibration) where
  pub summary_read : length ls ≤ 3 → SummaryOf m a ls c (summary_of m a ls c)
  unfolding summary_of
  summary_read few =
      record {
        width = refl;
        stride = refl;
        height = refl;
        components = refl;
        bits = refl;
        map = refl;
        depth = refl;
        loops_used = three_loops ls few;
        loops_places = three_places ls;
        loops_unused = λ i l h. padded ls 3 3 i l h (omega arith);
        calibration = refl;
        x = refl;
        y = refl;
        class = refl;
        z = refl;
      }

  -- and the equations hold of no other
  pub read_summary : (u : Summary) → SummaryOf m a ls c u → u ≡ summary_of m a ls c
  unfolding summary_of
  read_summary u x = λ k.
      record {
        loops = loops k;
        depth = x.depth k;
        width = x.width k;
        stride = x.stride k;
        height = x.height k;
        components = x.components k;
        bits = x.bits k;
        map = x.map k;
        calibration = x.calibration k;
        x = x.x k;
        y = x.y k;
        class = x.class k;
        z = x.z k;
      }
    where
      few : length ls ≤ 3
      few =
          let n : min u.depth (length u.loops) ≡ length ls = sym (length-take u.depth u.loops) ∙ ap length x.loops_used in
          omega (arith, x.depth, x.loops_places)

      loops : u.loops ≡ in_three ls
      loops = places_are ls u.loops few (rw x.depth at x.loops_used) x.loops_places x.loops_unused
