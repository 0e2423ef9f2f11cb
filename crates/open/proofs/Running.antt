-- The experiment in a tree: its loops and its z step, or why it is refused; and what follows it. Assumes nothing.
use Prim.Native.Nat.{ℕ}
use mathlib.Core.Path.{◌≡◌, refl, sym, ◌∙◌}
use mathlib.Core.Option.{none, some, Option}
use mathlib.Core.List.{List}
use Rattle.std.specs.Prelude as std
use Rattle.format.specs.Answer.{Answer, given, refused, and_then, or_refuse}
use Rattle.format.specs.Bytes.{ascii}
use Rattle.format.specs.Given.{number, answer}
use Rattle.format.specs.Trees.{most_depth}
use Rattle.format.specs.Values.{field, as_level}
use Rattle.format.specs.Loops.{experiment}
use Rattle.format.specs.Calibration.{z_step}
use Rattle.format.specs.declared.Entry.{Entry}
use Rattle.format.specs.declared.Loop.{Loop}
use Rattle.format.specs.declared.Summary.{Summary}
use Rattle.format.specs.declared.refusal.Refusal.{Refusal}
use Rattle.format.specs.declared.refusal.Refusal.TheVariants.{Missing}
use Rattle.format.proofs.Ground.Answers.{go_on, stops}
use Rattle.number.specs.Readings.{real}
use Rattle.experiment.specs.Kept.{placed, handed}
use Rattle.experiment.specs.declared.Loops.{Loops}
use Rattle.open.specs.Parts.{Run, Records, Tells, accepted, turned, run_in}
use Rattle.open.specs.declared.Recorded.{Recorded}

-- ---- the experiment in a tree

module _ (s : List ℕ) (es : List Entry) where
  pub no_run : as_level (field s es 0 (ascii "SLxExperiment")) ≡ none → Tells (std.Err Missing) (run_in s es)
  unfolding run_in and_then or_refuse
  no_run q = rw q (turned refl)

  module _ (i : ℕ) (q : as_level (field s es 0 (ascii "SLxExperiment")) ≡ some i) where
    pub run_refused : (e : Refusal) → refused (number e) ≡ handed (experiment s es i) → Tells (std.Err e) (run_in s es)
    unfolding run_in and_then or_refuse
    run_refused e h = rw q (go (experiment s es i) h)
      where
        go : (x : Answer (List Loop)) → refused (number e) ≡ handed x
            → Tells (std.Err e) (and_then x λ ls. given (record { loops = ls; step = z_step most_depth s es i }))
        go (given ls) p = absurd cc
        go (refused n) p = turned cc

    pub run : (l : Loops) (z : std.Option std.Float) → given l ≡ handed (experiment s es i) → real z ≡ z_step most_depth s es i
        → Tells (std.Ok (record { loops = l; z = z })) (run_in s es)
    unfolding run_in and_then or_refuse
    run l z h t = rw q (go (experiment s es i) h)
      where
        go : (x : Answer (List Loop)) → given l ≡ handed x
            → Tells (std.Ok (record { loops = l; z = z })) (and_then x λ ls. given (record { loops = ls; step = z_step most_depth s es i }))
        go (given ls) p = accepted (record { loops = cc; step = t })
        go (refused n) p = absurd cc

-- ---- what follows it

-- a tree that was refused
pub refused_first : {e : Refusal} {x : Answer (List Entry)} (k : List Entry → Answer Run) → x ≡ refused (number e) → Tells (std.Err e) (and_then x k)
unfolding and_then
refused_first k q = rw q (turned refl)

pub read_first : {r : std.Result Recorded Refusal} {x : Answer (List Entry)} {es : List Entry} (k : List Entry → Answer Run) → x ≡ given es → Tells r (k es)
    → Tells r (and_then x k)
unfolding and_then
read_first k q t = rw q t

pub told_refused : (e : Refusal) (x : Answer Run) (k : Run → Answer Summary) → Tells (std.Err e) x → refused (number e) ≡ and_then x k
unfolding and_then
told_refused e (refused n) k (turned h) = rw h refl
told_refused e (given x) k t = elim t [ ]

pub told : (e : Recorded) (x : Answer Run) (k : Run → Answer Summary) {a : Answer Summary} → Tells (std.Ok e) x
    → ((y : Run) → Records e y → a ≡ k y) → a ≡ and_then x k
unfolding and_then
told e (given y) k (accepted h) f = f y h
told e (refused n) k {a = a} t f = elim t [ ]
