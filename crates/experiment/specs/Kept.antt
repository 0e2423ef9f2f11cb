-- What stands for the loops that a walk has appended.
use Rattle.std.specs.Prelude.{ℕ, max, ◌≡◌, List, [], ◌∷◌, reverse, length}
use Rattle.std.specs.Prelude as std
use Rattle.format.specs.Answer.{Answer, refused, given}
use Rattle.format.specs.Given.{answer}
use Rattle.format.specs.Loops.{Built, judge}
use Rattle.format.specs.Summary.{in_three}
use Rattle.format.specs.declared.Loop.{Loop}
use Rattle.format.specs.declared.refusal.Refusal.{Refusal}
use Rattle.experiment.specs.Kind.{number_of}
use Rattle.experiment.specs.declared.Loops.{Loops}
use Rattle.experiment.specs.declared.kept.Appended.{Appended}
use Rattle.experiment.specs.declared.kept.Kept.{Kept}

-- loops in three places
abbrev pub placed : List Loop → Loops
placed ls = record { loops = in_three ls; depth = length ls }

-- the loops as they are handed out, or the refusal
abbrev pub handed : Answer (List Loop) → Answer Loops
handed (given ls) = given (placed ls)
handed (refused n) = refused n

-- the type and the nesting of the last appended one, the first of the list
pub data Last : std.Option Appended → List Built → Type 0 where
  none : Last std.None []
  one : {a : Appended} {b : Built} {bs : List Built} → number_of a.kind ≡ b.kind → a.nesting ≡ b.nesting → Last (std.Some a) (b ∷ bs)

-- what the appended loops bs, the last one first, are judged as
abbrev pub Judged : std.Result Loops Refusal → List Built → Type 0
Judged r bs = answer r ≡ handed (judge [] (reverse bs))

-- k stands for the appended loops bs, the last one first
pub record Stands (k : Kept) (bs : List Built) : Type 0 where
  pub last : Last k.last bs
  pub judged : Judged k.judged bs

-- k stands for some loops
abbrev pub Reached : Kept → Type 0
Reached k = (bs : List Built) × Stands k bs

-- a loop with the larger of its count and c
abbrev pub larger : Built → ℕ → Built
larger b c = record { kind = b.kind; count = max b.count c; nesting = b.nesting }
