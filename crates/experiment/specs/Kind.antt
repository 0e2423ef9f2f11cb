-- The numbers of loops' types, and what a level of a type says.
use Rattle.std.specs.Prelude.{ℕ, cond, eqb, List}
use Rattle.std.specs.Prelude as std
use Rattle.format.specs.Given.{number}
use Rattle.format.specs.Loops.{Said, nothing, wrong, counted, point_count, spectral_count, count_field}
use Rattle.format.specs.declared.Entry.{Entry}
use Rattle.format.specs.declared.refusal.Refusal.{Refusal}
use Rattle.experiment.specs.declared.kind.LoopKind.{LoopKind}
use Rattle.experiment.specs.declared.kind.LoopKind.TheVariants as kind

abbrev pub number_of : LoopKind → ℕ
number_of kind.Time = 1
number_of kind.Points = 2
number_of kind.Focus = 4
number_of kind.Spectral = 6
number_of kind.Custom = 7
number_of kind.UnevenTime = 8

-- the count of a loop of type t, of the level i and its parameters p
abbrev pub count_by : List ℕ → List Entry → ℕ → ℕ → ℕ → ℕ
count_by s es i p t = cond (eqb t 2) (point_count s es i p) (cond (eqb t 6) (spectral_count s es p) (count_field s es p))

-- what the level i with the parameters p says where its type is this: nothing where that is no loop's, or the refusal
abbrev pub said_by_kind : List ℕ → List Entry → ℕ → ℕ → std.Result (std.Option LoopKind) Refusal → Said
said_by_kind s es i p (std.Ok (std.Some t)) = counted (number_of t) (count_by s es i p (number_of t))
said_by_kind s es i p (std.Ok std.None) = nothing
said_by_kind s es i p (std.Err e) = wrong (number e)
