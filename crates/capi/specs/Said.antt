-- Sentences of a summary that lent bytes say.
use Rattle.std.specs.Prelude.{ℕ, ◌≡◌, ◌↔◌, List}
use Rattle.std.proofs.Math.Option.{none, some}
use Rattle.format.specs.Refusals as why
use Rattle.format.specs.Sentences.{None}
use Rattle.format.specs.declared.Summary.{Summary}
use Rattle.layout.specs.Layout.{summary_from}

-- the bytes say a summary, and P holds of it
abbrev pub Said : List ℕ → (Summary → Type 0) → Type 0
Said b P = (u : Summary) × (summary_from b ≡ some u) × P u

-- where the bytes say a summary, P holds of it
abbrev pub WhereSaid : List ℕ → (Summary → Type 0) → Type 0
WhereSaid b P = (u : Summary) → summary_from b ≡ some u → P u

-- where the bytes say none, the number n is 20
abbrev pub Unsaid : List ℕ → ℕ → Type 0
Unsaid b n = summary_from b ≡ none → n ≡ why.summary

-- a call whose number is n is accepted exactly when the bytes say a summary and none of these refusals holds with it
abbrev pub AcceptedOn : List ℕ → (Summary → ℕ → Type 0) → ℕ → Type 0
AcceptedOn b Refusal n = (n ≡ 0) ↔ Said b (λ u. None (Refusal u))
