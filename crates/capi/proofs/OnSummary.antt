-- What the calls answer on summaries in lent bytes, by whether these say one. Assumes nothing.
use Rattle.std.proofs.Common.{◌≡◌, ℕ, List, refl, sym, subst}
use Rattle.std.proofs.Math.Option.{none, some}
use Rattle.format.specs.declared.Summary.{Summary}
use Rattle.format.specs.Sentences.{None, AcceptedUnless}
use Rattle.layout.specs.Layout.{summary_from}
use Rattle.capi.specs.OnBytes.{on_summary}
use Rattle.capi.specs.Said.{Said, WhereSaid, AcceptedOn}

-- the bytes say a summary, or none
pub on_some : {A : Type 0} (bad : A) (call : Summary → A) (u : Summary) → on_summary bad call (some u) ≡ call u
unfolding on_summary
on_some bad call u = refl

pub on_none : {A : Type 0} (bad : A) (call : Summary → A) → on_summary bad call none ≡ bad
unfolding on_summary
on_none bad call = refl

-- the sentences, where they say one
module _ (b : List ℕ) (u : Summary) (e : some u ≡ summary_from b) where
  -- no other summary
  same_said : (v : Summary) → summary_from b ≡ some v → u ≡ v
  same_said v q = cc

  pub said : (P : Summary → Type 0) → P u → Said b P
  said P p = (u, sym e, p)

  pub where_said : (P : Summary → Type 0) → P u → WhereSaid b P
  where_said P p v q = subst P (same_said v q) p

  pub accepted_said : (R : Summary → ℕ → Type 0) {n m : ℕ} → n ≡ m → AcceptedUnless (R u) m → AcceptedOn b R n
  accepted_said R q a = rw q (λ z. said (λ u. None (R u)) (a.0 z), λ (v, x, p). a.1 (rw (← same_said v x) at p))
