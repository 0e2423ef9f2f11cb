-- The derived == of two types of loops is that of their numbers. Assumes nothing.
use Prim.Native.Nat.{ℕ}
use mathlib.Core.Path.{◌≡◌, refl, sym, ap, ◌∙◌}
use mathlib.Core.Bool.{Bool, true, false, cond}
use lib.Dec.{eqb}
use borrow.Author.Tests.{eq-eqb, ne_eqb}
use denote.Enum.Bare.{sameb, same_true, same_false}
use Rattle.experiment.specs.Kind.{number_of}
use Rattle.experiment.specs.contracts.kind.LoopKind.{the_type}
use Rattle.experiment.specs.declared.kind.LoopKind.{LoopKind}
use Rattle.experiment.specs.declared.kind.LoopKind.TheVariants.{Time, Points, Focus, Spectral, Custom, UnevenTime}

-- the type of a number
kind_at : ℕ → LoopKind
kind_at n = cond (eqb n 1) Time (cond (eqb n 2) Points (cond (eqb n 4) Focus (cond (eqb n 6) Spectral (cond (eqb n 7) Custom UnevenTime))))

at_number : (k : LoopKind) → kind_at (number_of k) ≡ k
unfolding kind_at
at_number Time = refl
at_number Points = refl
at_number Focus = refl
at_number Spectral = refl
at_number Custom = refl
at_number UnevenTime = refl

pub same_is : (a b : LoopKind) → sameb the_type a b ≡ eqb (number_of a) (number_of b)
same_is a b = go (sameb the_type a b) refl
  where
    go : (t : Bool) → sameb the_type a b ≡ t → t ≡ eqb (number_of a) (number_of b)
    go true e = sym (eq-eqb _ _ (ap number_of (same_true the_type tt a b e)))
    go false e = sym (ne_eqb _ _ (λ q. same_false the_type a b e (sym (at_number a) ∙ ap kind_at q ∙ at_number b)))
