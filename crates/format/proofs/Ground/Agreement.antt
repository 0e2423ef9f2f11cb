-- A definition that computes and a rule of the grammar that say the same. Assumes nothing.
use mathlib.Core.Path.{◌≡◌, refl, sym, ◌∙◌}
use mathlib.Core.Bool.{Bool, true, false, cond}
use mathlib.Core.Option.{Option, none, some, some_inj}
use Rattle.format.proofs.Ground.Answers.{none≢some}
use Rattle.format.specs.Values.{bind}

-- the definition gives x, and the rule P holds of x alone
pub record Gives {A : Type 0} (x : A) (P : A → Type 0) : Type 0 where
  pub holds : P x
  pub only : (a : A) → P a → x ≡ a

-- the definition gives o, which is a just where the rule P holds of a
pub record States {A : Type 0} (o : Option A) (P : A → Type 0) : Type 0 where
  pub holds : (a : A) → o ≡ some a → P a
  pub only : (a : A) → P a → o ≡ some a

module _ {A : Type 0} {P : A → Type 0} (o : Option A) (S : States o P) where
  -- there is none just where the rule holds of nothing
  pub no_such : o ≡ none → (a : A) → P a → ⊥
  no_such q a p = none≢some (sym q ∙ S.only a p)

  pub none_of : ((a : A) → P a → ⊥) → o ≡ none
  none_of f = go o refl
    where
      go : (x : Option A) → o ≡ x → x ≡ none
      go none q = refl
      go (some a) q = absurd (f a (S.holds a q))

-- and of nothing else than one
pub only_one : {A : Type 0} {P : A → Type 0} {o : Option A} → States o P → (a b : A) → P a → P b → a ≡ b
only_one S a b p q = some_inj.0 (sym (S.only a p) ∙ S.only b q)

-- ---- what is read of a value that may be absent

pub cond_some : {A : Type 0} (b : Bool) (a x : A) → cond b (some a) none ≡ some x → (b ≡ true) × (a ≡ x)
cond_some true a x e = (refl, cc)
cond_some false a x e = absurd (none≢some e)

pub bind_some : {A B : Type 0} (o : Option A) (f : A → Option B) (b : B) → bind o f ≡ some b → (a : A) × (o ≡ some a) × (f a ≡ some b)
unfolding bind
bind_some none f b e = absurd (none≢some e)
bind_some (some a) f b e = (a, refl, e)

pub some_bind : {A B : Type 0} (o : Option A) (f : A → Option B) (a : A) (b : B) → o ≡ some a → f a ≡ some b → bind o f ≡ some b
unfolding bind
some_bind o f a b e g = rw e g
