-- An answer that may be a refusal, with the refusal's number. A chain of tests gives the first refusal in order.
use Rattle.std.specs.Prelude.{ℕ, Bool, true, false}
use Rattle.std.proofs.Math.Option.{Option, none, some}

pub data Answer (A : Type 0) : Type 0 where
  refused : ℕ → Answer A
  given : A → Answer A

-- the refusal n where the test holds, and what follows where it does not
unfoldable pub refuse_if : {A : Type 0} → Bool → ℕ → Answer A → Answer A
refuse_if true n a = refused n
refuse_if false n a = a

unfoldable pub and_then : {A B : Type 0} → Answer A → (A → Answer B) → Answer B
and_then (refused n) k = refused n
and_then (given a) k = k a

-- the value, or the refusal n where there is none
unfoldable pub or_refuse : {A : Type 0} → Option A → ℕ → Answer A
or_refuse none n = refused n
or_refuse (some a) n = given a

-- a call's number: that of its refusal, and 0 where it is accepted
unfoldable pub number_of : {A : Type 0} → Answer A → ℕ
number_of (refused n) = n
number_of (given a) = 0
