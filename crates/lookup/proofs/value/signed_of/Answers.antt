-- Numbers up to half of the largest are their own, the others count down from −1.
use Prim.Native.Nat.{◌+◌, ◌/◌}
use native.Mathlib.Omega.{arith}
use borrow.Author.Tests.{lt-ltb, le-ltb}
use Rattle.lookup.specs.Values.{meaning}
use Rattle.lookup.proofs.value.signed_of.Goals as goal

pub returns-then-n-most : goal.returns-then-n-most
unfolding meaning
returns-then-n-most c = (λ s es. rw (lt-ltb c.args.n (c.args.most / 2 + 1) (omega arith)), λ k. tt)

pub returns-else-n-most : goal.returns-else-n-most
unfolding meaning
returns-else-n-most c = (λ s es. rw (le-ltb c.args.n (c.args.most / 2 + 1) (omega arith)), λ k. tt)
