-- The entries passed leave the map's number to the rest, which is what stands next.
use native.Mathlib.Omega.{arith}
use Rattle.std.proofs.lemmas.Result.{err_from_is_err_and}
use Rattle.format.specs.Answer.{number_of}
use Rattle.chunk.specs.Scan.{Entry}
use Rattle.chunk.proofs.Scan.{pass_start, pass_on, pass_stop}
use Rattle.chunk.proofs.map.map_check.Goals as goal
use Rattle.chunk.proofs.map.map_check.Goals.{In-Some}

-- what the entry that stands next is
entry : (c : In-Some)
    → (Entry c.args.map.now c.loop-n.at c.loop-n.entries c.in-Some.n)
entry c = rw c.in-Some.is at c.in_ok-n.ensures.1

pub loop-n-init : goal.loop-n-init
loop-n-init c = pass_start _

pub overflow_add-at : goal.overflow_add-at
overflow_add-at c = omega (arith, (entry c).inside)

pub overflow_add-at-in-Some : goal.overflow_add-at-in-Some
overflow_add-at-in-Some c = omega (arith, (entry c).inside)

pub overflow_add-entries : goal.overflow_add-entries
overflow_add-entries c = omega (arith, (entry c).free)

pub loop-n-smaller : goal.loop-n-smaller
loop-n-smaller c = omega (arith, (entry c).inside)

pub loop-n-preserved : goal.loop-n-preserved
loop-n-preserved c = pass_on c.loop-n.invariant (entry c)

pub returns-in_err-n : goal.returns-in_err-n
unfolding number_of
returns-in_err-n c =
    let p = err_from_is_err_and c.from_residual.result c.from_residual.ensures.1 in
    rw (p.1, p.2) (pass_stop c.loop-n.invariant c.in_err-n.ensures.1)

pub returns : goal.returns
unfolding number_of
returns c = pass_stop c.loop-n.invariant (rw c.in_default.is at c.in_ok-n.ensures.1)
