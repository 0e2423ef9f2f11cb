-- `number_of`: the digits that have come are those of `k`.
use Rattle.std.proofs.Common.{◌≤◌, ◌≡◌, arith, length, get_or, Some}
use Rattle.register.specs.Naming.{Digit}
use Rattle.register.proofs.Decimals.{zero_front, no_digit, too_large, read_on, read_end}
use Rattle.register.proofs.naming.number_of.Goals as goal
use Rattle.register.proofs.naming.number_of.Goals.{In-loop-b, In_ok-d}
use Rattle.register.proofs.naming.number_of.Goals.{else-digits-eq48-via-then-digits-eq48+else-digits-gt1, else-digits-eq48-via-else-digits-eq48}

pub returns-then-digits-gt1 : goal.returns-then-digits-gt1
returns-then-digits-gt1 c = zero_front c.args.digits.now c.if-digits-eq48.true c.if-digits-gt1.true

-- a zero in front is the only digit
front : (c : In-loop-b) → get_or c.args.digits.now 0 0 ≡ 48 → length c.args.digits.now ≤ 1
front c e =
    elim c.else-digits-eq48.branch [
      | else-digits-eq48-via-then-digits-eq48+else-digits-gt1 w ↦ w.if-digits-gt1.false
      | else-digits-eq48-via-else-digits-eq48 w ↦ absurd (w.if-digits-eq48.false e)
    ]

-- the digit
read : (c : In_ok-d) → Digit (get_or c.args.digits.now c.loop-b.b-index 0) (Some c.in_ok-d.d)
read c = rw c.in_ok-d.was at c.digit.ensures

pub returns-in_err-d : goal.returns-in_err-d
returns-in_err-d c = rw c.from_residual.ensures (no_digit c.args.digits.now c.loop-b.b-index c.loop-b-test.true (rw c.in_err-d.was at c.digit.ensures))

pub returns-in_err-checked_mul : goal.returns-in_err-checked_mul
returns-in_err-checked_mul c =
    let g = goal.at.returns-in_err-checked_mul c in
    rw c.from_residual-in_err-checked_mul.ensures
    (too_large c.args.digits.now (front g.In-loop-b) c.loop-b.invariant c.loop-b-test.true (read g.In_ok-d) (omega (arith, c.in_err-checked_mul.ensures)))

pub returns-in_err-k : goal.returns-in_err-k
returns-in_err-k c =
    let g = goal.at.returns-in_err-k c in
    rw c.from_residual-in_err-k.ensures
    (too_large c.args.digits.now (front g.In-loop-b) c.loop-b.invariant c.loop-b-test.true (read g.In_ok-d)
    (omega (arith, c.in_err-k.ensures, c.in_ok-checked_mul.ensures)))

pub loop-b-preserved : goal.loop-b-preserved
loop-b-preserved c =
    let g = goal.at.loop-b-preserved c in
    let (f, e) = c.in_ok-k.ensures in
    let (o, q) = c.in_ok-checked_mul.ensures in
    rw (e, q) (read_on c.args.digits.now (front g.In-loop-b) c.loop-b.invariant c.loop-b-test.true (read g.In_ok-d) (omega arith))

pub returns : goal.returns
returns c = read_end c.args.digits.now c.loop-b.invariant c.requires c.loop-b-test.false
