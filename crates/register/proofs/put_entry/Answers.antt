-- `put_entry`: the entry's name is that of a frame, of one that is not counted, or of none.
use Rattle.std.proofs.Common.{rules, Some, ◌+◌, ◌-◌, ◌≡◌, arith}
use Rattle.format.specs.Bytes.{part}
use Rattle.register.specs.Naming.{Names}
use Rattle.register.proofs.Entering.{of_none, of_later, of_frame}
use Rattle.register.proofs.put_entry.Goals as goal
use Rattle.register.proofs.put_entry.Goals.{In-Some}

pub returns-in_default : goal.returns-in_default
unfolding part
returns-in_default c es = let a = c.args in let z : a.at + a.n - a.at ≡ a.n = omega arith in
    of_none a.map.now a.at a.n a.count (search rules) a.buffer.now es (rw z at c.in_default.ensures)

-- the frame that the name is of
named : (c : In-Some) → let a = c.args in Names (part a.map.now a.at a.n) (Some c.in-Some.k)
unfolding part
named c = let a = c.args in let z : a.at + a.n - a.at ≡ a.n = omega arith in rw z at c.in-Some.ensures

pub returns-then-k-count : goal.returns-then-k-count
returns-then-k-count c es =
    let a = c.args in
    of_frame a.map.now a.at a.n a.count (search rules) a.buffer.now es _ (named (goal.at.returns-then-k-count c).In-Some) c.if-k-count.true c.le.ensures.0
    c.put_place.ensures

pub returns-else-k-count : goal.returns-else-k-count
returns-else-k-count c es =
    let a = c.args in
    of_later a.map.now a.at a.n a.count (search rules) a.buffer.now es _ (named (goal.at.returns-else-k-count c).In-Some) c.if-k-count.false
