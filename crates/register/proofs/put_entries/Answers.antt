-- `put_entries`: the entries that have come are taken.
use Rattle.std.proofs.Common.{◌≡◌, None, rules}
use Rattle.register.proofs.Entering.{pass_start, pass_on, pass_end, pass_broken}
use Rattle.register.proofs.put_entries.Goals as goal

pub loop-n-init : goal.loop-n-init
loop-n-init c = pass_start _ _ _

pub loop-n-preserved : goal.loop-n-preserved
loop-n-preserved c =
    let entry = rw (c.in-Ok-Some.is, c.in-Ok-Some.field-0-is) at c.next_entry.ensures.1 in
    pass_on c.loop-n.invariant entry c.put_entry.ensures c.put_entry.auto.buffer

pub returns-in_default : goal.returns-in_default
returns-in_default c =
    let z : c.in_default.field-0 ≡ None = search rules in
    pass_end c.loop-n.invariant (rw (c.in_default.is, z) at c.next_entry.ensures.1)

pub returns-in_default-2 : goal.returns-in_default-2
returns-in_default-2 c = pass_broken c.loop-n.invariant (rw c.in_default.is at c.next_entry.ensures.1)
