-- `put_fields`: i fields are stored.
use mathlib.Core.Path.{refl}
use Rattle.format.specs.Bytes.{each}
use Rattle.sheet.proofs.Heads.{next_stored}
use Rattle.sheet.proofs.head.put_fields.Goals as goal

pub loop-i-init : goal.loop-i-init
unfolding each
loop-i-init c = refl

pub loop-i-preserved : goal.loop-i-preserved
loop-i-preserved c =
    let l = c.loop-i in
    let a = c.args in
    next_stored a.d.now l.d c.put_field.new.d a.at l.i a.fields.now _ c.loop-i-test.true l.invariant c.put_field.ensures
