-- `cursor::record::text_units` counts the units before the first zero. The invariant: of the units passed none is 0.
use mathlib.Core.Path.{◌≡◌, sym, ◌∙◌}
use native.Mathlib.Omega.{arith}
use Rattle.format.proofs.Trees.ByRules.{text_count}
use Rattle.cursor.proofs.record.text_units.Goals as goal

pub returns-then-le-eq0 : goal.returns-then-le-eq0
returns-then-le-eq0 c =
    let l = c.loop-i.invariant in
    (sym (text_count _ _ _ _ l (omega arith) (λ h. sym c.le.ensures.0 ∙ c.if-le-eq0.true)), omega arith)

pub returns : goal.returns
returns c =
    let z : c.loop-i.i ≡ c.args.n = omega arith in
    (sym (text_count _ _ _ _ (rw z at c.loop-i.invariant) (omega arith) (λ h. omega arith)), omega arith)
