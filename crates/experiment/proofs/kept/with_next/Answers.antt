-- `with_next`: a loop more, judged as the next in order.
use Prim.Native.Nat.{ℕ}
use mathlib.Core.Path.{◌≡◌, sym, ap, ◌∙◌}
use mathlib.Core.Bool.{Bool}
use lib.Dec.{eqb}
use lib.ListN.{take}
use denote.Enum.Bare.{sameb}
use Rattle.format.specs.Loops.{axis_of, has_axis}
use Rattle.format.specs.declared.Axis.{Axis}
use Rattle.experiment.specs.Kind.{number_of}
use Rattle.experiment.specs.contracts.kind.LoopKind.{the_type}
use Rattle.experiment.specs.declared.kind.LoopKind.{LoopKind}
use Rattle.experiment.specs.declared.kind.LoopKind.TheVariants.{Custom}
use Rattle.experiment.proofs.SameKind.{same_is}
use Rattle.experiment.proofs.Keeping.{next_custom, next_twice, next_kept}
use Rattle.experiment.proofs.kept.with_next.Goals as goal
use Rattle.experiment.proofs.kept.with_next.Goals.{After-has_axis}

-- the test of the type, of the number
custom : (k : LoopKind) (n : ℕ) (x y : Bool) → n ≡ number_of k → x ≡ sameb the_type k Custom → x ≡ y → eqb n 7 ≡ y
custom k n x y q e h = rw q (sym (same_is k Custom) ∙ sym e ∙ h)

-- the test of the axis, of the loop's type
axis_test : (c : After-has_axis)
    → let a = c.args in
    c.has_axis.result ≡ has_axis (axis_of (number_of a.kind)) (take a.kept.depth a.kept.loops)
axis_test c =
    let a = c.args in
    c.has_axis.ensures ∙ ap (λ (x : Axis). has_axis x (take a.kept.depth a.kept.loops)) c.axis_of-axis.ensures

pub returns-then-eq : goal.returns-then-eq
returns-then-eq c b bs t q r = next_custom bs _ t b (custom _ _ _ _ q c.eq.ensures c.if-eq.true)

pub returns-then-has_axis : goal.returns-then-has_axis
returns-then-has_axis c b bs t q r =
    next_twice bs _ t b (custom _ _ _ _ q c.eq.ensures c.if-eq.false)
    (rw q (sym (axis_test (goal.at.returns-then-has_axis c).After-has_axis) ∙ c.if-has_axis.true))

pub returns : goal.returns
returns c b bs t q r =
    rw (c.axis_of-axis.ensures, ← q, ← r)
    (next_kept bs _ t b (custom _ _ _ _ q c.eq.ensures c.if-eq.false)
    (rw q (sym (axis_test (goal.at.returns c).After-has_axis) ∙ c.if-has_axis.false)))
