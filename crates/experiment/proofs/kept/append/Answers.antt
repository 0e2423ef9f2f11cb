-- `append`: the three things that are done with a loop of the walk.
use mathlib.Core.Path.{◌≡◌, sym, ◌∙◌}
use borrow.Author.Rules.{rules}
use Rattle.experiment.proofs.SameKind.{same_is}
use Rattle.experiment.proofs.Keeping.{append_deeper, append_same, append_other, after_wider}
use Rattle.experiment.proofs.kept.append.Goals as goal
use Rattle.experiment.proofs.kept.append.Goals.{in_default-via-in-Some+else-nesting-last, in_default-via-in_default}

pub returns-then-eq : goal.returns-then-eq
returns-then-eq c bs s =
    append_same _ c.args.count _ c.args.kept _ c.in-Some.is c.if-nesting-last.true bs s c.map.result (sym (rw same_is at c.eq.ensures) ∙ c.if-eq.true)
    (λ b bs t. after_wider _ _ b bs c.args.count c.map.ensures.cases (λ l m p t. search rules) t)

pub returns-else-eq : goal.returns-else-eq
returns-else-eq c bs s =
    append_other _ _ _ _ _ c.in-Some.is c.if-nesting-last.true bs s (sym (rw same_is at c.eq.ensures) ∙ c.if-eq.false)

pub returns-in_default : goal.returns-in_default
returns-in_default c bs s =
    append_deeper _ _ _ c.args.kept _ _ s
    (λ a q. elim c.in_default.branch [
      | in_default-via-in-Some+else-nesting-last w ↦ let e : a ≡ w.in-Some.last = cc (sym q ∙ w.in-Some.is) in rw e w.if-nesting-last.false
      | in_default-via-in_default w ↦ absurd (w.in_default.not-Some a q)
    ])
    (c.push.ensures bs s)
