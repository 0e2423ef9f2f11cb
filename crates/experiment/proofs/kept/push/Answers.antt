-- `push`: the next in order, unless one was refused before.
use mathlib.Core.Path.{refl}
use borrow.Author.Rules.{rules}
use Rattle.experiment.specs.Kind.{number_of}
use Rattle.experiment.specs.Kept.{one}
use Rattle.experiment.proofs.Keeping.{after_next}
use Rattle.experiment.proofs.kept.push.Goals as goal

pub returns : goal.returns
returns c bs s =
    let a = c.args in
    record {
      last = one refl refl;
      judged = after_next a.kept.judged c.and_then.result (record { kind = number_of a.kind; count = a.count; nesting = a.nesting }) bs c.and_then.ensures
          (λ l p t. search rules)
          s.judged;
    }
