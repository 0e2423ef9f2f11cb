-- `frame_number`: one law for each way out.
use Rattle.std.proofs.Common.{sym, ◌∙◌}
use Rattle.format.specs.Bytes.{ascii}
use Rattle.register.proofs.Prefixed.{short, not_begun, no_mark, spelled_name}
use Rattle.register.proofs.naming.frame_number.Goals as goal
use Rattle.register.proofs.naming.frame_number.Goals.{then-n-lt15-via-then-n-lt15, then-n-lt15-via-else-n-lt15+then-not-begun}
use Rattle.register.proofs.naming.frame_number.Goals.{then-n-lt15-via-else-n-lt15+else-not-begun+then-name-n-ne33}

pub returns-then-n-lt15 : goal.returns-then-n-lt15
unfolding ascii
returns-then-n-lt15 c =
    elim c.then-n-lt15.branch [
      | then-n-lt15-via-then-n-lt15 w ↦ short c.args.name.now w.if-n-lt15.true
      | then-n-lt15-via-else-n-lt15+then-not-begun w ↦ not_begun c.args.name.now (sym w.begun.ensures ∙ w.if-not-begun.true)
      | then-n-lt15-via-else-n-lt15+else-not-begun+then-name-n-ne33 w ↦ no_mark c.args.name.now w.if-name-n-ne33.true
    ]

pub returns : goal.returns
unfolding ascii
returns c =
    spelled_name c.args.name.now c.if-n-lt15.false (sym c.begun.ensures ∙ c.if-not-begun.false) c.if-name-n-ne33.false c.number_of.result c.number_of.ensures
