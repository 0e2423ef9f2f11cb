-- `named_tree::read_named`: what the lookup found decides.
use Rattle.named_tree.proofs.Answers.{handed, lacking, refused_reads, under_at, under_absent, under_refused}
use Rattle.named_tree.proofs.read_named.Goals as goal

pub returns-in_err-at : goal.returns-in_err-at
returns-in_err-at c = rw (handed c.from_residual.ensures.1, c.in_err-at.was) (refused_reads (under_refused _ _ _ _))

pub returns-in_err-offset : goal.returns-in_err-offset
returns-in_err-offset c =
    let (none, missing) = lacking _ c.in_err-offset.ensures.value in
    rw (handed c.from_residual-in_err-offset.ensures.1, c.in_ok-at.was, none, missing) (refused_reads (under_absent _ _ _))

pub returns : goal.returns
returns c = rw (c.in_ok-at.was, c.in_ok-offset.ensures.ok_part, under_at) c.read_at.ensures
