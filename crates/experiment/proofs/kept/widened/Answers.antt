-- `widened`: only the last one's count changes.
use Rattle.experiment.proofs.Keeping.{wider_kept}
use Rattle.experiment.proofs.kept.widened.Goals as goal

pub returns : goal.returns
returns c b bs t = rw c.max.ensures (wider_kept b bs c.args.count _ t)
