-- `channels::record::covers_of`: by its uiCompCount.
use mathlib.Core.Path.{ap, ◌∙◌}
use Rattle.format.specs.Bytes.{ascii}
use Rattle.format.specs.Channels.{covers_of, plane_record}
use Rattle.channels.proofs.Records.{covers_is}
use Rattle.channels.proofs.record.covers_of.Goals as goal

pub returns : goal.returns
unfolding plane_record ascii
returns c = rw (c.max.ensures, c.unwrap_or.ensures) (covers_is c.get_as-count.result ∙ ap covers_of c.get_as-count.ensures)
