-- `channels::record::channel_of`: its description and its colour.
use Rattle.format.specs.Bytes.{ascii}
use Rattle.lookup.specs.View.{bytes, entries}
use Rattle.channels.proofs.Records.{channel_is}
use Rattle.channels.proofs.record.channel_of.Goals as goal

pub returns : goal.returns
unfolding ascii
returns c =
    let t = c.args.tree in
    channel_is (bytes t) (entries t) c.args.i (c.described-c.ensures (bytes t) (entries t)) c.get.ensures.0 c.get_as.ensures c.colored.ensures
