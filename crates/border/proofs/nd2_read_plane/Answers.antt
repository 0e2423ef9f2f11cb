-- `nd2_read_plane`: the opening's refusal, or the plane of the summary that it returned.
use Rattle.std.proofs.Common.{sym, ◌∙◌}
use Rattle.border.proofs.Promises.{number_some, refused_border, opened_border}
use Rattle.border.proofs.nd2_read_plane.Goals as goal

pub returns-in-Err : goal.returns-in-Err
returns-in-Err c =
    let o = c.in-Err.ensures in
    let it = refused_border _ _ _ _ _ _ _ o.number (number_some c.in-Err.refused) o.zeroed in
    rw c.number.ensures
    (record {
      number = it.number;
      table = it.table;
      samples = it.samples;
      zeroed = it.zeroed;
      untouched = it.untouched;
      first = it.first;
      then = it.then;
      accepted = it.accepted;
      copied = it.copied;
      different = it.different;
      named = it.named;
    })

pub returns-in-Ok : goal.returns-in-Ok
returns-in-Ok c =
    let o = c.in-Ok.ensures in
    let p = c.plane.ensures in
    let it = opened_border _ _ _ _ _ _ _ (sym o.number) o.summary p.number p.buffer o.zeroed in
    rw c.number_of.ensures
    (record {
      number = it.number;
      table = it.table;
      samples = it.samples;
      zeroed = it.zeroed;
      untouched = it.untouched;
      first = it.first;
      then = it.then;
      accepted = it.accepted;
      copied = it.copied;
      different = it.different;
      named = it.named;
    })
