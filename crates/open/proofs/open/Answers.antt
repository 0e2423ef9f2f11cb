-- `open`: what reading gives, and a table that is all zero.
use mathlib.Core.Path.{ap, ◌∙◌}
use Rattle.format.specs.Bytes.{zeros}
use Rattle.open.proofs.Promises.{promised}
use Rattle.open.proofs.open.Goals as goal

pub returns : goal.returns
returns c =
    let r = c.read_file-opened in
    let it = promised _ _ _ r.ensures (c.clear.ensures ∙ ap zeros r.auto.table) in
    record {
      number = it.number;
      summary = it.summary;
      table = it.table;
      zeroed = it.zeroed;
      first = it.first_at;
      refused = it.blank;
      exactly = it.exactly;
      theirs = it.theirs;
      sound = it.sound;
      different = it.different;
      whole = it.whole;
      typed = it.typed;
      named = it.named;
      calibrated = it.calibrated;
    }
