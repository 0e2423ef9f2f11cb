-- `channels::fill`: record by record.
use Rattle.std.proofs.Common.{length, arith, refl, ◌∙◌}
use Rattle.format.specs.Channels.{fitted}
use Rattle.format.proofs.Calls.ChannelRecords.{fitted_length}
use Rattle.channels.specs.Ahead.{ahead}
use Rattle.channels.proofs.Lay.{lay_zero, lay_next, lay_end}
use Rattle.channels.proofs.Rows.{on_first, on_next, on_row}
use Rattle.channels.proofs.fill.Goals as goal

pub loop-r-init : goal.loop-r-init
loop-r-init c =
    let a = c.args in
    record {
      walk = on_first _ _ _ c.requires;
      row_is = lay_zero (fitted (length a.row.now) (ahead a.file.now a.table.now a.first)) a.row.now (fitted_length _ _);
    }

pub loop-r-preserved : goal.loop-r-preserved
loop-r-preserved c =
    let l = c.loop-r in
    let row = c.args.row.now in
    record {
      walk = on_next _ _ _ l.invariant.walk c.next_component-p.ensures;
      row_is =
          rw l.invariant.row_is
          (lay_next _ row (fitted_length _ _) l.r-index _ (omega arith) (on_row _ _ _ l.invariant.walk (length row) l.r-index refl (omega arith)));
    }

pub returns : goal.returns
returns c = (c.clear.ensures, c.loop-r.invariant.row_is ∙ lay_end _ c.args.row.now (fitted_length _ _) c.loop-r.r-index (omega arith))
