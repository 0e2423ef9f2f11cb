-- `put_records`: the records before number k are stored, and the walk stands before record k.
use Rattle.std.proofs.Common.{refl, ◌∙◌, arith}
use Rattle.format.specs.Channels.{empty_channel, fitted}
use Rattle.format.proofs.Calls.ChannelRecords.{fitted_length}
use Rattle.channels.specs.Ahead.{ahead}
use Rattle.channels.proofs.Rows.{on_first, on_next, on_row}
use Rattle.layout.proofs.Each.{none_stored, next_stored, all_stored}
use Rattle.layout.specs.Layout.{channel_bytes}
use Rattle.capi.proofs.Rows.{channel_length}
use Rattle.capi.proofs.put_records.Goals as goal

pub loop-k-init : goal.loop-k-init
loop-k-init c = record { walk = on_first _ _ _ c.requires.0; stored = none_stored channel_bytes _ }

pub loop-k-preserved : goal.loop-k-preserved
loop-k-preserved c =
    let a = c.args in
    let l = c.loop-k in
    let ps = ahead a.file.now a.table.now a.first in
    let n = fitted_length a.count ps in
    record {
      walk = on_next _ _ _ l.invariant.walk c.next_component-p.ensures;
      stored =
          c.put_channel.ensures
          ∙ next_stored channel_bytes 56 channel_length (fitted a.count ps) a.row.now l.row l.k _ empty_channel l.invariant.stored (omega (arith, n))
          (omega (arith, n)) (on_row _ _ _ l.invariant.walk a.count l.k refl (omega arith));
    }

pub returns : goal.returns
returns c =
    let a = c.args in
    let cs = fitted a.count (ahead a.file.now a.table.now a.first) in
    all_stored channel_bytes cs a.row.now c.loop-k.row c.loop-k.k c.loop-k.invariant.stored (omega (arith, fitted_length a.count (ahead a.file.now a.table.now a.first)))
