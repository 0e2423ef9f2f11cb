use Rattle.std.proofs.Common.{◌≡◌, take}
use Rattle.format.specs.Bytes.{over}
use Rattle.format.specs.Channels.{fitted}
use Rattle.channels.specs.Ahead.{ahead}
use Rattle.channels.proofs.Rows.{On}
use Rattle.layout.specs.Layout.{channel_row_bytes}
use Rattle.capi.proofs.put_records.Given as goal

abbrev pub invariant-loop-k : goal.invariant-loop-k
invariant-loop-k l = record {
  walk : On l.file l.table l.fn.first l.k l.p;
  stored : l.row ≡ over (channel_row_bytes (take l.k (fitted l.count (ahead l.file l.table l.fn.first)))) l.fn.row;
}
