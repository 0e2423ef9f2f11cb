-- `channels::fill`: the records so far are written, and the walk has those from there on before it.
use Rattle.std.proofs.Common.{length, ◌≡◌}
use Rattle.format.specs.Channels.{fitted}
use Rattle.channels.specs.Ahead.{ahead}
use Rattle.channels.proofs.Lay.{lay}
use Rattle.channels.proofs.Rows.{On}
use Rattle.channels.proofs.fill.Given as goal

abbrev pub invariant-loop-r : goal.invariant-loop-r
invariant-loop-r l = record {
  walk : On l.file l.table l.initial.p l.r-index l.p;
  row_is : l.row ≡ lay (fitted (length l.initial.row) (ahead l.file l.table l.initial.p)) l.initial.row l.r-index;
}
