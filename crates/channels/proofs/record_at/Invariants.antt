-- `channels::record_at`: after so many steps the walk has the records from that number on before it.
use Rattle.channels.proofs.Rows.{On}
use Rattle.channels.proofs.record_at.Given as goal

abbrev pub invariant-loop : goal.invariant-loop
invariant-loop l = On l.file l.table l.initial.p l.counter l.p
