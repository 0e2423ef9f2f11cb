-- `channels::record_at`: the records before it are passed, one by one.
use mathlib.Core.Path.{◌∙◌}
use native.Mathlib.Omega.{arith}
use Rattle.channels.proofs.Rows.{on_first, on_next, on_row, past_row}
use Rattle.channels.proofs.record_at.Goals as goal

pub returns-then-row-i : goal.returns-then-row-i
returns-then-row-i c = c.no_channel.ensures ∙ past_row _ _ _ c.if-row-i.true

pub loop-init : goal.loop-init
loop-init c = on_first _ _ _ c.requires

pub next_component-p-requires : goal.next_component-p-requires
next_component-p-requires c = c.loop.invariant.stands

pub loop-preserved : goal.loop-preserved
loop-preserved c = on_next _ _ _ c.loop.invariant c.next_component-p.ensures

pub returns : goal.returns
returns c = on_row _ _ _ c.loop.invariant c.args.row c.args.i (omega arith) (omega arith)
