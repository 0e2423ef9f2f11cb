-- `channels::read_planes`: of the refusals of a tree only 18 stops the records.
use borrow.Author.Rules.{rules}
use Rattle.format.specs.Bytes.{ascii}
use Rattle.channels.proofs.Readying.{ready_given, ready_refused, ready_empty, by_given, by_table, by_fault}
use Rattle.channels.proofs.read_planes.Goals as goal

pub returns-in-Ok : goal.returns-in-Ok
unfolding ascii
returns-in-Ok c = λ row. ready_given _ _ _ _ _ (by_given _ _ c.in-Ok.ensures.answer) c.planes_in.ensures

pub returns-in-Err : goal.returns-in-Err
unfolding ascii
returns-in-Err c = λ row. ready_refused _ _ _ _ _ (by_table _ _ c.in-Err.ensures.answer (search rules))

pub returns-in-Err-2 : goal.returns-in-Err-2
unfolding ascii
returns-in-Err-2 c = λ row. ready_empty _ _ _ _ (by_fault _ _ c.in-Err-2.ensures.answer (search rules)) c.no_planes.ensures
