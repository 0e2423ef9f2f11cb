-- `register`: refused, or every frame's record absent and then the map's entries.
use Rattle.std.proofs.Common.{sym, arith, length}
use Rattle.std.proofs.lemmas.Result.{err_from_is_err_and}
use Rattle.register.proofs.Refusing.{Ready, ready, refused_register, made_register}
use Rattle.register.proofs.register.Goals as goal
use Rattle.register.proofs.register.Goals.{In_ok-count}

pub returns-in_err-count : goal.returns-in_err-count
returns-in_err-count c =
    let a = c.args in
    let p = err_from_is_err_and c.from_residual.result c.from_residual.ensures.1 in
    let it = refused_register a.file.now a.u a.buffer.now c.in_err-count.field-0.0 c.in_err-count.ensures.number in
    rw (p.1, p.2)
    (record {
      number = it.number;
      buffer = it.buffer;
      first = it.first;
      accepted = it.accepted;
      registered = it.registered;
      untouched = it.untouched;
    })

-- nothing is refused
good : (c : In_ok-count) → let a = c.args in Ready a.file.now a.u (length a.buffer.now)
good c = let a = c.args in ready a.file.now a.u (length a.buffer.now) (sym (rw c.in_ok-count.was at c.accepted.ensures.number))

pub put_frames-requires : goal.put_frames-requires
put_frames-requires c =
    let g = good (goal.at.put_frames-requires c).In_ok-count in (g.sound.loops_counted, omega (arith, c.in_ok-count.ensures.count, g.enough))

pub data_of-requires : goal.data_of-requires
data_of-requires c = (good (goal.at.data_of-requires c).In_ok-count).sound.map_within

pub put_entries-requires : goal.put_entries-requires
put_entries-requires c =
    let g = good (goal.at.put_entries-requires c).In_ok-count in omega (arith, c.in_ok-count.ensures.count, g.enough, c.put_frames.auto.buffer)

pub returns : goal.returns
returns c =
    let a = c.args in
    let g = good (goal.at.returns c).In_ok-count in
    let it = made_register a.file.now a.u a.buffer.now g c.in_ok-count.ensures.count c.data_of.ensures c.put_frames.ensures c.put_entries.ensures in
    record {
      number = it.number;
      buffer = it.buffer;
      first = it.first;
      accepted = it.accepted;
      registered = it.registered;
      untouched = it.untouched;
    }
