-- What the two reads say together is a record's start.
use Rattle.std.proofs.Common.{◌≡◌}
use Rattle.std.specs.Result.{result_ok}
use Rattle.chunk_cursor.specs.Places.{start_at}
use Rattle.chunk_cursor.proofs.InARow.{start_by, through}
use Rattle.chunk_cursor.proofs.record_start.Goals as goal
use Rattle.chunk_cursor.proofs.record_start.Goals.{After-read-second}

together : (c : After-read-second) → start_by (result_ok c.read-first.result) (result_ok c.read-second.result) ≡ start_at c.args.slice.now c.args.at
together c =
    through c.args.slice c.args.at c.new-c.result c.after.result c.read-first.result c.read-second.result c.new-c.ensures
    c.read-first.ensures.0 c.after.ensures c.read-second.ensures.0

pub returns-in_err-kind : goal.returns-in_err-kind
returns-in_err-kind c =
    rw c.from_residual.ensures (rw (← c.in_err-kind.ensures.value) at (together (goal.at.returns-in_err-kind c).After-read-second))

pub returns-in_err-units : goal.returns-in_err-units
returns-in_err-units c =
    rw c.from_residual-in_err-units.ensures
    (rw (← c.in_ok-kind.ensures.value, ← c.in_err-units.ensures.value) at (together (goal.at.returns-in_err-units c).After-read-second))

pub returns : goal.returns
returns c =
    rw (← c.in_ok-kind.ensures.value, ← c.in_ok-units.ensures.value) at (together (goal.at.returns c).After-read-second)
