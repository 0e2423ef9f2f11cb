-- `accepted`: one law for each way out.
use Rattle.std.proofs.Common.{◌≡◌, sym, ap, ◌∙◌, rules, arith}
use Rattle.std.proofs.lemmas.Result.{err_from_is_err_and}
use Rattle.format.specs.Answer.{number_of}
use Rattle.format.specs.Given.{said}
use Rattle.format.specs.Map.{map_entries}
use Rattle.format.specs.Summary.{map_of}
use Rattle.format.proofs.Files.SummaryTest.{sound_read}
use Rattle.register.proofs.Refusing.{bad_summary_is, bad_map, short, long}
use Rattle.register.proofs.accepted.Goals as goal
use Rattle.register.proofs.accepted.Goals.{After-map_check}

pub returns-then-bad_summary-clause-number : goal.returns-then-bad_summary-clause-number
returns-then-bad_summary-clause-number c = let a = c.args in bad_summary_is a.file.now a.u a.room (sym c.if-bad_summary.ensures)

pub data_of-requires : goal.data_of-requires
data_of-requires c = (sound_read c.args.file.now c.args.u (sym c.if-bad_summary.ensures)).map_within

-- the map's number
checked : (c : After-map_check) → let a = c.args in said c.map_check.result ≡ number_of (map_entries (map_of a.file.now a.u))
checked c = c.map_check.ensures ∙ ap (λ x. number_of (map_entries x)) c.data_of.ensures

pub returns-in_err-map_check-clause-number : goal.returns-in_err-map_check-clause-number
returns-in_err-map_check-clause-number c =
    let a = c.args in
    let p = err_from_is_err_and c.from_residual.result c.from_residual.ensures.1 in
    let e = checked (goal.at.returns-in_err-map_check-clause-number c).After-map_check in
    rw (p.1, p.2) (bad_map a.file.now a.u a.room (sym c.if-bad_summary.ensures) c.in_err-map_check.field-0.0 (rw c.in_err-map_check.was at e))

pub frames-count-requires : goal.frames-count-requires
frames-count-requires c = (sound_read c.args.file.now c.args.u (sym c.if-bad_summary.ensures)).loops_counted

pub returns-then-room-count-clause-number : goal.returns-then-room-count-clause-number
returns-then-room-count-clause-number c =
    let a = c.args in
    let e = checked (goal.at.returns-then-room-count-clause-number c).After-map_check in
    short a.file.now a.u a.room (sym c.if-bad_summary.ensures) (rw c.in_ok-map_check.was at e) (omega (arith, c.frames-count.ensures))

pub returns-clause-number : goal.returns-clause-number
returns-clause-number c =
    let a = c.args in
    let e = checked (goal.at.returns-clause-number c).After-map_check in
    long a.file.now a.u a.room (sym c.if-bad_summary.ensures) (rw c.in_ok-map_check.was at e) (omega (arith, c.frames-count.ensures)) (search rules)
