-- `sheet`: refused, or the head and the samples of the frame that was found.
use Prim.Native.Nat.{◌≤◌}
use mathlib.Core.List.{[]}
use lib.ListN.{length}
use Rattle.std.proofs.lemmas.Result.{err_from_is_err_and}
use Rattle.format.specs.Sheets.{sheet_head}
use Rattle.format.proofs.Calls.SheetBytes.{head_length}
use Rattle.plane.proofs.Samples.{data_length, rows_length, plane_rows}
use Rattle.sheet.proofs.Promises.{refused_sheet, written_sheet, inside, prefix, head_room, head_fits, fit, headed_length, strip_length, strip_stored}
use Rattle.sheet.proofs.sheet.Goals as goal
use Rattle.sheet.proofs.sheet.Goals.{After-data_of-data, After-put_head}

-- the frame's data is at least the prefix
behind : (c : After-data_of-data) → 8 ≤ length c.data_of-data.result.now
behind c =
    let a = c.args in
    let frame = c.in_ok-r.ensures in
    let i = inside a.file.now a.u a.scene a.t a.c a.z a.lent.now frame in
    let p = prefix a.file.now a.u a.scene a.t a.c a.z a.lent.now frame in
    rw (data_length a.file.now c.in_ok-r.r c.data_of-data.result.now c.data_of-data.ensures i p) p

-- and the lent bytes at least a head
room : (c : After-put_head) → 186 ≤ length c.put_head.new.d
room c =
    let a = c.args in
    let m = head_room a.file.now a.u a.scene a.t a.c a.z a.lent.now c.in_ok-r.ensures in
    let h = sheet_head a.u.width a.u.height a.u.bits in
    let long = head_length a.u.width a.u.height a.u.bits in
    rw (headed_length h [] a.lent.now _ [] long c.put_head.ensures m) m

pub put_head-requires : goal.put_head-requires
put_head-requires c =
    let a = c.args in
    let frame = c.in_ok-r.ensures in
    (head_room a.file.now a.u a.scene a.t a.c a.z a.lent.now frame, head_fits a.file.now a.u a.scene a.t a.c a.z a.lent.now frame)

pub data_of-data-requires : goal.data_of-data-requires
data_of-data-requires c =
    let a = c.args in
    inside a.file.now a.u a.scene a.t a.c a.z a.lent.now c.in_ok-r.ensures

pub slice_bounds-copy_samples-count : goal.slice_bounds-copy_samples-count
slice_bounds-copy_samples-count c = behind (goal.at.slice_bounds-copy_samples-count c).After-data_of-data

pub slice_bounds-copy_samples-start : goal.slice_bounds-copy_samples-start
slice_bounds-copy_samples-start c = behind (goal.at.slice_bounds-copy_samples-start c).After-data_of-data

pub slice_bounds-copy_samples-count-2 : goal.slice_bounds-copy_samples-count-2
slice_bounds-copy_samples-count-2 c = room (goal.at.slice_bounds-copy_samples-count-2 c).After-put_head

pub slice_bounds-copy_samples-start-2 : goal.slice_bounds-copy_samples-start-2
slice_bounds-copy_samples-start-2 c = room (goal.at.slice_bounds-copy_samples-start-2 c).After-put_head

pub copy_samples-requires : goal.copy_samples-requires
copy_samples-requires c =
    let a = c.args in
    let frame = c.in_ok-r.ensures in
    let r = c.in_ok-r.r in
    let i = inside a.file.now a.u a.scene a.t a.c a.z a.lent.now frame in
    let p = prefix a.file.now a.u a.scene a.t a.c a.z a.lent.now frame in
    let m = head_room a.file.now a.u a.scene a.t a.c a.z a.lent.now frame in
    let h = sheet_head a.u.width a.u.height a.u.bits in
    let long = head_length a.u.width a.u.height a.u.bits in
    rw (
      rows_length a.file.now r c.data_of-data.result.now c.data_of-data.ensures i p,
      strip_length h [] a.lent.now _ [] long c.put_head.ensures m,
    ) (fit a.file.now a.u a.scene a.t a.c a.z a.lent.now frame)

pub returns-in_err-r : goal.returns-in_err-r
returns-in_err-r c =
    let a = c.args in
    let p = err_from_is_err_and c.from_residual.result c.from_residual.ensures.1 in
    rw (p.1, p.2) (refused_sheet a.file.now a.u a.scene a.t a.c a.z a.lent.now c.in_err-r.ensures)

pub returns : goal.returns
returns c =
    let a = c.args in
    let frame = c.in_ok-r.ensures in
    let r = c.in_ok-r.r in
    let i = inside a.file.now a.u a.scene a.t a.c a.z a.lent.now frame in
    let p = prefix a.file.now a.u a.scene a.t a.c a.z a.lent.now frame in
    let m = head_room a.file.now a.u a.scene a.t a.c a.z a.lent.now frame in
    let f = fit a.file.now a.u a.scene a.t a.c a.z a.lent.now frame in
    written_sheet a.file.now a.u a.scene a.t a.c a.z a.lent.now frame
    (strip_stored (sheet_head a.u.width a.u.height a.u.bits) _ a.lent.now _ _ (head_length a.u.width a.u.height a.u.bits)
    c.put_head.ensures m
    (rw (plane_rows a.file.now r c.data_of-data.result.now c.data_of-data.ensures i p a.u a.c _ f) at c.copy_samples.ensures))
