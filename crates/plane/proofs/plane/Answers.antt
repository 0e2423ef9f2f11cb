-- `plane`: refused, or the samples of the frame that was found.
use Prim.Native.Nat.{ℕ, ◌≤◌}
use mathlib.Core.Path.{ap, ◌∙◌}
use mathlib.Core.List.{List}
use lib.ListN.{length}
use Rattle.std.proofs.lemmas.Result.{err_from_is_err_and}
use Rattle.format.specs.Bytes.{over}
use Rattle.plane.proofs.Samples.{data_length, rows_length, plane_rows}
use Rattle.plane.proofs.Promises.{refused_plane, found_plane, inside, prefix, fit}
use Rattle.plane.proofs.plane.Goals as goal
use Rattle.plane.proofs.plane.Goals.{After-data_of-data}

pub data_of-data-requires : goal.data_of-data-requires
data_of-data-requires c =
    let a = c.args in
    inside a.file.now a.u a.scene a.t a.c a.z a.samples.now c.in_ok-r.ensures

-- the frame's data is at least the prefix
behind : (c : After-data_of-data) → 8 ≤ length c.data_of-data.result.now
behind c =
    let a = c.args in
    let frame = c.in_ok-r.ensures in
    let i = inside a.file.now a.u a.scene a.t a.c a.z a.samples.now frame in
    let p = prefix a.file.now a.u a.scene a.t a.c a.z a.samples.now frame in
    rw (data_length a.file.now c.in_ok-r.r c.data_of-data.result.now c.data_of-data.ensures i p) p

pub slice_bounds-copy_samples-count : goal.slice_bounds-copy_samples-count
slice_bounds-copy_samples-count c = behind (goal.at.slice_bounds-copy_samples-count c).After-data_of-data

pub slice_bounds-copy_samples-start : goal.slice_bounds-copy_samples-start
slice_bounds-copy_samples-start c = behind (goal.at.slice_bounds-copy_samples-start c).After-data_of-data

pub copy_samples-requires : goal.copy_samples-requires
copy_samples-requires c =
    let a = c.args in
    let frame = c.in_ok-r.ensures in
    let i = inside a.file.now a.u a.scene a.t a.c a.z a.samples.now frame in
    let p = prefix a.file.now a.u a.scene a.t a.c a.z a.samples.now frame in
    rw (rows_length a.file.now c.in_ok-r.r c.data_of-data.result.now c.data_of-data.ensures i p)
    (fit a.file.now a.u a.scene a.t a.c a.z a.samples.now frame)

pub returns-in_err-r : goal.returns-in_err-r
returns-in_err-r c =
    let a = c.args in
    let p = err_from_is_err_and c.from_residual.result c.from_residual.ensures.1 in
    rw (p.1, p.2) (refused_plane a.file.now a.u a.scene a.t a.c a.z a.samples.now c.in_err-r.ensures)

pub returns : goal.returns
returns c =
    let a = c.args in
    let frame = c.in_ok-r.ensures in
    let i = inside a.file.now a.u a.scene a.t a.c a.z a.samples.now frame in
    let p = prefix a.file.now a.u a.scene a.t a.c a.z a.samples.now frame in
    let f = fit a.file.now a.u a.scene a.t a.c a.z a.samples.now frame in
    found_plane a.file.now a.u a.scene a.t a.c a.z a.samples.now frame
    (c.copy_samples.ensures
    ∙ ap (λ (l : List ℕ). over l a.samples.now)
    (plane_rows a.file.now c.in_ok-r.r c.data_of-data.result.now c.data_of-data.ensures i p a.u a.c (length a.samples.now) f))
