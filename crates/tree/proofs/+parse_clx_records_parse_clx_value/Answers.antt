-- `tree::parse_clx_records` and `tree::parse_clx_value` read records and values as the format does, and write their entries. The levels that are
-- left fall from call to call.
use Prim.Native.Nat.{ℕ, ◌+◌, ◌-◌}
use native.Mathlib.Nat.{sub-zero}
use native.Mathlib.Omega.{arith}
use Rattle.std.proofs.Common.{◌≡◌, Ok, Some}
use Rattle.std.proofs.lemmas.Result.{err_from_is_err_and}
use Rattle.format.specs.Trees.{value, children_at}
use Rattle.cursor.specs.Steps.{HeadRead, LeafRead}
use Rattle.tree.proofs.Runs.{begin, ends_none, ends_here, ends_bad, ends_full, fails, turn, Placed, leaf_stops, leaf_went}
use Rattle.tree.proofs.Runs.{level_unfit, level_deep, level_fault, level_went}
use Rattle.tree.proofs.+parse_clx_records_parse_clx_value.Goals as goal
use Rattle.tree.proofs.+parse_clx_records_parse_clx_value.Goals.{parse_clx_records-In-Some, parse_clx_value-Start, parse_clx_value-In_ok-leaf}

-- the head of the record that is read in a turn
head_at : (t : ℕ) (c : parse_clx_records-In-Some t) → HeadRead c.args.d.now c.loop-done.at (Ok (Some (c.in-Some.n, c.in-Some.v)))
head_at t c = rw c.in-Some.is at c.in_ok-n.ensures

pub parse_clx_records-loop-done-init : goal.parse_clx_records-loop-done-init
parse_clx_records-loop-done-init t c = rw sub-zero (begin _ _ _ _ _ _ _ c.requires.0 c.requires.2)

pub parse_clx_records-returns-in_err-n : goal.parse_clx_records-returns-in_err-n
parse_clx_records-returns-in_err-n t c =
    let p = err_from_is_err_and c.from_residual.result c.from_residual.ensures.1 in
    rw (p.1, p.2) (ends_bad c.loop-done.invariant (omega arith) c.in_err-n.ensures)

pub parse_clx_records-returns-in_default : goal.parse_clx_records-returns-in_default
parse_clx_records-returns-in_default t c = ends_here c.loop-done.invariant (omega arith) (rw c.in_default.is at c.in_ok-n.ensures)

pub parse_clx_records-returns-then-table-used : goal.parse_clx_records-returns-then-table-used
parse_clx_records-returns-then-table-used t c =
    ends_full c.loop-done.invariant (omega arith) (head_at t (goal.at.parse_clx_records-returns-then-table-used t c).In-Some) c.if-table-used.true

pub parse_clx_records-returns-in_err-at : goal.parse_clx_records-returns-in_err-at
parse_clx_records-returns-in_err-at t c =
    let p = err_from_is_err_and c.from_residual-in_err-at.result c.from_residual-in_err-at.ensures.1 in
    rw (p.1, p.2)
    (fails c.loop-done.invariant (omega arith) (head_at t (goal.at.parse_clx_records-returns-in_err-at t c).In-Some) c.in_err-at.ensures)

pub parse_clx_records-loop-done-preserved : goal.parse_clx_records-loop-done-preserved
parse_clx_records-loop-done-preserved t c =
    let h = head_at t (goal.at.parse_clx_records-loop-done-preserved t c).In-Some in
    let z : c.args.count - c.loop-done.done - 1 ≡ c.args.count - (c.loop-done.done + 1) = omega arith in
    rw z at (turn c.loop-done.invariant (omega arith) h c.in_ok-at.ensures h.good.1)

pub parse_clx_records-returns : goal.parse_clx_records-returns
parse_clx_records-returns t c = ends_none c.loop-done.invariant (omega arith)

-- what the value stands on
placed : (t : ℕ) (c : parse_clx_value-Start t) → Placed c.args.d.now c.args.base c.args.n c.args.c c.args.p c.args.table.now
placed t c = record { head = c.requires.0; left = c.requires.2 }

-- the value that is no level, of a record of the type of n
leaf_at : (t : ℕ) (c : parse_clx_value-In_ok-leaf t) → let a = c.args in
    LeafRead a.d.now a.c.end (value a.d.now (children_at a.p.levels a.d.now a.base a.p.used) a.n.kind a.n.start a.c.at a.c.end) (Ok c.in_ok-leaf.leaf)
leaf_at t c = let a = c.args in c.in_ok-leaf.ensures (children_at a.p.levels a.d.now a.base a.p.used) a.n.start

pub parse_clx_value-returns-in_err-leaf : goal.parse_clx_value-returns-in_err-leaf
parse_clx_value-returns-in_err-leaf t c =
    let a = c.args in
    let p = err_from_is_err_and c.from_residual.result c.from_residual.ensures.1 in
    let s = placed t (goal.at.parse_clx_value-returns-in_err-leaf t c).Start in
    rw (p.1, p.2) (leaf_stops s (c.in_err-leaf.ensures (children_at a.p.levels a.d.now a.base a.p.used) a.n.start))

pub parse_clx_value-entry_of-requires : goal.parse_clx_value-entry_of-requires
parse_clx_value-entry_of-requires t c =
    let g = (leaf_at t (goal.at.parse_clx_value-entry_of-requires t c).In_ok-leaf).good in
    let h = c.requires.0 in
    (omega (arith, h.before, h.within, c.requires), omega (arith, g.2, h.within, c.requires))

pub parse_clx_value-returns-then-kind-ne-LEVEL : goal.parse_clx_value-returns-then-kind-ne-LEVEL
parse_clx_value-returns-then-kind-ne-LEVEL t c =
    let at = goal.at.parse_clx_value-returns-then-kind-ne-LEVEL t c in
    let q = rw c.entry_of.ensures at c.put_entry.ensures in
    leaf_went (placed t at.Start) (leaf_at t at.In_ok-leaf) q.0 q.1

pub parse_clx_value-returns-in_err-level : goal.parse_clx_value-returns-in_err-level
parse_clx_value-returns-in_err-level t c =
    let p = err_from_is_err_and c.from_residual-in_err-level.result c.from_residual-in_err-level.ensures.1 in
    let s = placed t (goal.at.parse_clx_value-returns-in_err-level t c).Start in
    rw (p.1, p.2) (level_unfit s c.if-kind-ne-LEVEL.false c.in_err-level.ensures)

pub parse_clx_value-returns-then-levels-eq0 : goal.parse_clx_value-returns-then-levels-eq0
parse_clx_value-returns-then-levels-eq0 t c =
    let s = placed t (goal.at.parse_clx_value-returns-then-levels-eq0 t c).Start in
    level_deep s c.if-kind-ne-LEVEL.false c.in_ok-level.ensures c.if-levels-eq0.true

pub parse_clx_value-returns-in_err-u : goal.parse_clx_value-returns-in_err-u
parse_clx_value-returns-in_err-u t c =
    let p = err_from_is_err_and c.from_residual-in_err-u.result c.from_residual-in_err-u.ensures.1 in
    let s = placed t (goal.at.parse_clx_value-returns-in_err-u t c).Start in
    let q = rw c.entry_of-2.ensures at c.put_entry-2.ensures in
    rw (p.1, p.2) (level_fault s c.if-kind-ne-LEVEL.false c.in_ok-level.ensures c.if-levels-eq0.false q.0 c.in_err-u.ensures)

pub parse_clx_value-returns : goal.parse_clx_value-returns
parse_clx_value-returns t c =
    let s = placed t (goal.at.parse_clx_value-returns t c).Start in
    let q = rw c.entry_of-2.ensures at c.put_entry-2.ensures in
    level_went s c.if-kind-ne-LEVEL.false c.in_ok-level.ensures c.if-levels-eq0.false q.0 c.in_ok-u.ensures q.1 _ c.end_level.ensures
