-- `tree::read_head` reads a record's head as the format does.
use native.Mathlib.Omega.{arith}
use Rattle.tree.proofs.Heads.{head_none, Started, head_begun}
use Rattle.tree.proofs.read_head.Goals as goal
use Rattle.tree.proofs.read_head.Goals.{In-Some}

-- the type is read, and the name's units
begun : (c : In-Some) → Started c.args.d.now c.args.c c.requires c.in-Some.start
begun c = head_begun _ _ c.requires c.in-Some.ensures

pub returns-in_default : goal.returns-in_default
returns-in_default c = head_none _ _ c.requires c.in_default.ensures

pub judge_head-requires : goal.judge_head-requires
judge_head-requires c = let g = begun (goal.at.judge_head-requires c).In-Some in (g.name_at, omega (arith, g.name_at, g.two, g.name_end))

pub returns : goal.returns
returns c =
    let g = begun (goal.at.returns c).In-Some in
    rw g.name_end at (c.judge_head.ensures c.args.d.now (omega (arith, g.name_end, c.requires)) g.type_is g.units_are)
