-- The entries passed have given each name its `last`; within an entry the names before i have taken it.
use Prim.Native.Nat.{ℕ}
use mathlib.Core.Path.{sym, ap, ◌∙◌}
use mathlib.Core.List.{List, []}
use native.Mathlib.Omega.{arith}
use borrow.Author.Rules.{rules}
use Rattle.std.proofs.lemmas.Result.{err_from_is_err_and}
use lib.ListN.{get_or-map}
use Rattle.std.specs.Borrow.{Bor}
use Rattle.format.specs.Bytes.{same}
use Rattle.chunk.specs.Scan.{Entry}
use Rattle.chunk.proofs.Scan.{passes_start, turn_start, passes_end, passes_broken, turn_end, turn_hit, turn_miss}
use Rattle.chunk.proofs.map.look_all.Given.{Over}
use Rattle.chunk.proofs.map.look_all.Goals as goal
use Rattle.chunk.proofs.map.look_all.Goals.{In-Some, then-is_at, else-is_at}

-- what the entry that stands next is
entry : (g : Over) (c : In-Some g) → Entry c.args.map.now c.loop-n.at c.loop-n.entries c.in-Some.n
entry g c = rw c.in-Some.is at c.in_ok-n.ensures.1

pub loop-n-init : goal.loop-n-init
loop-n-init g c = passes_start _ _ _

pub next_entry-requires : goal.next_entry-requires
next_entry-requires g c = search rules

pub returns-in_err-n : goal.returns-in_err-n
returns-in_err-n g c =
    let p = err_from_is_err_and c.from_residual.result c.from_residual.ensures.1 in
    rw (p.1, p.2) (passes_broken c.loop-n.invariant c.in_err-n.ensures.1)

pub loop-i-init : goal.loop-i-init
loop-i-init g c = turn_start c.loop-n.invariant

pub loop-i-preserved : goal.loop-i-preserved
loop-i-preserved g c =
    let e = entry g (goal.at.loop-i-preserved g c).In-Some in
    let h = c.loop-i.invariant in
    let name = get_or-map (λ (s : Bor (List ℕ)). s.now) c.args.names.now c.loop-i.i (record { ref_ptr = (0, 0); now = [] }) in
    let s = c.is_at.ensures ∙ ap (same _) (sym name) in
    elim c.if-is_at.branch [
      | then-is_at w ↦ rw w.last-is (turn_hit h e (omega arith) s w.if-is_at.true w.le.ensures.0)
      | else-is_at w ↦ rw w.last-is (turn_miss h e (omega arith) s w.if-is_at.false)
    ]

pub loop-n-smaller : goal.loop-n-smaller
loop-n-smaller g c = omega (arith, (entry g (goal.at.loop-n-smaller g c).In-Some).inside)

pub loop-n-preserved : goal.loop-n-preserved
loop-n-preserved g c = turn_end c.loop-i.invariant (entry g (goal.at.loop-n-preserved g c).In-Some) (omega arith)

pub returns : goal.returns
returns g c = passes_end c.loop-n.invariant (rw c.in_default.is at c.in_ok-n.ensures.1)
