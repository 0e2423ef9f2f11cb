-- What the name that was found, its end and the room after it make of the map.
use Prim.Native.Nat.{◌+◌, ◌≤◌}
use mathlib.Core.Path.{◌≡◌, sym, ◌∙◌}
use mathlib.Core.Option.{some}
use native.Mathlib.Omega.{arith}
use lib.ListN.{length, drop}
use Rattle.std.specs.Prelude as std
use Rattle.std.proofs.lemmas.Result.{err_from_is_err_and}
use Rattle.format.specs.Map.{through_mark}
use Rattle.format.specs.declared.refusal.Refusal.TheVariants as is
use Rattle.chunk.proofs.Scan.{next_none, next_end, next_full, next_cut, next_entry}
use Rattle.chunk.proofs.map.next_entry.Goals as goal
use Rattle.chunk.proofs.map.next_entry.Goals.{In_ok-n}

-- what the call found
found : (c : In_ok-n) → c.through_mark.result ≡ std.Some c.in_ok-n.n
found c = grind arith

-- the name that was found, and its end
through : (c : In_ok-n)
    → some c.in_ok-n.n ≡ through_mark (drop c.args.at c.args.map.now)
through c = rw (found c) at c.through_mark.ensures.0

ends : (c : In_ok-n) → c.args.at + c.in_ok-n.n ≤ length c.args.map.now
ends c = rw (found c) at c.through_mark.ensures.1

pub returns-in_err-n : goal.returns-in_err-n
returns-in_err-n c =
    let p = err_from_is_err_and c.from_residual.result c.from_residual.ensures.1 in
    let none : c.through_mark.result ≡ std.None = grind arith in
    let map : c.in_err-n.field-0.0 ≡ is.Map = grind arith in
    rw (p.1, p.2, map) (next_none _ _ _ (rw none at c.through_mark.ensures.0))

pub is_end-requires : goal.is_end-requires
is_end-requires c = ends c

pub returns-then-is_end : goal.returns-then-is_end
returns-then-is_end c = next_end _ _ _ (through (goal.at.returns-then-is_end c).In_ok-n) (sym c.is_end.ensures ∙ c.if-is_end.true)

pub returns-then-entries-eq-MAX_MAP_ENTRIES : goal.returns-then-entries-eq-MAX_MAP_ENTRIES
returns-then-entries-eq-MAX_MAP_ENTRIES c =
    let g = (goal.at.returns-then-entries-eq-MAX_MAP_ENTRIES c).In_ok-n in
    next_full _ _ _ (through g) (sym c.is_end.ensures ∙ c.if-is_end.false) c.if-entries-eq-MAX_MAP_ENTRIES.true

pub overflow_sub-map-2 : goal.overflow_sub-map-2
overflow_sub-map-2 c = omega (arith, ends (goal.at.overflow_sub-map-2 c).In_ok-n)

pub returns-then-map-at-lt16 : goal.returns-then-map-at-lt16
returns-then-map-at-lt16 c =
    let g = (goal.at.returns-then-map-at-lt16 c).In_ok-n in
    let few = c.if-entries-eq-MAX_MAP_ENTRIES.false in
    next_cut _ _ _ (through g) (sym c.is_end.ensures ∙ c.if-is_end.false) (omega (arith, few)) (omega (arith, ends g))

pub returns : goal.returns
returns c =
    let g = (goal.at.returns c).In_ok-n in
    let few = c.if-entries-eq-MAX_MAP_ENTRIES.false in
    next_entry _ _ _ (through g) (sym c.is_end.ensures ∙ c.if-is_end.false) (omega (arith, few)) (omega (arith, ends g))
