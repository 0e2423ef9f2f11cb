-- `copy_bytes`: the first i bytes of `dst` are those of `src`.
use mathlib.Core.Path.{◌≡◌, refl, sym, ◌∙◌}
use mathlib.Core.List.{List}
use Prim.Native.Nat.{ℕ, ◌+◌, ◌<◌}
use native.Mathlib.Omega.{arith}
use native.Mathlib.Numerals.{add-one}
use lib.ListN.{length, take, get_or, set}
use lib.Seq.{take-suc, take-suc-set, take_all}
use Rattle.plane.proofs.copy.copy_bytes.Goals as goal

-- one byte more
more : (s d : List ℕ) (i : ℕ) → i < length d → i < length s → take i d ≡ take i s → take (i + 1) (set d i (get_or s i 0)) ≡ take (i + 1) s
more s d i hd hs e = rw (add-one, take-suc-set d i (get_or s i 0) hd, e, take-suc s i 0 hs)

pub loop-i-init : goal.loop-i-init
loop-i-init c = refl

pub loop-i-preserved : goal.loop-i-preserved
loop-i-preserved c = more c.args.src.now c.loop-i.dst c.loop-i.i (omega arith) (omega arith) c.loop-i.invariant

pub returns : goal.returns
returns c =
    let s = c.args.src.now in
    let d = c.loop-i.dst in
    let i = c.loop-i.i in
    sym (take_all i d (omega arith)) ∙ c.loop-i.invariant ∙ take_all i s (omega arith)
