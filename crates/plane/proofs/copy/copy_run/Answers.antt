-- `copy_run`: in each part i blocks are copied; then the rest.
use mathlib.Core.Path.{◌≡◌, refl}
use Prim.Native.Nat.{◌*◌, ◌/◌}
use native.Mathlib.Omega.{arith}
use lib.ListN.{length}
use Rattle.format.specs.Bytes.{part}
use Rattle.plane.specs.Parts.{Alike}
use Rattle.plane.proofs.Parts.{parts_all}
use Rattle.plane.proofs.copy.copy_run.Goals as goal

pub loop-i-init : goal.loop-i-init
unfolding Alike part
loop-i-init c = λ j h. refl

pub returns : goal.returns
returns c =
    let l = c.loop-i in
    let a = c.args in
    let size = length a.dst.now / 96 * 16 in
    let all : l.i ≡ length a.dst.now / 96 = omega arith in
    let alike : Alike a.src.now l.dst size 6 size = rw all at l.invariant in
    let q = c.copy_bytes in
    parts_all a.src.now l.dst size q.new.dst 6 (6 * size) (length l.dst) alike refl (omega arith) (omega arith) refl q.ensures
