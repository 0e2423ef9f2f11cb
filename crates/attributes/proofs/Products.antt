-- Products that are over a number, judged by division. Assumes nothing.
use Prim.Native.Nat.{ℕ, ◌*◌, ◌/◌, ◌≤◌, ◌<◌}
use mathlib.Core.Path.{◌≡◌}
use mathlib.Core.Bool.{◌||◌}
use native.Mathlib.Nat.{div-div-eq-div-mul, div-lt_iff_lt-mul, mul-pos, mul_comm}
use native.Mathlib.Omega.{arith}
use lib.Dec.{ltb}
use Rattle.std.proofs.lemmas.Bool.Decides.{nat_tests}

-- a number is below a product just when its quotient by the first two factors is below the third
pub by_division : (x y z most : ℕ) → 0 < x → 0 < y → ltb (most / x / y) z ≡ ltb most (x * y * z)
by_division x y z most hx hy =
    let h = div-lt_iff_lt-mul {x = most} {y = z} (mul-pos hx hy) in
    rw (div-div-eq-div-mul most x y) (rw (mul_comm (x * y) z) (grind (arith, nat_tests, h.0, h.1)))

-- what is over `most` is over what is at most that
pub either_over : (n most p : ℕ) → n ≤ most → (ltb most p || ltb n p) ≡ ltb n p
either_over n most p h = grind (arith, nat_tests)
