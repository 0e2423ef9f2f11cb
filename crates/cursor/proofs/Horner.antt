-- One byte before a number makes a number of one byte more, which a word has room for. Assumes nothing.
use Prim.Native.Nat.{ℕ, suc, ◌+◌, ◌-◌, ◌*◌, ◌^◌, ◌≤◌, ◌<◌}
use mathlib.Core.Path.{◌≡◌}
use mathlib.Core.List.{List}
use native.Mathlib.Omega.{arith}
use native.Mathlib.Nat.{pow-suc, pow-le-pow_right}
use lib.Dec.{lit<}
use lib.ListN.{get_or}
use Rattle.format.specs.Bytes.{le_at}

module _ (n i at : ℕ) (s : List ℕ) (above : 0 < i) (within : i ≤ n) {v b : ℕ} (small : v < 256 ^ (n - i)) (byte : b < 256) where
  -- how many bytes there are with it
  count : n - (i - 1) ≡ suc (n - i)
  count = omega arith

  pub more : b ≡ get_or s (at + (i - 1)) 0 → v ≡ le_at (n - i) s (at + i)
      → (256 * v + b ≡ le_at (n - (i - 1)) s (at + (i - 1))) × (256 * v + b < 256 ^ (n - (i - 1)))
  unfolding le_at
  more e f =
      let next : suc (at + (i - 1)) ≡ at + i = omega arith in
      (rw (count, next, ← e, ← f) (omega arith), rw (count, pow-suc) (omega arith))

  pub fits : n ≤ 8 → 256 * v + b < 2 ^ 64
  fits h =
      let p : 256 ^ suc (n - i) ≤ 256 ^ 8 = pow-le-pow_right {n = 256} (lit< tt) {i = suc (n - i)} {j = 8} (omega arith) in
      omega (arith, pow-suc 256 (n - i))
