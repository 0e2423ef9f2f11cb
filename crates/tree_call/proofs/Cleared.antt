-- Laws of a table whose bytes behind a tree's entries are made zero. Assumes nothing.
use Prim.Native.Nat.{ℕ, zero, suc, ◌+◌, ◌-◌, ◌*◌, ◌≤◌}
use mathlib.Core.Path.{◌≡◌, refl, ◌∙◌}
use mathlib.Core.List.{List, ◌++◌, append-nil}
use native.Mathlib.Nat.{sub-zero}
use native.Mathlib.Omega.{arith}
use lib.ListN.{length, take, drop}
use lib.Seq.{drop-drop, drop-length}
use borrow.Rule.Slice.PartMut.{mid_of, put_mid, mid_len}
use Rattle.format.proofs.Trees.Tables.{length_table}
use Rattle.format.specs.Bytes.{over, zeros}
use Rattle.format.specs.Trees.{table_bytes}
use Rattle.format.specs.declared.Entry.{Entry}

pub cleared_behind : (t q : List ℕ) (a : ℕ) → a ≤ length t → q ≡ zeros (length (mid_of a (length t - a) t))
    → put_mid a (length t - a) t q ≡ take a t ++ zeros (length t - a)
cleared_behind t q a l e =
    let end : a + (length t - a) ≡ length t = omega arith in
    rw (drop-drop, end, drop-length, append-nil, e, mid_len a (length t) t (omega arith)) refl

drop_zeros : (k n : ℕ) → drop k (zeros n) ≡ zeros (n - k)
unfolding zeros
drop_zeros zero n = rw sub-zero refl
drop_zeros (suc k) zero = rw (let z : 0 - suc k ≡ 0 = omega arith in z) refl
drop_zeros (suc k) (suc n) = drop_zeros k n ∙ rw (let z : suc n - suc k ≡ n - k = omega arith in z) refl

-- the entries in front and zeros behind them
pub front_zeros : (t : List ℕ) (es : List Entry) (w n : ℕ) → length es ≡ w → take (48 * length es) t ≡ table_bytes es
    → take (48 * w) t ++ zeros (n - 48 * w) ≡ over (table_bytes es) (zeros n)
unfolding over
front_zeros t es w n k e = rw (← k, e, length_table, drop_zeros) refl
