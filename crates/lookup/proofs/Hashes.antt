-- Laws of names' numbers. Assumes nothing.
use Prim.Native.Nat.{ℕ, ◌+◌, ◌≤◌, ◌<◌}
use mathlib.Core.Path.{◌≡◌, refl, sym}
use mathlib.Core.List.{List}
use native.Mathlib.Numerals.{add-one}
use native.Mathlib.Omega.{arith}
use lib.ListN.{length, drop, get_or}
use lib.Seq.{drop-cons, drop-length}
use Rattle.lookup.specs.Hash.{hash_step, hash_from, hash_of}

pub hash_start : (l : List ℕ) → hash_from 0 (drop 0 l) ≡ hash_of l
unfolding hash_of
hash_start l = refl

pub hash_more : (h : ℕ) (l : List ℕ) (i n : ℕ) → length l ≡ n → i < n → hash_from (hash_step h (get_or l i 0)) (drop (i + 1) l) ≡ hash_from h (drop i l)
unfolding hash_from
hash_more h l i n q k = sym (rw (drop-cons l i 0 (rw q k), add-one))

pub hash_end : (h : ℕ) (l : List ℕ) (i n : ℕ) → length l ≡ n → i ≤ n → n ≤ i → h ≡ hash_from h (drop i l)
unfolding hash_from
hash_end h l i n q k m =
    let x : i ≡ length l = omega arith in
    sym (rw (x, drop-length))
