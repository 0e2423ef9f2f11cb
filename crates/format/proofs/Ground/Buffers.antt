-- Parts of two lists of bytes, and a lent buffer with bytes at its start. Assumes nothing.
use Prim.Native.Nat.{ℕ, zero, suc, ◌+◌, ◌-◌, ◌≤◌, ◌<◌}
use mathlib.Core.Path.{◌≡◌, refl, sym, ap, ◌∙◌}
use mathlib.Core.List.{List, [], ◌∷◌, ◌++◌, append_assoc, append-nil}
use native.Mathlib.Nat.{zero-add, suc-add, add-suc}
use native.Mathlib.Omega.{arith}
use lib.ListN.{length, get_or, set, take, drop, length-append, length-drop, get_or-append}
use lib.Seq.{get_or-drop, get_or-append-add, take_at, drop_at, take-add, take-take, drop-drop, drop-append-add, drop-length, sets, sets-eq}
use Rattle.format.specs.Bytes.{part, over}

-- ---- parts of parts

take_within : (l : List ℕ) (a m n : ℕ) → a + m ≤ n → take m (drop a (take n l)) ≡ take m (drop a l)
take_within l zero m n h = take-take m n l (omega arith)
take_within l (suc a) m zero h = absurd (omega arith)
take_within [] (suc a) m (suc n) h = refl
take_within (x ∷ l) (suc a) m (suc n) h = take_within l a m n (omega arith)

pub part_part : (s : List ℕ) (i n a m : ℕ) → a + m ≤ n → part (part s i n) a m ≡ part s (i + a) m
unfolding part
part_part s i n a m h = take_within (drop i s) a m n h ∙ rw drop-drop refl

-- one part after the other
pub part_join : (s : List ℕ) (i n m : ℕ) → part s i n ++ part s (i + n) m ≡ part s i (n + m)
unfolding part
part_join s i n m = sym (take-add n m (drop i s) ∙ rw drop-drop refl)

-- ---- parts of two lists

pub part_first : (xs ys : List ℕ) (n : ℕ) → length xs ≡ n → part (xs ++ ys) 0 n ≡ xs
unfolding part
part_first xs ys n e = take_at xs ys n e

pub part_behind : (xs ys : List ℕ) (i n : ℕ) → part (xs ++ ys) (length xs + i) n ≡ part ys i n
unfolding part
part_behind xs ys i n = rw drop-append-add refl

-- ---- a lent buffer

pub over_at : (xs buf : List ℕ) (i : ℕ) → i < length xs → get_or (over xs buf) i 0 ≡ get_or xs i 0
unfolding over
over_at xs buf i h = get_or-append xs (drop (length xs) buf) 0 i h

pub over_later : (xs buf : List ℕ) (i : ℕ) → length xs ≤ i → get_or (over xs buf) i 0 ≡ get_or buf i 0
unfolding over
over_later xs buf i h =
    let e : i ≡ length xs + (i - length xs) = omega arith in
    rw e (get_or-append-add xs (drop (length xs) buf) (i - length xs) 0 ∙ get_or-drop (length xs) buf (i - length xs) 0)

pub over_length : (xs buf : List ℕ) → length xs ≤ length buf → length (over xs buf) ≡ length buf
unfolding over
over_length xs buf h = rw (length-append, length-drop) (omega arith)

pub over_all : (xs buf : List ℕ) → length xs ≡ length buf → over xs buf ≡ xs
unfolding over
over_all xs buf e = rw (e, drop-length, append-nil)

-- the part of a buffer behind the n bytes xs, replaced by the k bytes ys
pub over_more : (xs ys buf : List ℕ) (n k : ℕ) → length xs ≡ n → length ys ≡ k
    → take n (over xs buf) ++ (ys ++ drop k (drop n (over xs buf))) ≡ over (xs ++ ys) buf
unfolding over
over_more xs ys buf n k e f =
    rw (take_at xs (drop (length xs) buf) n e, drop_at xs (drop (length xs) buf) n e, drop-drop, length-append, append_assoc, f)

-- the bytes ys stored behind xs
pub over_stored : (xs ys buf : List ℕ) (n : ℕ) → length xs ≡ n → n + length ys ≤ length buf → sets (over xs buf) n ys ≡ over (xs ++ ys) buf
over_stored xs ys buf n e h =
    let k : n + length ys ≤ length (over xs buf) = rw (over_length xs buf (omega arith)) h in
    sets-eq ys (over xs buf) n k
    ∙ (append_assoc (take n (over xs buf)) ys (drop (n + length ys) (over xs buf))
    ∙ (rw (← drop-drop (length ys) n (over xs buf)) (over_more xs ys buf n (length ys) e refl)))

-- bytes stored in the second of two lists
set_behind : (xs ys : List ℕ) (i v : ℕ) → set (xs ++ ys) (length xs + i) v ≡ xs ++ set ys i v
set_behind [] ys i v = rw zero-add refl
set_behind (x ∷ xs) ys i v = rw suc-add (ap (λ (l : List ℕ). x ∷ l) (set_behind xs ys i v))

pub sets_behind : (xs ys vs : List ℕ) (i : ℕ) → sets (xs ++ ys) (length xs + i) vs ≡ xs ++ sets ys i vs
sets_behind xs ys [] i = refl
sets_behind xs ys (v ∷ vs) i = rw (set_behind xs ys i v, ← add-suc) (sets_behind xs (set ys i v) vs (suc i))

-- as many bytes stored as the first of two lists has
pub sets_first : (xs ys vs : List ℕ) → length vs ≡ length xs → sets (xs ++ ys) 0 vs ≡ vs ++ ys
sets_first xs ys vs e = sets-eq vs (xs ++ ys) 0 (rw (zero-add, e, length-append) (omega arith)) ∙ rw (zero-add, drop_at xs ys (length vs) (sym e)) refl

-- or as the second of three
pub sets_second : (xs zs ys vs : List ℕ) (i : ℕ) → length xs ≡ i → length vs ≡ length zs → sets ((xs ++ zs) ++ ys) i vs ≡ (xs ++ vs) ++ ys
sets_second xs zs ys vs i e f =
    let k : i ≡ length xs + 0 = omega arith in
    rw (append_assoc xs zs ys, append_assoc xs vs ys, k) (sets_behind xs (zs ++ ys) vs 0 ∙ ap (λ (l : List ℕ). xs ++ l) (sets_first zs ys vs f))
