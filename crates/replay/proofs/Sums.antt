-- Laws of checksums: what is still to be folded. Assumes nothing.
use Prim.Native.Nat.{ℕ, ◌+◌, ◌/◌, ◌%◌, ◌≤◌, ◌<◌}
use mathlib.Core.Path.{◌≡◌, refl, sym, ap, ◌∙◌}
use mathlib.Core.List.{List, [], ◌∷◌, ◌++◌}
use native.Mathlib.Numerals.{add-one}
use lib.ListN.{length, get_or, drop, drop_of_length-le}
use lib.Seq.{drop-cons}
use Rattle.replay.specs.Checksum.{folded, checksum, halves}

-- ---- one list after another

checksum_append : (sum : ℕ) (xs ys : List ℕ) → checksum sum (xs ++ ys) ≡ checksum (checksum sum xs) ys
unfolding checksum
checksum_append sum [] ys = refl
checksum_append sum (x ∷ xs) ys = checksum_append (folded sum x) xs ys

halves_append : (xs ys : List ℕ) → halves (xs ++ ys) ≡ halves xs ++ halves ys
unfolding halves
halves_append [] ys = refl
halves_append (x ∷ xs) ys = rw (halves_append xs ys) refl

pub sum_more : (sum a r : ℕ) (xs ys : List ℕ) → a ≡ checksum sum (halves xs) → r ≡ checksum a (halves ys) → r ≡ checksum sum (halves (xs ++ ys))
sum_more sum a r xs ys h k =
    k ∙ ap (λ (x : ℕ). checksum x (halves ys)) h ∙ sym (checksum_append sum (halves xs) (halves ys)) ∙ ap (checksum sum) (sym (halves_append xs ys))

-- ---- number by number

-- the numbers from i on begin with the one at i
pub sum_number : (all i : ℕ) (s : List ℕ) → i < length s → checksum all (drop i s) ≡ checksum (folded all (get_or s i 0)) (drop (i + 1) s)
unfolding checksum
sum_number all i s h = rw (drop-cons s i 0 h, add-one) refl

pub sum_halves : (all i : ℕ) (s : List ℕ) → i < length s
    → checksum all (halves (drop i s)) ≡ checksum (folded (folded all (get_or s i 0 % 4294967296)) (get_or s i 0 / 4294967296)) (halves (drop (i + 1) s))
unfolding checksum halves
sum_halves all i s h = rw (drop-cons s i 0 h, add-one) refl

-- none is left
pub sum_end : (all i : ℕ) (s : List ℕ) → length s ≤ i → checksum all (drop i s) ≡ all
unfolding checksum
sum_end all i s h = ap (checksum all) (drop_of_length-le s h)

pub halves_end : (all i : ℕ) (s : List ℕ) → length s ≤ i → checksum all (halves (drop i s)) ≡ all
unfolding checksum halves
halves_end all i s h = ap (λ (l : List ℕ). checksum all (halves l)) (drop_of_length-le s h)
