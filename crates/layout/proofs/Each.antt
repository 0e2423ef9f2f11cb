-- Bytes of equal length for each of a list, stored one after another at the start of a lent buffer. Assumes nothing.
use Prim.Native.Nat.{ℕ, ◌+◌, ◌*◌, ◌≤◌, ◌<◌}
use mathlib.Core.Path.{◌≡◌, refl, sym, ap, ◌∙◌}
use mathlib.Core.List.{List, [], ◌∷◌, ◌++◌, append-nil, append_assoc}
use native.Mathlib.Nat.{mul-suc, mul-zero, mul-le-mul_left, add_comm}
use native.Mathlib.Numerals.{add-one}
use native.Mathlib.Omega.{arith}
use lib.ListN.{length, get_or, take, length-append}
use lib.Seq.{sets, take-suc, take_all, length-take-le}
use Rattle.format.proofs.Ground.Buffers.{over_stored}
use Rattle.format.proofs.Ground.Bytes.{sets_append, le_bytes_length}
use Rattle.format.specs.Bytes.{le_bytes, over, each}

each_last : {A : Type 0} (f : A → List ℕ) (xs : List A) (x : A) → each f (xs ++ x ∷ []) ≡ each f xs ++ f x
unfolding each
each_last f [] x = append-nil (f x)
each_last f (y ∷ xs) x = ap (λ r. f y ++ r) (each_last f xs x) ∙ sym (append_assoc (f y) (each f xs) (f x))

-- nothing is stored yet
pub none_stored : {A : Type 0} (f : A → List ℕ) (b : List ℕ) → b ≡ over (each f []) b
unfolding each over
none_stored f b = refl

module _ {A : Type 0} (f : A → List ℕ) (size : ℕ) (sized : (x : A) → length (f x) ≡ size) where
  pub each_length : (xs : List A) → length (each f xs) ≡ size * length xs
  unfolding each
  each_length [] = sym (mul-zero size)
  each_length (x ∷ xs) = rw (length-append, sized, each_length xs, mul-suc) (add_comm size (size * length xs))

  -- one more: d is what lies behind the list's end
  pub next_stored : (xs : List A) (b₀ b : List ℕ) (k : ℕ) (x d : A) → b ≡ over (each f (take k xs)) b₀ → k < length xs → size * length xs ≤ length b₀
      → x ≡ get_or xs k d → sets b (size * k) (f x) ≡ over (each f (take (k + 1) xs)) b₀
  next_stored xs b₀ b k x d e h room q =
      let l : length (each f (take k xs)) ≡ size * k = rw (each_length (take k xs), length-take-le k xs (omega arith)) in
      let n = sized (get_or xs k d) in
      let m : size * k + size ≤ size * length xs = rw (← mul-suc) (mul-le-mul_left size h) in
      rw (e, q, add-one, take-suc xs k d h, each_last) (over_stored (each f (take k xs)) (f (get_or xs k d)) b₀ (size * k) l (omega arith))

-- all of them
pub all_stored : {A : Type 0} (f : A → List ℕ) (xs : List A) (b₀ b : List ℕ) (k : ℕ) → b ≡ over (each f (take k xs)) b₀ → length xs ≤ k
    → b ≡ over (each f xs) b₀
all_stored f xs b₀ b k e h = rw (take_all k xs h) at e

-- one word more, from a place on
pub one_word : (b : List ℕ) (at k : ℕ) (ys : List ℕ) → k < length ys
    → sets (sets b at (each (le_bytes 8) (take k ys))) (at + 8 * k) (le_bytes 8 (get_or ys k 0)) ≡ sets b at (each (le_bytes 8) (take (k + 1) ys))
one_word b at k ys h =
    let l : length (each (le_bytes 8) (take k ys)) ≡ 8 * k =
    rw (each_length (le_bytes 8) 8 (le_bytes_length 8) (take k ys), length-take-le k ys (omega arith)) in
    rw (add-one, take-suc ys k 0 h, each_last, sets_append (each (le_bytes 8) (take k ys)) (le_bytes 8 (get_or ys k 0)) b at, l) refl
