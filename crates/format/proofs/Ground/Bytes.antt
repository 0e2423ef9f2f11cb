-- Laws of bytes: numbers read at two widths, written, read back; parts, and what they are compared with. Assumes nothing.
use Prim.Native.Nat.{ℕ, min, zero, suc, ◌+◌, ◌*◌, ◌/◌, ◌%◌, ◌^◌, ◌≤◌, ◌<◌}
use mathlib.Core.Path.{◌≡◌, refl, sym, ap, ◌∙◌}
use mathlib.Core.Bool.{Bool, true, false, false≢true}
use mathlib.Core.List.{List, [], ◌∷◌, ◌++◌}
use native.Mathlib.Omega.{arith}
use native.Mathlib.Nat.{add-zero, zero-add, add-suc, suc-add, mul_assoc, pow-suc, pow-succ', pow-le-pow_right, div-one, div-div-eq-div-mul, div-lt_iff_lt-mul}
use lib.ListN.{length, get_or, set, take, drop, length-append, length-take, length-drop, get_or-append}
use lib.Seq.{sets, sets-eq, get_or-append-add, get_or-set_other, get_or-take, get_or-drop, drop-cons, take-take}
use lib.Arith.{mod-mul}
use lib.Dec.{lit<}
use Rattle.format.specs.Bytes.{le_at, le_bytes, part, same, begins}
use Rattle.format.proofs.Ground.Tests.{same_true, true_same, false_same}

pub le_one : (s : List ℕ) (i : ℕ) → le_at 1 s i ≡ get_or s i 0
unfolding le_at
le_one s i = omega arith

-- the number in n + k bytes is made of the numbers in the first n and the last k
pub le_join : (n k : ℕ) (s : List ℕ) (i : ℕ) → le_at (n + k) s i ≡ le_at n s i + 256 ^ n * le_at k s (i + n)
unfolding le_at
le_join zero k s i = rw (zero-add, add-zero) (omega arith)
le_join (suc n) k s i =
    let e : i + suc n ≡ suc i + n = omega arith in
    rw (suc-add n k, e, le_join n k s (suc i), pow-succ', mul_assoc) (omega arith)

-- it depends on those bytes alone
pub le_alike : (n : ℕ) (s t : List ℕ) (i : ℕ) → ((k : ℕ) → i ≤ k → k < i + n → get_or s k 0 ≡ get_or t k 0) → le_at n s i ≡ le_at n t i
unfolding le_at
le_alike zero s t i h = refl
le_alike (suc n) s t i h = rw (h i (omega arith) (omega arith), le_alike n s t (suc i) λ k l m. h k (omega arith) (omega arith))

-- the number in the second of two lists, and in the first
pub le_after : (n : ℕ) (xs ys : List ℕ) (i : ℕ) → le_at n (xs ++ ys) (length xs + i) ≡ le_at n ys i
unfolding le_at
le_after zero xs ys i = refl
le_after (suc n) xs ys i = rw (get_or-append-add, ← add-suc, le_after n xs ys (suc i))

pub le_before : (n : ℕ) (xs ys : List ℕ) (i : ℕ) → i + n ≤ length xs → le_at n (xs ++ ys) i ≡ le_at n xs i
le_before n xs ys i h = le_alike n (xs ++ ys) xs i λ k l m. get_or-append xs ys 0 k (omega arith)

-- ---- written

pub le_bytes_length : (n v : ℕ) → length (le_bytes n v) ≡ n
unfolding le_bytes
le_bytes_length zero v = refl
le_bytes_length (suc n) v = ap suc (le_bytes_length n (v / 256))

pub le_bytes_join : (n k v : ℕ) → le_bytes (n + k) v ≡ le_bytes n v ++ le_bytes k (v / 256 ^ n)
unfolding le_bytes
le_bytes_join zero k v = rw (zero-add, div-one)
le_bytes_join (suc n) k v = rw (suc-add n k, le_bytes_join n k (v / 256), div-div-eq-div-mul, pow-succ')

-- of v only the n low bytes count
pub le_bytes_low : (n v : ℕ) → le_bytes n (v % 256 ^ n) ≡ le_bytes n v
unfolding le_bytes
le_bytes_low zero v = refl
le_bytes_low (suc n) v =
    let e : v % 256 ^ suc n ≡ (v / 256 % 256 ^ n) * 256 + v % 256 =
    rw pow-suc (mod-mul v (pow-le-pow_right {n = 256} (lit< tt) {i = 0} {j = n} (omega arith)) (lit< tt)) in
    let a : v % 256 ^ suc n % 256 ≡ v % 256 = omega arith in
    let b : v % 256 ^ suc n / 256 ≡ v / 256 % 256 ^ n = omega arith in
    rw (a, b, le_bytes_low n (v / 256))

-- a run of stores in two parts
pub sets_append : (xs ys l : List ℕ) (i : ℕ) → sets l i (xs ++ ys) ≡ sets (sets l i xs) (i + length xs) ys
sets_append [] ys l i = rw add-zero
sets_append (x ∷ xs) ys l i = rw (add-suc, ← suc-add) (sets_append xs ys (set l i x) (suc i))

-- the low n bytes of v stored, then the high k
pub stored_join : (n k : ℕ) (l : List ℕ) (i v : ℕ) {m r : List ℕ} → m ≡ sets l i (le_bytes n (v % 256 ^ n)) → r ≡ sets m (i + n) (le_bytes k (v / 256 ^ n))
    → r ≡ sets l i (le_bytes (n + k) v)
stored_join n k l i v e f = f ∙ rw (e, le_bytes_low, le_bytes_join, sets_append, le_bytes_length)

-- ---- read back

-- the n bytes of v give v, where v has no more
pub le_le_bytes : (n v : ℕ) → v < 256 ^ n → le_at n (le_bytes n v) 0 ≡ v
unfolding le_at le_bytes
le_le_bytes zero v h = omega arith
le_le_bytes (suc n) v h =
    let k : v / 256 < 256 ^ n = (div-lt_iff_lt-mul (lit< tt)).1 (rw pow-suc at h) in
    let e : le_at n (v % 256 ∷ le_bytes n (v / 256)) 1 ≡ v / 256 = le_after n (v % 256 ∷ []) (le_bytes n (v / 256)) 0 ∙ le_le_bytes n (v / 256) k in
    rw e (omega arith)

-- where it was stored
pub le_stored : (n : ℕ) (l : List ℕ) (i v : ℕ) → i + n ≤ length l → v < 256 ^ n → le_at n (sets l i (le_bytes n v)) i ≡ v
le_stored n l i v h f =
    let k = le_bytes_length n v in
    let b : length (take i l) ≡ i = simp length-take (omega arith) in
    let e : le_at n (take i l ++ le_bytes n v) (length (take i l) + 0) ≡ v = le_after n (take i l) (le_bytes n v) 0 ∙ le_le_bytes n v f in
    rw (
      sets-eq (le_bytes n v) l i (rw k h),
      le_before n (take i l ++ le_bytes n v) (drop (i + length (le_bytes n v)) l) i (rw (length-append, b, k) (omega arith)),
    )
    (rw (b, add-zero) at e)

-- and elsewhere nothing changed
get_d_sets : (xs l : List ℕ) (i k : ℕ) → (i ≤ k → k < i + length xs → ⊥) → get_or (sets l i xs) k 0 ≡ get_or l k 0
get_d_sets [] l i k h = refl
get_d_sets (x ∷ xs) l i k h =
    get_d_sets xs (set l i x) (suc i) k (λ a b. h (omega arith) (omega arith)) ∙ get_or-set_other l i k x 0 λ e. h (omega arith) (omega arith)

pub le_elsewhere : (n : ℕ) (xs l : List ℕ) (i k : ℕ) → ((j : ℕ) → k ≤ j → j < k + n → i ≤ j → j < i + length xs → ⊥)
    → le_at n (sets l i xs) k ≡ le_at n l k
le_elsewhere n xs l i k h = le_alike n (sets l i xs) l k λ j a b. get_d_sets xs l i j (h j a b)

-- ---- bytes

-- each is below 256
unfoldable pub AllBytes : List ℕ → Type 0
AllBytes l = (i : ℕ) → get_or l i 0 < 256

pub bytes_append : (xs ys : List ℕ) → AllBytes xs → AllBytes ys → AllBytes (xs ++ ys)
unfolding AllBytes
bytes_append [] ys a b i = b i
bytes_append (x ∷ xs) ys a b zero = a 0
bytes_append (x ∷ xs) ys a b (suc i) = bytes_append xs ys (λ j. a (suc j)) b i

pub le_bytes_is : (n v : ℕ) → AllBytes (le_bytes n v)
unfolding AllBytes le_bytes
le_bytes_is zero v i = omega arith
le_bytes_is (suc n) v zero = omega arith
le_bytes_is (suc n) v (suc i) = le_bytes_is n (v / 256) i

-- bytes are those of the number that they stand for
pub le_part : (n : ℕ) (s : List ℕ) (i : ℕ) → i + n ≤ length s → ((k : ℕ) → i ≤ k → k < i + n → get_or s k 0 < 256) → part s i n ≡ le_bytes n (le_at n s i)
unfolding part le_at le_bytes
le_part zero s i h b = refl
le_part (suc n) s i h b =
    let x = get_or s i 0 in
    let m = le_at n s (suc i) in
    let small = b i (omega arith) (omega arith) in
    let low : (x + 256 * m) % 256 ≡ x = omega arith in
    let high : (x + 256 * m) / 256 ≡ m = omega arith in
    rw (low, high, drop-cons s i 0 (omega arith)) (ap (λ (l : List ℕ). x ∷ l) (le_part n s (suc i) (omega arith) λ k l l₂. b k (omega arith) (omega arith)))

-- ---- parts

pub part_length : (s : List ℕ) (i n : ℕ) → i + n ≤ length s → length (part s i n) ≡ n
unfolding part
part_length s i n h = simp (length-take, length-drop) (omega arith)

pub part_at : (s : List ℕ) (i n k : ℕ) → k < n → get_or (part s i n) k 0 ≡ get_or s (i + k) 0
unfolding part
part_at s i n k h = rw (get_or-take, get_or-drop)

-- ---- parts compared

pub same_sym : (s t : List ℕ) → same s t ≡ same t s
same_sym s t = by (same s t) refl
  where
    by : (b : Bool) → same s t ≡ b → b ≡ same t s
    by true q = sym (true_same t s (sym (same_true s t q)))
    by false q = sym (false_same t s λ e. false≢true (sym q ∙ true_same s t (sym e)))

pub part_other : (s e : List ℕ) (i n : ℕ) → i + n ≤ length s → (n ≡ length e → ⊥) → same (part s i n) e ≡ false
part_other s e i n f h = false_same (part s i n) e λ q. h (sym (part_length s i n f) ∙ ap length q)

pub begins_short : (p s : List ℕ) (i n : ℕ) → i + n ≤ length s → n < length p → begins p (part s i n) ≡ false
unfolding begins
begins_short p s i n f h =
    false_same p (take (length p) (part s i n)) λ e. let l : length p ≡ min (length p) n = ap length e ∙ rw (length-take, part_length s i n f) in omega arith

pub begins_part : (p s : List ℕ) (i n : ℕ) → length p ≤ n → begins p (part s i n) ≡ same (part s i (length p)) p
unfolding begins part
begins_part p s i n h = rw take-take (same_sym p (take (length p) (drop i s)))
