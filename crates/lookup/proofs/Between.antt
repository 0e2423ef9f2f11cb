-- Laws of the numbers between two that pass a test. Assumes nothing.
use Prim.Native.Nat.{ℕ, zero, suc, ◌+◌, ◌-◌, ◌≤◌, ◌<◌}
use mathlib.Core.Path.{◌≡◌, refl, sym, ap, ◌∙◌}
use mathlib.Core.Bool.{Bool, true, false, cond}
use mathlib.Core.Option.{some, none}
use mathlib.Core.List.{List, [], ◌∷◌, ◌++◌}
use native.Mathlib.Decide.{dec_lt}
use native.Mathlib.Nat.{zero-add, add-zero, sub-zero}
use native.Mathlib.Numerals.{add-one}
use native.Mathlib.Omega.{arith}
use lib.ListN.{length, get_elem?}
use Rattle.format.proofs.Ground.Answers.{none≢some}
use Rattle.lookup.specs.Table.{passing, between}

pub nil_not : {A : Type 0} (xs : List ℕ) (k : ℕ) (ys : List ℕ) → [] ≡ xs ++ k ∷ ys → A
nil_not [] k ys h = absurd (let z : ◌≡◌ {A = ℕ} 0 1 = cc in omega arith)
nil_not (x ∷ xs) k ys h = absurd (let z : ◌≡◌ {A = ℕ} 0 1 = cc in omega arith)

-- k passes, and ys are those after it
pub record Picked (f : ℕ → Bool) (i n k : ℕ) (ys : List ℕ) : Type 0 where
  pub above : i ≤ k
  pub below : k < n
  pub passes : f k ≡ true
  pub rest : ys ≡ between f (suc k) n

module _ (f : ℕ → Bool) where
  -- ---- one number at a time

  pub between_here : (i n : ℕ) → i < n → f i ≡ true → between f i n ≡ i ∷ between f (i + 1) n
  unfolding between passing
  between_here i n l h = rw (let x : n - i ≡ suc (n - (i + 1)) = omega arith in x, h, add-one)

  pub between_skip : (i n : ℕ) → i < n → f i ≡ false → between f i n ≡ between f (i + 1) n
  unfolding between passing
  between_skip i n l h = rw (let x : n - i ≡ suc (n - (i + 1)) = omega arith in x, h, add-one)

  pub between_end : (i n : ℕ) → n ≤ i → between f i n ≡ []
  unfolding between passing
  between_end i n l = rw (let x : n - i ≡ 0 = omega arith in x)

  -- ---- where none passes

  pub between_none : (i n : ℕ) → ((k : ℕ) → i ≤ k → k < n → f k ≡ false) → between f i n ≡ []
  unfolding between passing
  between_none i n h = go i (n - i) (λ k a b. h k a (omega arith))
    where
      go : (i m : ℕ) → ((k : ℕ) → i ≤ k → k < i + m → f k ≡ false) → passing f i m ≡ []
      go i zero h = refl
      go i (suc m) h = rw (h i (omega arith) (omega arith)) (go (suc i) m (λ k a b. h k (omega arith) (omega arith)))

  pub between_hop : (a b n : ℕ) → a ≤ b → b ≤ n → ((i : ℕ) → a ≤ i → i < b → f i ≡ false) → between f a n ≡ between f b n
  between_hop a b n l k h =
      let x : a + (b - a) ≡ b = omega arith in
      go (b - a) (omega arith) (λ i c d. h i c (omega arith)) ∙ ap (λ (y : ℕ). between f y n) x
    where
      go : (m : ℕ) → a + m ≤ n → ((i : ℕ) → a ≤ i → i < a + m → f i ≡ false) → between f a n ≡ between f (a + m) n
      go zero c h = rw add-zero
      go (suc m) c h =
          let x : a + m + 1 ≡ a + suc m = omega arith in
          go m (omega arith) (λ i d e. h i d (omega arith)) ∙ between_skip (a + m) n (omega arith) (h (a + m) (omega arith) (omega arith))
          ∙ ap (λ (y : ℕ). between f y n) x

  -- ---- one number more at the end

  passing_last : (i n : ℕ) → passing f i (suc n) ≡ passing f i n ++ cond (f (i + n)) ((i + n) ∷ []) []
  unfolding passing
  passing_last i zero = rw add-zero refl
  passing_last i (suc n) =
      let x : i + suc n ≡ suc i + n = omega arith in
      rw x (go (f i) _ _ _ (passing_last (suc i) n))
    where
      go : (b : Bool) (ks ls ms : List ℕ) → ks ≡ ls ++ ms → cond b (i ∷ ks) ks ≡ cond b (i ∷ ls) ls ++ ms
      go true ks ls ms h = ap (λ (l : List ℕ). i ∷ l) h
      go false ks ls ms h = h

  pub between_last : (n : ℕ) → between f 0 (suc n) ≡ between f 0 n ++ cond (f n) (n ∷ []) []
  unfolding between
  between_last n = rw sub-zero (passing_last 0 n ∙ rw (zero-add, sub-zero))

  pub between_zero : between f 0 0 ≡ []
  unfolding between passing
  between_zero = refl

  -- ---- how many, and which come after one

  pub between_short : (n : ℕ) → length (between f 0 n) ≤ n
  unfolding between passing
  between_short n = let h = go 0 (n - 0) in omega arith
    where
      one : (b : Bool) (i m : ℕ) (l : List ℕ) → length l ≤ m → length (cond b (i ∷ l) l) ≤ suc m
      one true i m l h = omega arith
      one false i m l h = omega arith

      go : (i m : ℕ) → length (passing f i m) ≤ m
      go i zero = omega arith
      go i (suc m) = one (f i) i m (passing f (suc i) m) (go (suc i) m)

  pick_first : (i m n k : ℕ) (xs ys : List ℕ) → n ≡ i + suc m → f i ≡ true
      → ((ys : List ℕ) (xs : List ℕ) → passing f (suc i) m ≡ xs ++ k ∷ ys → Picked f (suc i) n k ys)
      → i ∷ passing f (suc i) m ≡ xs ++ k ∷ ys → Picked f i n k ys
  unfolding between
  pick_first i m n k [] ys t b ih h =
      let x : i ≡ k = cc in
      let y : passing f (suc i) m ≡ ys = cc in
      let z : n - suc k ≡ m = omega arith in
      record { above = omega arith; below = omega arith; passes = rw (← x) b; rest = rw z (sym y ∙ rw x) }
  pick_first i m n k (x ∷ xs) ys t b ih h =
      let y : passing f (suc i) m ≡ xs ++ k ∷ ys = cc in
      let r = ih ys xs y in
      record { above = omega (arith, r.above); below = r.below; passes = r.passes; rest = r.rest }

  pick_split : (i m n k : ℕ) (xs ys : List ℕ) → n ≡ i + m → passing f i m ≡ xs ++ k ∷ ys → Picked f i n k ys
  unfolding passing
  pick_split i zero n k xs ys t h = nil_not xs k ys h
  pick_split i (suc m) n k xs ys t h = go (λ ys xs. pick_split (suc i) m n k xs ys (omega arith)) (f i) refl h
    where
      go : ((ys : List ℕ) (xs : List ℕ) → passing f (suc i) m ≡ xs ++ k ∷ ys → Picked f (suc i) n k ys) → (b : Bool) → f i ≡ b
          → cond b (i ∷ passing f (suc i) m) (passing f (suc i) m) ≡ xs ++ k ∷ ys → Picked f i n k ys
      go ih true b h = pick_first i m n k xs ys t b ih h
      go ih false b h =
          let r = ih ys xs h in
          record { above = omega (arith, r.above); below = r.below; passes = r.passes; rest = r.rest }

  pub between_split : (n k : ℕ) (xs ys : List ℕ) → between f 0 n ≡ xs ++ k ∷ ys → Picked f 0 n k ys
  unfolding between
  between_split n k xs ys h = pick_split 0 (n - 0) n k xs ys (omega arith) h

  -- ---- the first

  -- j is the first from i on and below n
  pub record Foremost (i n j : ℕ) : Type 0 where
    pub passes : f j ≡ true
    pub low : i ≤ j
    pub high : j < n
    pub before : (k : ℕ) → i ≤ k → k < j → f k ≡ false

  foremost : (i m j : ℕ) → some j ≡ get_elem? (passing f i m) 0 → Foremost i (i + m) j
  unfolding passing
  foremost i zero j h = absurd (let z : ◌≡◌ {A = ℕ} 0 1 = cc in omega arith)
  foremost i (suc m) j h = go (λ g. foremost (suc i) m j g) (f i) refl h
    where
      go : (some j ≡ get_elem? (passing f (suc i) m) 0 → Foremost (suc i) (suc i + m) j) → (b : Bool) → f i ≡ b
          → some j ≡ get_elem? (cond b (i ∷ passing f (suc i) m) (passing f (suc i) m)) 0 → Foremost i (i + suc m) j
      go ih true q h =
          let x : j ≡ i = cc in
          record { passes = rw x q; low = omega arith; high = omega arith; before = λ k a b. absurd (omega arith) }
      go ih false q h =
          let w = ih h in
          record { passes = w.passes; low = omega (arith, w.low); high = omega (arith, w.high); before = λ k a b. at k a b w (dec_lt i k) }
        where
          at : (k : ℕ) → i ≤ k → k < j → Foremost (suc i) (suc i + m) j → Dec (i < k) → f k ≡ false
          at k a b w (yes y) = w.before k (omega arith) b
          at k a b w (no y) = let x : k ≡ i = omega (arith, y) in rw x q

  pub between_first : (i n j : ℕ) → i ≤ n → some j ≡ get_elem? (between f i n) 0 → Foremost i n j
  unfolding between
  between_first i n j l h = let x : i + (n - i) ≡ n = omega arith in rw x at (foremost i (n - i) j h)

  passing_empty : (i m : ℕ) → none ≡ get_elem? (passing f i m) 0 → (k : ℕ) → i ≤ k → k < i + m → f k ≡ false
  unfolding passing
  passing_empty i zero h k a b = absurd (omega arith)
  passing_empty i (suc m) h k a b = go (λ g y. passing_empty (suc i) m g k y (omega arith)) (f i) refl h (dec_lt i k)
    where
      go : (none ≡ get_elem? (passing f (suc i) m) 0 → suc i ≤ k → f k ≡ false) → (c : Bool) → f i ≡ c
          → none ≡ get_elem? (cond c (i ∷ passing f (suc i) m) (passing f (suc i) m)) 0 → Dec (i < k) → f k ≡ false
      go ih true q h d = absurd (none≢some h)
      go ih false q h (yes y) = ih h (omega arith)
      go ih false q h (no y) = let x : k ≡ i = omega (arith, y) in rw x q

  pub between_empty : (i n : ℕ) → none ≡ get_elem? (between f i n) 0 → (k : ℕ) → i ≤ k → k < n → f k ≡ false
  unfolding between
  between_empty i n h k a b = passing_empty i (n - i) h k a (omega arith)
