-- Laws of a row of entries: the first n of them, those below a level, and where these end. Assumes nothing.
use Prim.Native.Nat.{ℕ, zero, suc, ◌+◌, ◌-◌, ◌≤◌, ◌<◌}
use mathlib.Core.Path.{◌≡◌, refl, sym, ap, ◌∙◌}
use mathlib.Core.Option.{some}
use mathlib.Core.List.{List, [], ◌∷◌, ◌++◌}
use native.Mathlib.Decide.{dec_lt}
use native.Mathlib.Nat.{add-zero, add-suc}
use native.Mathlib.Omega.{arith}
use borrow.Author.Tests.{ne_eqb}
use lib.ListN.{length, get_elem?, length-append}
use Rattle.format.proofs.Values.OneMoreEntry.{step, slots_none, slots_last}
use Rattle.format.specs.Values.{slots_of}
use Rattle.format.specs.declared.Entry.{Entry}
use Rattle.lookup.specs.Table.{firsts, Ordered, Below, Run, Split}

-- ---- the first n

pub length_firsts : (n : ℕ) (e : ℕ → Entry) → length (firsts n e) ≡ n
unfolding firsts
length_firsts zero e = refl
length_firsts (suc n) e = rw (length-append, length_firsts n e) (omega arith)

get_elem_before : (xs ys : List Entry) (i : ℕ) → i < length xs → get_elem? (xs ++ ys) i ≡ get_elem? xs i
get_elem_before [] ys i h = absurd (omega arith)
get_elem_before (x ∷ xs) ys zero h = refl
get_elem_before (x ∷ xs) ys (suc i) h = get_elem_before xs ys i (omega arith)

get_elem_last : (xs : List Entry) (y : Entry) → get_elem? (xs ++ y ∷ []) (length xs) ≡ some y
get_elem_last [] y = refl
get_elem_last (x ∷ xs) y = get_elem_last xs y

pub get_elem_firsts : (n : ℕ) (e : ℕ → Entry) (i : ℕ) → i < n → get_elem? (firsts n e) i ≡ some (e i)
unfolding firsts
get_elem_firsts zero e i h = absurd (omega arith)
get_elem_firsts (suc n) e i h = go (λ l. get_elem_firsts n e i l) (dec_lt i n)
  where
    go : (i < n → get_elem? (firsts n e) i ≡ some (e i)) → Dec (i < n) → get_elem? (firsts n e ++ e n ∷ []) i ≡ some (e i)
    go ih (yes l) = get_elem_before (firsts n e) _ i (rw length_firsts l) ∙ ih l
    go ih (no l) =
        let x : i ≡ n = omega (arith, l) in
        rw x (ap (get_elem? (firsts n e ++ e n ∷ [])) (sym (length_firsts n e)) ∙ get_elem_last (firsts n e) (e n))

-- ---- the slots of a level, one entry more

pub slots_more : (s : List ℕ) (p n : ℕ) (e : ℕ → Entry) → slots_of s (firsts (suc n) e) p ≡ step s p n (e n) (slots_of s (firsts n e) p)
unfolding firsts
slots_more s p n e = slots_last s p (firsts n e) (e n) ∙ rw length_firsts

pub slots_same : (s : List ℕ) (p n : ℕ) (e : ℕ → Entry) → ((e n).parent ≡ p → ⊥) → slots_of s (firsts (suc n) e) p ≡ slots_of s (firsts n e) p
slots_same s p n e h = slots_more s p n e ∙ rw (ne_eqb _ _ h)

pub slots_start : (s : List ℕ) (p : ℕ) (e : ℕ → Entry) → slots_of s (firsts 0 e) p ≡ []
unfolding firsts
slots_start s p e = slots_none s p

-- no child from entry i on
pub slots_until : (s : List ℕ) (p i n : ℕ) (e : ℕ → Entry) → i ≤ n → ((k : ℕ) → i ≤ k → k < n → (e k).parent ≡ p → ⊥)
    → slots_of s (firsts n e) p ≡ slots_of s (firsts i e) p
slots_until s p i n e l h =
    let x : i + (n - i) ≡ n = omega arith in
    ap (λ (y : ℕ). slots_of s (firsts y e) p) (sym x) ∙ go (n - i) (λ k a b. h k a (omega arith))
  where
    go : (m : ℕ) → ((k : ℕ) → i ≤ k → k < i + m → (e k).parent ≡ p → ⊥) → slots_of s (firsts (i + m) e) p ≡ slots_of s (firsts i e) p
    go zero h = rw add-zero
    go (suc m) h = rw add-suc (slots_same s p (i + m) e (h (i + m) (omega arith) (omega arith)) ∙ go m (λ k a b. h k a (omega arith)))

-- ---- no child before the level's own entry

module _ (e : ℕ → Entry) (n p : ℕ) (o : Ordered e n) where
  pub child_after : (k : ℕ) → k < n → k < p → (e k).parent ≡ p → ⊥
  child_after k l m z = let x = o.older k l in omega arith

  pub slots_low : (s : List ℕ) (i : ℕ) → i ≤ p → i ≤ n → slots_of s (firsts i e) p ≡ []
  slots_low s zero l m = slots_start s p e
  slots_low s (suc i) l m = slots_same s p i e (child_after i m l) ∙ slots_low s i (omega arith) (omega arith)

-- ---- where a run ends

module _ (e : ℕ → Entry) (n i : ℕ) (o : Ordered e n) where
  -- entry r ends what lies below entry i
  run_at : (r : ℕ) → Below e n (i + 1) r → (r < n → (e r).parent < i + 1) → Run e n (i + 1) r
  run_at r b h = record { below = b; stop = h; over = λ k l m z. o.nested (i + 1) r k b.low l m (h (omega arith)) z }

  -- what lies below entry i has its name in the value
  pub run_split : (r : ℕ) → i < n → Split e (i + 1) n ((e i).value + (e i).size) r → Run e n (i + 1) r
  run_split r l q = run_at r below (λ m. stop m (dec_lt (e r).parent (i + 1)))
    where
      inner : (k : ℕ) → i + 1 ≤ k → k < r → i + 1 ≤ (e k).parent
      inner k a b = go (dec_lt (e k).parent (i + 1))
        where
          go : Dec ((e k).parent < i + 1) → i + 1 ≤ (e k).parent
          go (yes y) = absurd (let x = o.outside i k (omega arith) (omega (arith, q.high)) (omega arith) in let z = q.by k a b in omega arith)
          go (no y) = omega (arith, y)

      below : Below e n (i + 1) r
      below = record { low = q.low; high = q.high; inner = inner }

      stop : r < n → Dec ((e r).parent < i + 1) → (e r).parent < i + 1
      stop m (yes y) = y
      stop m (no y) = absurd (let x = o.inside i r (omega (arith, q.low)) m all in let z = q.behind m in omega arith)
        where
          all : (j : ℕ) → i < j → j ≤ r → i < (e j).parent
          all j a b = go (dec_lt j r)
            where
              go : Dec (j < r) → i < (e j).parent
              go (yes w) = omega (arith, inner j (omega arith) w)
              go (no w) = let z : j ≡ r = omega (arith, w) in rw z (omega (arith, y))

-- none of what lies below an entry from p on is a child of p
pub hop : (e : ℕ → Entry) (n p i j : ℕ) → p ≤ i → Run e n (i + 1) j → (k : ℕ) → i + 1 ≤ k → k < j → (e k).parent ≡ p → ⊥
hop e n p i j l r k a b z = omega (arith, r.below.inner k a b)

-- what lies below an entry of a run lies in the run
pub run_inside : (e : ℕ → Entry) (n p r i j : ℕ) → Run e n p r → p ≤ i → i < r → Run e n (i + 1) j → j ≤ r
run_inside e n p r i j a l m b = go (dec_lt r j)
  where
    go : Dec (r < j) → j ≤ r
    go (yes y) = absurd (let x = a.stop (omega (arith, b.below.high)) in let z = b.below.inner r (omega arith) y in omega arith)
    go (no y) = omega (arith, y)

-- ---- names rise

module _ (e : ℕ → Entry) (n : ℕ) (o : Ordered e n) where
  -- by one entry's name are those before it
  pub by_before : (p i to : ℕ) → i < n → (e i).name ≤ to → (k : ℕ) → p ≤ k → k < i + 1 → (e k).name ≤ to
  by_before p i to l h k a b = go (dec_lt k i)
    where
      go : Dec (k < i) → (e k).name ≤ to
      go (yes y) = let x = o.rising k i y l in omega arith
      go (no y) = let x : k ≡ i = omega (arith, y) in rw x h
