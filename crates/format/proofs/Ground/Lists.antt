-- Laws of the lists of which the grammar's rules speak: two lists of just the same numbers are equal. Assumes nothing.
use Prim.Native.Nat.{ℕ, zero, suc, ◌≤◌, ◌<◌}
use mathlib.Core.Path.{◌≡◌, refl, sym, ap₂}
use mathlib.Core.List.{List, [], ◌∷◌, ◌++◌, map}
use mathlib.Core.Logic.{◌⊎◌, inl, inr, ⊎_elim}
use native.Mathlib.Omega.{arith}
use lib.ListN.{take}
use Rattle.format.specs.Grammar.Lists.{All, over, more, In, here, behind, Rising, none, one, step, Just}

-- ---- All

pub all_append : (P : ℕ → Type 0) (is js : List ℕ) → All P is → All P js → All P (is ++ js)
all_append P [] js a b = b
all_append P (i ∷ is) js (more h a) b = more h (all_append P is js a b)

pub all_map : (P Q : ℕ → Type 0) → ((i : ℕ) → P i → Q i) → (is : List ℕ) → All P is → All Q is
all_map P Q f [] over = over
all_map P Q f (i ∷ is) (more h a) = more (f i h) (all_map P Q f is a)

pub all_rest : {P : ℕ → Type 0} {i : ℕ} {is : List ℕ} → All P (i ∷ is) → All P is
all_rest (more h a) = a

pub all_take : (P : ℕ → Type 0) (n : ℕ) (l : List ℕ) → All P l → All P (take n l)
all_take P zero l a = over
all_take P (suc n) [] a = over
all_take P (suc n) (i ∷ l) (more h a) = more h (all_take P n l a)

pub all_in : {P : ℕ → Type 0} {j : ℕ} {is : List ℕ} → In j is → All P is → P j
all_in here (more h a) = h
all_in (behind x) (more h a) = all_in x a

-- ---- In

in_empty : {j : ℕ} → In j [] → ⊥
in_empty = elim [ ]

in_cons : {j i : ℕ} {is : List ℕ} → In j (i ∷ is) → (j ≡ i) ⊎ In j is
in_cons here = inl refl
in_cons (behind x) = inr x

pub in_left : {A : Type 0} {j : A} {is : List A} (js : List A) → In j is → In j (is ++ js)
in_left js here = here
in_left js (behind x) = behind (in_left js x)

pub in_right : {A : Type 0} {j : A} (is : List A) {js : List A} → In j js → In j (is ++ js)
in_right [] x = x
in_right (i ∷ is) x = behind (in_right is x)

pub in_map : {A B : Type 0} (f : A → B) {j : A} {is : List A} → In j is → In (f j) (map f is)
in_map f here = here
in_map f (behind x) = behind (in_map f x)

pub in_last : (j : ℕ) (is : List ℕ) → In j (is ++ j ∷ [])
in_last j [] = here
in_last j (i ∷ is) = behind (in_last j is)

-- ---- Rising

pub rising_rest : {i : ℕ} {is : List ℕ} → Rising (i ∷ is) → Rising is
rising_rest one = none
rising_rest (step h r) = r

-- the first of them is below the others
pub rising_above : (i : ℕ) (is : List ℕ) → Rising (i ∷ is) → All (λ j. i < j) is
rising_above i [] r = over
rising_above i (j ∷ js) (step h r) = more h (all_map (λ k. j < k) (λ k. i < k) (λ k l. omega arith) js (rising_above j js r))

pub rising_least : {i j : ℕ} {is : List ℕ} → Rising (i ∷ is) → In j (i ∷ is) → i ≤ j
rising_least {i} {j} {is} r x = ⊎_elim (λ (q : j ≡ i). omega arith) (λ y. let h : i < j = all_in y (rising_above i is r) in omega arith) (in_cons x)

pub rising_append : (i : ℕ) (is : List ℕ) → Rising is → All (λ j. j < i) is → Rising (is ++ i ∷ [])
rising_append i [] r over = one
rising_append i (j ∷ []) r (more h a) = step h one
rising_append i (j ∷ k ∷ js) (step l r) (more h a) = step l (rising_append i (k ∷ js) r a)

-- ---- Just

pub just_first : {P : ℕ → Type 0} {j : ℕ} {js : List ℕ} → Just P (j ∷ js) → P j
just_first a = all_in here a.each

-- of two rising lists with the same first number, the rest of one is in the rest of the other
rest_in : (i : ℕ) (is js : List ℕ) → Rising (i ∷ is) → ((k : ℕ) → In k (i ∷ is) → In k (i ∷ js)) → (k : ℕ) → In k is → In k js
rest_in i is js r f k x =
    let h : i < k = all_in x (rising_above i is r) in
    ⊎_elim (λ (q : k ≡ i). absurd (omega arith)) (λ y. y) (in_cons (f k (behind x)))

rising_unique : (is js : List ℕ) → Rising is → Rising js → ((k : ℕ) → In k is → In k js) → ((k : ℕ) → In k js → In k is) → is ≡ js
rising_unique [] [] r t f g = refl
rising_unique [] (j ∷ js) r t f g = absurd (in_empty (g j here))
rising_unique (i ∷ is) [] r t f g = absurd (in_empty (f i here))
rising_unique (i ∷ is) (j ∷ js) r t f g =
    let a = rising_least r (g j here) in
    let b = rising_least t (f i here) in
    let q : j ≡ i = omega arith in
    let rest = rising_unique is js (rising_rest r) (rising_rest t) (rest_in i is js r (rw q at f)) (rest_in i js is (rw q at t) (rw q at g)) in
    ap₂ ◌∷◌ (sym q) rest

pub just_unique : {P : ℕ → Type 0} {is js : List ℕ} → Just P is → Just P js → is ≡ js
just_unique {P} {is} {js} a b =
    rising_unique is js a.rising b.rising (λ k x. b.every k (all_in x a.each)) (λ k x. a.every k (all_in x b.each))
