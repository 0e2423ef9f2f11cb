-- A frame's name is the grammar's, and different frames have different names in the map. Assumes nothing.
use Prim.Native.Nat.{ℕ, zero, suc, ◌+◌, ◌-◌, ◌*◌, ◌/◌, ◌%◌, ◌^◌, ◌≤◌, ◌<◌}
use mathlib.Core.Path.{◌≡◌, refl, sym, ap, ◌∙◌}
use mathlib.Core.Bool.{Bool, true, false, cond}
use mathlib.Core.List.{List, [], ◌∷◌, ◌++◌, append_assoc, append-nil}
use mathlib.Core.Logic.{◌⊎◌, inl, inr}
use native.Mathlib.Nat.{mul-le-mul, pow-succ', pow-le-pow_right, eq-or-lt_of_le}
use native.Mathlib.Omega.{arith}
use lib.Dec.{ltb, eqb}
use lib.ListN.{length, get_or, drop, length-take, length-append, get_or-append}
use lib.Seq.{get_or-append-add}
use borrow.Author.Tests.{ltb-true, ltb-false, lt-ltb, ne_eqb}
use Rattle.format.proofs.Frames.Places.{seq_different}
use Rattle.format.proofs.Frames.Triples.{seq_below}
use Rattle.format.specs.Bytes.{ascii}
use Rattle.format.specs.Loops.{most_count}
use Rattle.format.specs.Summary.{loops_of}
use Rattle.format.specs.Frames.{seq_index, frames, digits_from, decimal, frame_name}
use Rattle.format.specs.Grammar.Chunks.{Begins}
use Rattle.format.specs.Grammar.Frames.{Decimal, digit, digits, FrameName}
use Rattle.format.specs.Grammar.Loops.{Counted}
use Rattle.format.specs.Grammar.Loops.{cons}
use Rattle.format.specs.Refused.Summary.{Sound}
use Rattle.format.specs.Refused.Plane.{Within}
use Rattle.format.specs.declared.Loop.{Loop}
use Rattle.format.specs.declared.Summary.{Summary}

-- ---- decimal digits

-- the number that decimal digits stand for, after a
unfoldable pub number : ℕ → List ℕ → ℕ
number a [] = a
number a (c ∷ cs) = number (a * 10 + (c - 48)) cs

pub decimal_number : {n : ℕ} {ds : List ℕ} → Decimal n ds → (t : List ℕ) → number 0 (ds ++ t) ≡ number n t
unfolding number
decimal_number (digit {n} h) t = let k : 0 * 10 + (48 + n - 48) ≡ n = omega arith in ap (λ (x : ℕ). number x t) k
decimal_number (digits {n} {d} {ds} h r l) t =
    let k : n * 10 + (48 + d - 48) ≡ n * 10 + d = omega arith in
    rw append_assoc (decimal_number r ((48 + d) ∷ t) ∙ ap (λ (x : ℕ). number x t) k)

pub number_grows : (a : ℕ) (cs : List ℕ) → a ≤ number a cs
unfolding number
number_grows a [] = omega arith
number_grows a (c ∷ cs) = let h = number_grows (a * 10 + (c - 48)) cs in omega arith

-- every digit is '0' to '9'
pub digit_range : {n : ℕ} {ds : List ℕ} → Decimal n ds → (i : ℕ) → i < length ds → (48 ≤ get_or ds i 0) × (get_or ds i 0 ≤ 57)
digit_range (digit {n} h) i l = let e : i ≡ 0 = omega arith in rw e (omega arith, omega arith)
digit_range (digits {n} {d} {ds} h r small) i l =
    let m : i < length ds + 1 = rw length-append at l in
    let n : i ≤ length ds = omega arith in
    by (eq-or-lt_of_le n) (λ m. digit_range r i m)
  where
    by : (i ≡ length ds) ⊎ (i < length ds) → (i < length ds → (48 ≤ get_or ds i 0) × (get_or ds i 0 ≤ 57))
        → (48 ≤ get_or (ds ++ (48 + d) ∷ []) i 0) × (get_or (ds ++ (48 + d) ∷ []) i 0 ≤ 57)
    by (inl e) f =
        let k : i ≡ length ds + 0 = omega arith in
        rw (k, get_or-append-add ds ((48 + d) ∷ []) 0 0) (omega arith, omega (arith, small))
    by (inr m) f = rw (get_or-append ds ((48 + d) ∷ []) 0 i m) (f m)

-- a number has one spelling
same_digits : {n m : ℕ} {ds es : List ℕ} → Decimal n ds → Decimal m es → n ≡ m → ds ≡ es
same_digits (digit h) (digit k) e = rw e refl
same_digits (digit h) (digits {n = m} k r l) e = absurd (omega arith)
same_digits (digits {n} k r l) (digit h) e = absurd (omega arith)
same_digits (digits {n} {d} h r l) (digits {n = m} {d = c} k q j) e =
    let e₁ : n ≡ m = omega arith in
    let e₂ : d ≡ c = omega arith in
    rw (same_digits r q e₁, e₂) refl

-- n's digits with those of r behind them
abbrev Spelled : ℕ → List ℕ → List ℕ → Type 0
Spelled n r out = (ds : List ℕ) × Decimal n ds × (out ≡ ds ++ r)

digits_decimal : (fuel n : ℕ) (r : List ℕ) → n < 10 ^ suc fuel → Spelled n r (digits_from (suc fuel) n r)
unfolding digits_from
digits_decimal zero n r h = let l : n < 10 = omega arith in rw (lt-ltb n 10 l) ((48 + n) ∷ [], digit l, refl)
digits_decimal (suc fuel) n r h = go (ltb n 10) refl (digits_decimal fuel (n / 10) ((48 + n % 10) ∷ r) shorter)
  where
    shorter : n / 10 < 10 ^ suc fuel
    shorter = let k : 10 ^ suc (suc fuel) ≡ 10 * 10 ^ suc fuel = omega arith in omega arith

    last : (ds : List ℕ) → 10 ≤ n → Decimal (n / 10) ds → Decimal n (ds ++ (48 + n % 10) ∷ [])
    last ds h d = let k : n / 10 * 10 + n % 10 ≡ n = omega arith in rw k at (digits {n = n / 10} {d = n % 10} (omega arith) d (omega arith))

    go : (b : Bool) → ltb n 10 ≡ b → Spelled (n / 10) ((48 + n % 10) ∷ r) (digits_from (suc fuel) (n / 10) ((48 + n % 10) ∷ r))
        → Spelled n r (cond b ((48 + n) ∷ r) (digits_from (suc fuel) (n / 10) ((48 + n % 10) ∷ r)))
    go true q x = ((48 + n) ∷ [], digit (ltb-true _ _ q), refl)
    go false q (ds, d, e) = (ds ++ (48 + n % 10) ∷ [], last ds (ltb-false _ _ q) d, e ∙ sym (append_assoc ds ((48 + n % 10) ∷ []) r))

decimal_of : (n : ℕ) → n < 10 ^ 20 → Decimal n (decimal n)
unfolding decimal
decimal_of n h = let (ds, d, e) = digits_decimal 19 n [] h in rw (e ∙ append-nil ds) d

-- ---- names

-- the name that is looked for is the grammar's
pub frame_name_is : (n : ℕ) → n < 10 ^ 20 → FrameName n (frame_name n)
unfolding frame_name
frame_name_is n h = record { number = decimal n; decimal = decimal_of n h; spelled = append_assoc (ascii "ImageDataSeq|") (decimal n) (ascii "!") }

-- a frame has one name
pub frame_name_unique : {n : ℕ} {a b : List ℕ} → FrameName n a → FrameName n b → a ≡ b
frame_name_unique x y = rw (x.spelled, y.spelled, same_digits x.decimal y.decimal refl) refl

-- and a name one frame
pub frame_number_unique : {n m : ℕ} {a : List ℕ} → FrameName n a → FrameName m a → n ≡ m
unfolding number ascii
frame_number_unique {n} {m} x y =
    let q : x.number ++ (33 ∷ []) ≡ y.number ++ (33 ∷ []) = ap (drop 13) (sym x.spelled ∙ y.spelled) in
    let k : n * 10 + (33 - 48) ≡ m * 10 + (33 - 48) = sym (decimal_number x.decimal (33 ∷ [])) ∙ (ap (number 0) q ∙ decimal_number y.decimal (33 ∷ [])) in
    omega arith

-- what stands before a list's first '!'
unfoldable before_mark : List ℕ → List ℕ
before_mark [] = []
before_mark (b ∷ bs) = cond (eqb b 33) [] (b ∷ before_mark bs)

before_digits : (ds r : List ℕ) → ((i : ℕ) → i < length ds → 48 ≤ get_or ds i 0) → before_mark (ds ++ 33 ∷ r) ≡ ds
unfolding before_mark
before_digits [] r f = refl
before_digits (d ∷ ds) r f =
    let h : 48 ≤ d = f 0 (omega arith) in
    rw (ne_eqb d 33 (λ e. omega arith)) (ap (λ (l : List ℕ). d ∷ l) (before_digits ds r λ i l. f (suc i) (omega arith)))

-- a chunk's name begins with the name of one frame alone
pub begins_once : {n m : ℕ} {a b x : List ℕ} → FrameName n a → FrameName m b → Begins a x → Begins b x → n ≡ m
unfolding number ascii
begins_once {n} {m} x y p q =
    let k : x.number ≡ y.number = sym (behind x p) ∙ behind y q in
    sym (decimal_number x.decimal []) ∙ ap (λ (l : List ℕ). number 0 (l ++ [])) k ∙ decimal_number y.decimal []
  where
    behind : {n : ℕ} {a x : List ℕ} (f : FrameName n a) → Begins a x → before_mark (drop 13 x) ≡ f.number
    behind f g =
        rw (g.joined, f.spelled, append_assoc) (before_digits f.number g.rest λ i l. (digit_range f.decimal i l).0)

pub name_different : (n m : ℕ) → n < 10 ^ 20 → m < 10 ^ 20 → frame_name n ≡ frame_name m → n ≡ m
name_different n m hn hm e = frame_number_unique (frame_name_is n hn) (rw e (frame_name_is m hm))

-- ---- frame numbers have at most 18 digits

frames_bound : (ls : List Loop) → Counted ls → frames ls ≤ most_count ^ length ls
unfolding frames
frames_bound [] c = omega arith
frames_bound (l ∷ ls) (cons h k c) =
    let r : l.count * frames ls ≤ most_count * most_count ^ length ls = mul-le-mul k (frames_bound ls c) in
    rw (pow-succ') r

-- three loops make at most 10^18 frames
pub frames_most : (ls : List Loop) → Counted ls → length ls ≤ 3 → frames ls ≤ most_count ^ 3
frames_most ls c h =
    let f = frames_bound ls c in
    let p : most_count ^ length ls ≤ most_count ^ 3 = pow-le-pow_right (omega arith) h in
    omega arith

pub frames_digits : (s : List ℕ) (u : Summary) → Sound s u → frames (loops_of u) < 10 ^ 20
frames_digits s u g =
    let ls = loops_of u in
    let l : length ls ≤ 3 = let m = g.loops_most in rw length-take (omega arith) in
    let f = frames_most ls g.loops_counted l in
    omega arith

pub seq_digits : (s : List ℕ) (u : Summary) (scene t z : ℕ) → Sound s u → Within (loops_of u) scene t z → seq_index (loops_of u) scene t z < 10 ^ 20
seq_digits s u scene t z g w =
    let b = seq_below (loops_of u) scene t z g.loops_distinct w in
    let f = frames_digits s u g in
    omega arith

-- Under a summary that passes the test 20, different triples in range have frames of different names.
pub frame_different : (s : List ℕ) (u : Summary) (scene t z scene' t' z' : ℕ) → Sound s u → Within (loops_of u) scene t z → Within (loops_of u) scene' t' z'
    → frame_name (seq_index (loops_of u) scene t z) ≡ frame_name (seq_index (loops_of u) scene' t' z') → (scene ≡ scene') × (t ≡ t') × (z ≡ z')
frame_different s u scene t z scene' t' z' g w w' e =
    seq_different (loops_of u) scene t z scene' t' z' g.loops_distinct w w'
    (name_different _ _ (seq_digits s u scene t z g w) (seq_digits s u scene' t' z' g w') e)
