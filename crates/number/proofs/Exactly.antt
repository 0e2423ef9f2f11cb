-- Where the z step is exact: no operation rounds. Assumes nothing.
use mathlib.Core.Path.{◌≡◌, refl, sym, ap, ◌∙◌, subst}
use mathlib.Core.Bool.{Bool, true, false, not, cond, ◌&&◌, true≢false}
use Prim.Native.Nat.{ℕ, suc, ◌+◌, ◌-◌, ◌*◌, ◌^◌, ◌≤◌, ◌<◌}
use native.Mathlib.Nat.{mul_comm, mul_assoc, mul_right_comm, mul-pos, mul-one, mul-mul-mul_comm, zero-mul, add-mul, mul-sub, lt_of_mul-lt-mul_right}
use native.Mathlib.Nat.{le_of_mul-le-mul_right, mul-lt-mul_of_pos_right, mul-le-mul_right, lt_of_lt_of_le, lt_of_le_of_lt, le_trans, le_of_eq}
use native.Mathlib.Omega.{arith}
use borrow.Author.Tests.{ltb-true, ltb-false, le-ltb, ne_eqb}
use lib.Dec.{ltb, eqb, lit<, lit≤}
use lib.IntN.{pos}
use lib.Pow.{pow_pos}
use lib.Ieee.{Float, nan, inf, fin, Format, binary64, prec, emax, low, up, down, odd, units, round, sum, sub, add, neg, div, of_int}
use lib.Ieee.Fits.{down_pos, round_is}
use lib.Ieee.Exact.{HasValue, round_exact}
use lib.Ieee.Back.{round_whole}
use lib.Ieee.Scale.{round_same}
use Rattle.format.specs.Numbers.{magnitude, one_float}
use Rattle.number.specs.Exact.{Units, Double, Exact, apart}
use Rattle.number.proofs.Reading.{odd_clear}

-- ---- the size of what was rounded

units_clear : (f : Format) (s : Bool) (q k : ℕ) → magnitude (units f s q k) ≡ units f false q k
unfolding units magnitude
units_clear f s q k = go (ltb (q * 2 ^ k) (2 ^ (low f + suc (emax f))))
  where
    go : (b : Bool) → magnitude (cond b (odd (suc (prec f)) s q k (low f)) (inf s)) ≡ cond b (odd (suc (prec f)) false q k (low f)) (inf false)
    go true = sym (odd_clear (suc (prec f)) s q k (low f))
    go false = refl

round_clear : (f : Format) (s : Bool) (a c : ℕ) → magnitude (round f s a c) ≡ round f false a c
round_clear f s a c = ap magnitude (round_is f s a c) ∙ units_clear f s _ _ ∙ sym (round_is f false a c)

-- ---- a difference sees only the values: A / C is a / c, and B / C is b / c

taken : (C c A a B b : ℕ) → A * c ≡ a * C → B * c ≡ b * C → (A - B) * c ≡ (a - b) * C
taken C c A a B b p q = mul_comm (A - B) c ∙ mul-sub c A B ∙ go ∙ sym (mul_comm (a - b) C ∙ mul-sub C a b)
  where
    go : c * A - c * B ≡ C * a - C * b
    go = let r = mul_comm A c in let s = mul_comm B c in let t = mul_comm a C in let u = mul_comm b C in omega arith

module _ (f : Format) (A a B b C c : ℕ) (D : 0 < c) (E : 0 < C) (p : A * c ≡ a * C) (q : B * c ≡ b * C) where
  joined : (s : Bool) → magnitude (round f s (A + B) C) ≡ round f false (a + b) c
  joined s =
      round_clear f s (A + B) C
      ∙ round_same f false (A + B) C (a + b) c E D (add-mul A B c ∙ ap (λ (x : ℕ). x + B * c) p ∙ ap (λ (x : ℕ). a * C + x) q ∙ sym (add-mul a b C))

  left : (s t : Bool) (h : ltb A B ≡ t) → magnitude (cond t (round f (not s) (B - A) C) (round f (s && ltb B A) (A - B) C)) ≡ round f false (a - b + (b - a)) c
  left s true h =
      let l : a < b = lt_of_mul-lt-mul_right C (lt_of_le_of_lt (le_of_eq (sym p)) (lt_of_lt_of_le (mul-lt-mul_of_pos_right (ltb-true A B h) D) (le_of_eq q))) in
      let e : b - a ≡ a - b + (b - a) = omega arith in
      round_clear f (not s) (B - A) C ∙ round_same f false (B - A) C (b - a) c E D (taken C c B b A a q p) ∙ ap (λ (x : ℕ). round f false x c) e
  left s false h =
      let l : b ≤ a = le_of_mul-le-mul_right (le_trans (le_of_eq (sym q)) (le_trans (mul-le-mul_right c (ltb-false A B h)) (le_of_eq p))) E in
      let e : a - b ≡ a - b + (b - a) = omega arith in
      round_clear f (s && ltb B A) (A - B) C ∙ round_same f false (A - B) C (a - b) c E D (taken C c A a B b p q) ∙ ap (λ (x : ℕ). round f false x c) e

  lower : b ≤ a → sum f false A true B C ≡ round f false (a - b) c
  unfolding sum
  lower h =
      let l : B ≤ A = le_of_mul-le-mul_right (le_trans (le_of_eq q) (le_trans (mul-le-mul_right C h) (le_of_eq (sym p)))) D in
      ap (λ (t : Bool). cond t (round f true (B - A) C) (round f false (A - B) C)) (le-ltb A B l)
      ∙ round_same f false (A - B) C (a - b) c E D (taken C c A a B b p q)

  sum_size : (s t : Bool) → magnitude (sum f s A (not t) B C) ≡ round f false (apart s a t b) c
  unfolding sum
  sum_size true true = left true (ltb A B) refl
  sum_size true false = joined true
  sum_size false true = joined false
  sum_size false false = left false (ltb A B) refl

cross : (m u w d e : ℕ) → m * u * w ≡ e * d → (v : ℕ) → m * u * v * w ≡ e * (d * v)
cross m u w d e h v = mul_right_comm (m * u) v w ∙ ap (λ (x : ℕ). x * v) h ∙ mul_assoc e d v

difference : (f : Format) (x y : Float) (s t : Bool) (a b c : ℕ) → 0 < c → HasValue x s a c → HasValue y t b c
    → magnitude (sub f x y) ≡ round f false (apart s a t b) c
unfolding sub add neg
difference f nan y s t a b c D h k = absurd h
difference f (inf z) y s t a b c D h k = absurd h
difference f (fin z m e) nan s t a b c D h k = absurd k
difference f (fin z m e) (inf v) s t a b c D h k = absurd k
difference f (fin z m e) (fin v n d) s t a b c D h k =
    sum_size f (m * up e * down d) a (n * up d * down e) b (down e * down d) c D (mul-pos (down_pos e) (down_pos d))
    (cross m (up e) c (down e) a h.1 (down d))
    (cross n (up d) c (down d) b k.1 (down e) ∙ ap (λ (x : ℕ). b * x) (mul_comm (down d) (down e)))
    z v
    ∙ ap (λ (z : Bool). round f false (apart z a v b) c) h.0
    ∙ ap (λ (v : Bool). round f false (apart s a v b) c) k.0

lowered : (f : Format) (x y : Float) (a b c : ℕ) → 0 < c → b ≤ a → HasValue x false a c → HasValue y false b c → sub f x y ≡ round f false (a - b) c
unfolding sub add neg
lowered f nan y a b c D l h k = absurd h
lowered f (inf z) y a b c D l h k = absurd h
lowered f (fin true m e) y a b c D l h k = absurd (true≢false h.0)
lowered f (fin false m e) nan a b c D l h k = absurd k
lowered f (fin false m e) (inf v) a b c D l h k = absurd k
lowered f (fin false m e) (fin true n d) a b c D l h k = absurd (true≢false k.0)
lowered f (fin false m e) (fin false n d) a b c D l h k =
    lower f (m * up e * down d) a (n * up d * down e) b (down e * down d) c D (mul-pos (down_pos e) (down_pos d))
    (cross m (up e) c (down e) a h.1 (down d))
    (cross n (up d) c (down d) b k.1 (down e) ∙ ap (λ (x : ℕ). b * x) (mul_comm (down d) (down e)))
    l

-- ---- a quotient sees only the values

quotient : (f : Format) (x y : Float) (a b c : ℕ) → 0 < c → 0 < b → HasValue x false a c → HasValue y false b 1 → div f x y ≡ round f false a (c * b)
unfolding div
quotient f nan y a b c C B h k = absurd h
quotient f (inf z) y a b c C B h k = absurd h
quotient f (fin true m e) y a b c C B h k = absurd (true≢false h.0)
quotient f (fin false m e) nan a b c C B h k = absurd k
quotient f (fin false m e) (inf v) a b c C B h k = absurd k
quotient f (fin false m e) (fin true n d) a b c C B h k = absurd (true≢false k.0)
quotient f (fin false m e) (fin false n d) a b c C B h k =
    let g : n * up d ≡ b * down d = sym (mul-one (n * up d)) ∙ k.1 in
    let p : 0 < n * up d = subst (λ (x : ℕ). 0 < x) (sym g) (mul-pos B (down_pos d)) in
    ap (λ (t : Bool). cond t (cond (eqb m 0) nan (inf false)) (round f false (m * up e * down d) (n * up d * down e))) (ne_eqb n 0 (no_zero p))
    ∙ round_same f false (m * up e * down d) (n * up d * down e) a (c * b) (mul-pos p (down_pos e)) (mul-pos C B)
    (mul-mul-mul_comm (m * up e) (down d) c b
    ∙ ap (λ (x : ℕ). x * (down d * b)) h.1
    ∙ mul_assoc a (down e) (down d * b)
    ∙ ap (λ (x : ℕ). a * x) (mul_comm (down e) (down d * b) ∙ ap (λ (x : ℕ). x * down e) (mul_comm (down d) b ∙ sym g)))
  where
    no_zero : 0 < n * up d → n ≡ 0 → ⊥
    no_zero p z = let q : n * up d ≡ 0 = ap (λ (x : ℕ). x * up d) z ∙ zero-mul (up d) in omega arith

-- ---- the step

exactly : {n : ℕ} → Double n → Units (round binary64 false n (2 ^ 1074)) false n
exactly {n} d =
    round_exact binary64 false n (2 ^ 1074) d.digits d.zeros (pow_pos 1074) d.few (subst (λ (x : ℕ). x < 2 ^ 2098) d.is d.small)
    (ap (λ (x : ℕ). x * 2 ^ 1074) d.is)

module _ (count : ℕ) (high low : Float) (step : ℕ) (x : Exact count high low step) where
  abbrev d : ℕ
  d = apart x.high_sign x.high_size x.low_sign x.low_size

  distance_is : Units (magnitude (sub binary64 high low)) false d
  distance_is =
      subst (λ (v : Float). Units v false d)
      (sym (difference binary64 high low x.high_sign x.low_sign x.high_size x.low_size (2 ^ 1074) (pow_pos 1074) x.high_is
      x.low_is)) (exactly x.distance)

  gaps_is : HasValue (sub binary64 (of_int binary64 (pos count)) one_float) false (count - 1) 1
  unfolding of_int
  gaps_is =
      subst (λ (v : Float). HasValue v false (count - 1) 1)
      (sym (lowered binary64 (round binary64 false count 1) one_float count 1 1 (lit< tt) (omega (arith, x.many))
      (round_whole binary64 false count x.few) (refl, refl))) (round_whole binary64 false (count - 1) (omega (arith, x.few)))

  pub exact_step : Units (div binary64 (magnitude (sub binary64 high low)) (sub binary64 (of_int binary64 (pos count)) one_float)) false step
  exact_step =
      let g : 0 < count - 1 = omega (arith, x.many) in
      subst (λ (v : Float). Units v false step)
      (sym (quotient binary64 (magnitude (sub binary64 high low)) (sub binary64 (of_int binary64 (pos count)) one_float) d (count - 1) (2 ^ 1074)
      (pow_pos 1074) g distance_is gaps_is
      ∙ round_same binary64 false d (2 ^ 1074 * (count - 1)) step (2 ^ 1074) (mul-pos (pow_pos 1074) g) (pow_pos 1074)
      (ap (λ (z : ℕ). z * 2 ^ 1074) (sym x.divided) ∙ mul_assoc step (count - 1) (2 ^ 1074) ∙ ap (λ (z : ℕ). step * z) (mul_comm (count - 1) (2 ^ 1074)))))
      (exactly x.double)

-- from -10 to 10 in 10 gaps: 2
ten_apart : Exact 11 (fin false 5 (pos 1)) (fin true 5 (pos 1)) (2 * 2 ^ 1074)
ten_apart = record {
  many = lit< tt;
  few = lit≤ tt;
  high_sign = false;
  high_size = 10 * 2 ^ 1074;
  high_is = (refl, refl);
  low_sign = true;
  low_size = 10 * 2 ^ 1074;
  low_is = (refl, refl);
  distance = record { digits = 20; zeros = 1074; is = refl; few = lit< tt; small = lit< tt };
  double = record { digits = 2; zeros = 1074; is = refl; few = lit< tt; small = lit< tt };
  divided = refl;
}
