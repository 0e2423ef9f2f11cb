-- A size in picometres, by its value and by the rules: what a tree states is taken as it is stored. Assumes nothing.
use Prim.Native.Nat.{ℕ, zero, suc, ◌+◌, ◌*◌, ◌^◌, ◌≤◌, ◌<◌}
use mathlib.Core.Path.{◌≡◌, refl, sym, ap, ◌∙◌, subst}
use mathlib.Core.Logic.{◌⊎◌, inl, inr, ◌↔◌}
use mathlib.Core.Bool.{Bool, true, false, cond, true≢false, false≢true}
use mathlib.Core.Option.{Option, none, some}
use mathlib.Core.List.{[], ◌∷◌}
use native.Mathlib.Nat.{le_trans, le_of_eq, le_antisymm, zero-mul, mul-one, mul_right_comm, mul-le-mul_right, mul-pos, eq_of_mul-eq-mul_right}
use native.Mathlib.Omega.{arith}
use borrow.Author.Tests.{ltb-true, leb-true, leb-false, lt-ltb}
use lib.Dec.{T, ltb, leb, ltb→lt, lit<, lit≤}
use lib.IntN.{ℤ, pos, negsuc}
use lib.Ieee.{Float, nan, inf, fin, Format, binary64, prec, emax, low, up, down, size, odd, units, round, of_int, of_bits, lt, le}
use lib.Ieee.Fits.{up_pos, down_pos, round_is}
use lib.Ieee.Exact.{HasValue}
use lib.Ieee.Back.{round_whole}
use lib.Ieee.Order.{transfer, round_mono}
use lib.Ieee.Positive as ieee
use lib.Ieee.Nearest.{closest, closest_same, closest_mono}
use Rattle.format.proofs.Ground.Answers.{none≢some}
use Rattle.format.proofs.Ground.Agreement.{cond_some, only_one}
use Rattle.format.proofs.Numbers.Wholes.{u64_in, below_u64, no_u64, number_in}
use Rattle.format.proofs.Numbers.Closest.{closest_rounds, rounds_only, rounds_mono, rounds_whole}
use Rattle.format.specs.Values.{Value, flag, whole, double, text, bytes, level, list}
use Rattle.format.specs.Numbers.{in_u64, float, positive, zero_float}
use Rattle.format.specs.Calibration.{above_zero}
use Rattle.format.specs.Picometres.{picometres}
use Rattle.format.specs.Grammar.Numbers.{Equals, plus, minus_zero, Number, unset, set, stored, of_double}
use Rattle.format.specs.Grammar.Lists.{All, over, more}
use Rattle.format.specs.Grammar.Picometres as rules
use Rattle.format.specs.Grammar.Picometres.{Rounds, Positive, whole_number_is, Endless, plus_infinity, AboveZero, finite, infinite, InPicometres}

-- ---- by its value

-- whatever fraction it is written as
pub picometres_at : (x : Float) (s : Bool) (a c : ℕ) → 0 < c → HasValue x s a c → picometres x ≡ in_u64 (pos (closest (a * 1_000_000) c))
unfolding picometres
picometres_at nan s a c C h = absurd h
picometres_at (inf t) s a c C h = absurd h
picometres_at (fin t m e) s a c C h =
    ap (λ (n : ℕ). in_u64 (pos n))
    (closest_same (m * up e * 1_000_000) (down e) (a * 1_000_000) c (down_pos e) C
    (mul_right_comm (m * up e) 1_000_000 c ∙ ap (λ (n : ℕ). n * 1_000_000) h.1 ∙ mul_right_comm a (down e) 1_000_000))

-- the order stays
times_million : (a b c d : ℕ) → a * d ≤ c * b → a * 1_000_000 * d ≤ c * 1_000_000 * b
times_million a b c d h =
    le_trans (le_of_eq (mul_right_comm a 1_000_000 d)) (le_trans (mul-le-mul_right 1_000_000 h) (le_of_eq (mul_right_comm c b 1_000_000)))

-- ---- above 0

-- a double whose size is above 0 and that has no minus
above_is : (x : Float) (a c : ℕ) → 0 < c → 0 < a → HasValue x false a c → positive x ≡ true
unfolding positive lt
above_is nan a c C A h = absurd h
above_is (inf t) a c C A h = absurd h
above_is (fin true m e) a c C A h = absurd (true≢false h.0)
above_is (fin false m e) a c C A h =
    rw (zero-mul (down e), mul-one (m * up e))
    (lt-ltb 0 (m * up e) (ieee.first_pos (m * up e) c (subst (λ (z : ℕ). 0 < z) (sym h.1) (mul-pos A (down_pos e)))))

-- and one that is above 0 is infinite, or has such a size
is_above : (x : Float) → positive x ≡ true → (x ≡ inf false) ⊎ ((a : ℕ) × (c : ℕ) × (0 < c) × (0 < a) × HasValue x false a c)
unfolding positive lt
is_above nan h = absurd (false≢true h)
is_above (inf true) h = absurd (false≢true h)
is_above (inf false) h = inl refl
is_above (fin true m e) h = absurd (false≢true h)
is_above (fin false m e) h =
    inr (m * up e, down e, down_pos e, ltb-true 0 (m * up e) (rw (zero-mul (down e), mul-one (m * up e)) at h), (refl, refl))

-- what is rounded with a minus is not above 0
minus_not_above : (f : Format) (q k : ℕ) → lt zero_float (units f true q k) ≡ false
unfolding units lt
minus_not_above f q k = go (ltb (q * 2 ^ k) (2 ^ (low f + suc (emax f)))) q
  where
    go : (b : Bool) (q : ℕ) → lt zero_float (cond b (odd (suc (prec f)) true q k (low f)) (inf true)) ≡ false
    go false q = refl
    go true zero = unfold odd in refl
    go true (suc q) = unfold odd in refl

rounded_minus : (n : ℕ) → lt zero_float (round binary64 true (suc n) 1) ≡ false
rounded_minus n = ap (lt zero_float) (round_is binary64 true (suc n) 1) ∙ minus_not_above binary64 _ _

-- ---- a whole number, exact or rounded to a double first

-- 2^53 micrometres have more picometres than a u64 holds
far : 2 ^ 64 ≤ closest (2 ^ 53 * 1_000_000) 1
far = lit≤ tt

-- a double that is no smaller
large_size : (y : Float) → T (le (round binary64 false (2 ^ 53) 1) y) → (positive y ≡ true) × (picometres y ≡ none)
large_size y l = go y (ieee.above_of_le from y from_above l) l
  where
    from : Float
    from = round binary64 false (2 ^ 53) 1

    from_is : HasValue from false (2 ^ 53) 1
    from_is = round_whole binary64 false (2 ^ 53) (lit≤ tt)

    from_above : T (ieee.positive from)
    from_above = ieee.positive_of_value from (2 ^ 53) 1 from_is (lit< tt)

    go : (y : Float) → T (ieee.above y) → T (le from y) → (positive y ≡ true) × (picometres y ≡ none)
    go nan a l = absurd a
    go (inf true) a l = absurd a
    go (inf false) a l = unfold positive lt picometres in (refl, refl)
    go (fin true m e) a l = absurd a
    go (fin false m e) a l =
        let h = ieee.values_of_le from (fin false m e) (2 ^ 53) 1 (m * up e) (down e) from_above a from_is (refl, refl) l in
        let k = times_million (2 ^ 53) 1 (m * up e) (down e) h in (
          above_is (fin false m e) (m * up e) (down e) (down_pos e) (mul-pos (ltb→lt 0 m a) (up_pos e)) (refl, refl),
          picometres_at (fin false m e) false (m * up e) (down e) (down_pos e) (refl, refl)
              ∙ no_u64 _ (le_trans far (closest_mono (2 ^ 53 * 1_000_000) 1 (m * up e * 1_000_000) (down e) (lit< tt) (down_pos e) k)),
        )

pub stored_size : (n : ℕ) → 0 < n
    → (positive (of_int binary64 (pos n)) ≡ true) × (picometres (of_int binary64 (pos n)) ≡ in_u64 (pos (closest (n * 1_000_000) 1)))
unfolding of_int
stored_size n N = go (leb n (2 ^ 53)) refl
  where
    go : (b : Bool) → leb n (2 ^ 53) ≡ b
        → (positive (round binary64 false n 1) ≡ true) × (picometres (round binary64 false n 1) ≡ in_u64 (pos (closest (n * 1_000_000) 1)))
    go true h =
        let v = round_whole binary64 false n (leb-true n (2 ^ 53) h) in
        (above_is _ n 1 (lit< tt) N v, picometres_at _ false n 1 (lit< tt) v)
    go false h =
        let l = leb-false n (2 ^ 53) h in
        let (p, q) = large_size (round binary64 false n 1) (round_mono binary64 (2 ^ 53) 1 n 1 (lit< tt) (lit< tt) (omega arith)) in
        (p, q ∙ sym (no_u64 _ (le_trans far (closest_mono (2 ^ 53 * 1_000_000) 1 (n * 1_000_000) 1 (lit< tt) (lit< tt) (omega arith)))))

-- ---- by the rules

pub unit_some : {v : Value} {a c : ℕ} → Positive v a c → 0 < c
unit_some (whole_number_is h k) = lit< tt
unit_some (rules.of_double m k) = m.unit_some

-- a size has its picometres
pub in_picometres : {v : Value} {a c : ℕ} → Positive v a c → InPicometres v (closest (a * 1_000_000) c)
in_picometres {a = a} {c = c} p = record { size = a; unit = c; above_0 = p; rounds = closest_rounds (a * 1_000_000) c (unit_some p) }

-- a value that is read as a double above 0
abbrev pub size_of : Value → Option Float
size_of v = above_zero (float v)

module _ (v : Value) where
  -- What is above 0 by the rules is read as a double above 0, whose picometres are the rules', where a u64 holds them.
  pub size_read : (n : ℕ) → InPicometres v n → (x : Float) × (size_of v ≡ some x) × (picometres x ≡ in_u64 (pos n))
  size_read n r = rw (rounds_only _ _ (unit_some r.above_0) n _ r.rounds (closest_rounds _ _ (unit_some r.above_0))) (by v r.above_0)
    where
      measured : (x : Float) (a c : ℕ) → 0 < c → 0 < a → HasValue x false a c
          → (y : Float) × (size_of (double x) ≡ some y) × (picometres y ≡ in_u64 (pos (closest (a * 1_000_000) c)))
      measured x a c C A h = unfold above_zero float in (x, rw (above_is x a c C A h) refl, picometres_at x false a c C h)

      numbered : (v : Value) (n : ℕ) → Number v (pos n) → 0 < n
          → (y : Float) × (size_of v ≡ some y) × (picometres y ≡ in_u64 (pos (closest (n * 1_000_000) 1)))
      numbered v n unset N = elim N [ ]
      numbered v n set N = unfold above_zero float in let (p, q) = stored_size 1 N in (of_int binary64 (pos 1), rw p refl, q)
      numbered v n stored N = unfold above_zero float in let (p, q) = stored_size n N in (of_int binary64 (pos n), rw p refl, q)
      numbered v n (of_double (plus h)) N = measured _ n 1 (lit< tt) N h
      numbered v n (of_double (minus_zero h)) N = absurd (omega arith)

      by : {a c : ℕ} (v : Value) → Positive v a c → (x : Float) × (size_of v ≡ some x) × (picometres x ≡ in_u64 (pos (closest (a * 1_000_000) c)))
      by v (whole_number_is h k) = numbered v _ h k
      by v (rules.of_double m k) = measured _ _ _ m.unit_some k m.value

  -- And what is read as one is infinite, or is above 0 by the rules, with the picometres of the rules.
  pub read_size : (x : Float) → size_of v ≡ some x → (Endless v × (picometres x ≡ none)) ⊎ ((n : ℕ) × InPicometres v n × (picometres x ≡ in_u64 (pos n)))
  unfolding above_zero float
  read_size x e = by v e
    where
      -- a size a / c
      sized : (v : Value) (a c : ℕ) → Positive v a c → picometres x ≡ in_u64 (pos (closest (a * 1_000_000) c))
          → (Endless v × (picometres x ≡ none)) ⊎ ((n : ℕ) × InPicometres v n × (picometres x ≡ in_u64 (pos n)))
      sized v a c p q = inr (closest (a * 1_000_000) c, in_picometres p, q)

      numbered : (v : Value) (n : ℕ) → Number v (pos n) → cond (positive (of_int binary64 (pos n))) (some (of_int binary64 (pos n))) none ≡ some x
          → (Endless v × (picometres x ≡ none)) ⊎ ((n : ℕ) × InPicometres v n × (picometres x ≡ in_u64 (pos n)))
      numbered v zero h e = absurd (none≢some (sym zero_not ∙ e))
        where
          zero_not : cond (positive (of_int binary64 (pos 0))) (some (of_int binary64 (pos 0))) none ≡ none
          zero_not = unfold positive lt of_int round in refl
      numbered v (suc n) h e =
          let (p, q) = stored_size (suc n) (omega arith) in
          sized v (suc n) 1 (whole_number_is h (omega arith)) (rw (sym (cond_some (positive (of_int binary64 (pos (suc n)))) _ x e).1) q)

      by : (v : Value) → above_zero (float v) ≡ some x → (Endless v × (picometres x ≡ none)) ⊎ ((n : ℕ) × InPicometres v n × (picometres x ≡ in_u64 (pos n)))
      by (flag false) e = numbered (flag false) 0 unset e
      by (flag true) e = numbered (flag true) 1 set e
      by (whole (pos n)) e = numbered (whole (pos n)) n stored e
      by (whole (negsuc n)) e = absurd (false≢true (sym minus ∙ (cond_some (positive (of_int binary64 (negsuc n))) _ x e).0))
        where
          minus : positive (of_int binary64 (negsuc n)) ≡ false
          minus = unfold positive of_int in rounded_minus n
      by (double y) e =
          let (t, q) = cond_some (positive y) y x e in
          elim (is_above y t) [
            | inl i ↦ inl (rw i plus_infinity, unfold picometres in rw (← q, i) refl)
            | inr (a, c, C, A, h) ↦
                sized (double y) a c (rules.of_double (record { unit_some = C; value = h }) A) (rw (← q) (picometres_at y false a c C h))
          ]
      by (text i n) e = absurd (none≢some e)
      by (bytes i n) e = absurd (none≢some e)
      by (level i) e = absurd (none≢some e)
      by (list l) e = absurd (none≢some e)

  -- Plus infinity is read as one.
  pub endless_read : Endless v → (x : Float) × (size_of v ≡ some x) × (picometres x ≡ none)
  unfolding above_zero float positive lt picometres
  endless_read e = go v e
    where
      go : (v : Value) → Endless v → (x : Float) × (size_of v ≡ some x) × (picometres x ≡ none)
      go v plus_infinity = (inf false, refl, refl)

  -- What is above 0 by the rules is what is read as such a double.
  pub above_read : AboveZero v → (x : Float) × (size_of v ≡ some x)
  above_read (finite p) = let (x, e, q) = size_read _ (in_picometres p) in (x, e)
  above_read (infinite i) = let (x, e, q) = endless_read i in (x, e)

  pub read_above : (x : Float) → size_of v ≡ some x → AboveZero v
  read_above x e = elim (read_size x e) [
    | inl i ↦ infinite i.0
    | inr (n, r, q) ↦ finite r.above_0
  ]

-- ---- two sizes

-- a double is one fraction, however written
cross : (x : Float) (a c b d : ℕ) → HasValue x false a c → HasValue x false b d → a * d ≡ b * c
cross nan a c b d h k = absurd h
cross (inf t) a c b d h k = absurd h
cross (fin t m e) a c b d h k =
    eq_of_mul-eq-mul_right (down e) (down_pos e) (a * d) (b * c)
    (mul_right_comm a d (down e)
    ∙ ap (λ (z : ℕ). z * d) (sym h.1)
    ∙ mul_right_comm (m * up e) c d
    ∙ ap (λ (z : ℕ). z * c) k.1
    ∙ mul_right_comm b (down e) c)

over_one : (x : Float) (n : ℕ) → Equals x (pos n) → 0 < n → HasValue x false n 1
over_one x n (plus h) N = h
over_one x n (minus_zero h) N = absurd (omega arith)

pub pos_inj : {n m : ℕ} → pos n ≡ pos m → n ≡ m
pos_inj e = cc

-- and so is a value
pub one_fraction : (v : Value) (a c b d : ℕ) → Positive v a c → Positive v b d → a * d ≡ b * c
one_fraction v a c b d (whole_number_is h p) (whole_number_is k q) = ap (λ (z : ℕ). z * 1) (pos_inj (only_one (number_in v) (pos a) (pos b) h k))
one_fraction v a c b d (whole_number_is (of_double {x = x} h) p) (rules.of_double m q) = cross x a 1 b d (over_one x a h p) m.value
one_fraction v a c b d (rules.of_double m p) (whole_number_is (of_double {x = x} h) q) = cross x a c b 1 m.value (over_one x b h q)
one_fraction v a c b d (rules.of_double {x = x} m p) (rules.of_double k q) = cross x a c b d m.value k.value

-- A size that is no smaller has no fewer picometres.
pub size_mono : {v w : Value} {a b c d n m : ℕ} → Positive v a b → Positive w c d → a * d ≤ c * b → InPicometres v n → InPicometres w m → n ≤ m
size_mono {v} {w} {a} {b} {c} {d} {n} {m} p q h x y =
    rounds_mono (x.size * 1_000_000) x.unit (y.size * 1_000_000) y.unit n m (unit_some x.above_0) (unit_some y.above_0)
    (times_million x.size x.unit y.size y.unit
    (transfer x.size y.size x.unit y.unit a c b d (unit_some p) (unit_some q) (one_fraction v _ _ _ _ x.above_0 p)
    (one_fraction w _ _ _ _ y.above_0 q) h))
    x.rounds y.rounds

-- A size has one number of picometres.
pub in_picometres_once : {v : Value} {n m : ℕ} → InPicometres v n → InPicometres v m → n ≡ m
in_picometres_once x y =
    le_antisymm (size_mono x.above_0 x.above_0 (le_of_eq refl) x y) (size_mono x.above_0 x.above_0 (le_of_eq refl) y x)

-- ---- a double m × 2^e

pub double_size : (m : ℕ) (e : ℤ) (n : ℕ) → Rounds (m * up e * 1_000_000) (down e) n → picometres (fin false m e) ≡ in_u64 (pos n)
unfolding picometres
double_size m e n r = ap (λ (z : ℕ). in_u64 (pos z)) (rounds_only (m * up e * 1_000_000) (down e) (down_pos e) _ n (closest_rounds _ _ (down_pos e)) r)

pub rounded : (m : ℕ) (e : ℤ) (n : ℕ) → picometres (fin false m e) ≡ some n → Rounds (m * up e * 1_000_000) (down e) n
unfolding picometres
rounded m e n q =
    let e₂ = pos_inj ((u64_in (pos (closest (m * up e * 1_000_000) (down e)))).holds n q).0 in
    rw e₂ at (closest_rounds (m * up e * 1_000_000) (down e) (down_pos e))

-- ---- a value of any kind

pub size_is : (v : Value) (n : ℕ) → (InPicometres v n × (n < 2 ^ 64)) ↔ ((x : Float) × (size_of v ≡ some x) × (picometres x ≡ some n))
size_is v n = (
  λ (r, h). let (x, e, q) = size_read v n r in (x, e, q ∙ below_u64 n h),
  λ (x, e, q). go x q (read_size v x e),
)
  where
    go : (x : Float) → picometres x ≡ some n → (Endless v × (picometres x ≡ none)) ⊎ ((n : ℕ) × InPicometres v n × (picometres x ≡ in_u64 (pos n)))
        → InPicometres v n × (n < 2 ^ 64)
    go x q (inl (i, p)) = absurd (none≢some (sym p ∙ q))
    go x q (inr (m, r, p)) = let (e, h) = (u64_in (pos m)).holds n (sym p ∙ q) in (rw (pos_inj e) at r, h)

-- a whole number of picometres
pub exact_size : (v : Value) (size unit n : ℕ) → Positive v size unit → size * 1_000_000 ≡ n * unit → InPicometres v n
exact_size v size unit n p e = record { size = size; unit = unit; above_0 = p; rounds = rw e (rounds_whole n unit (unit_some p)) }

-- ---- above 0 or not, by the bits of a double

no_size : (x : Float) → size_of (double x) ≡ none → AboveZero (double x) → ⊥
no_size x e a = let (y, f) = above_read (double x) a in none≢some (sym e ∙ f)

pub not_above : All (λ bits. AboveZero (double (of_bits binary64 bits)) → ⊥)
    (0x7FF8000000000000 ∷ 0xFFF0000000000000 ∷ 0x8000000000000000 ∷ 0xBFF0000000000000 ∷ [])
unfolding of_bits float above_zero positive lt
not_above = more (no_size _ refl) (more (no_size _ refl) (more (no_size _ refl) (more (no_size _ refl) over)))

pub infinity_endless : Endless (double (of_bits binary64 0x7FF0000000000000))
unfolding of_bits
infinity_endless = plus_infinity
