-- Whole numbers by the rules: a value is read as the whole number that it is, a double as the one that its value equals, and the doubles that count as absent
-- are those without one in range. Assumes nothing.
use Prim.Native.Nat.{ℕ, zero, suc, ◌+◌, ◌*◌, ◌/◌, ◌%◌, ◌^◌, ◌≤◌, ◌<◌}
use mathlib.Core.Path.{◌≡◌, refl, sym, ap, ◌∙◌}
use mathlib.Core.Logic.{◌⊎◌, inl, inr, ◌↔◌}
use mathlib.Core.Bool.{Bool, true, false, cond, true≢false, false≢true}
use mathlib.Core.Option.{Option, none, some, some_inj}
use native.Mathlib.Nat.{add-zero, zero-mul, eq-zero-or-pos, mul-one, mul_right_comm, mul-mod_left, mul-div_cancel, mul-le-mul_right, mul-lt-mul_of_pos_right}
use native.Mathlib.Nat.{mod-lt, div-add-mod', add-mul, one-mul}
use native.Mathlib.Nat.{eq_of_mul-eq-mul_right, lt_of_mul-lt-mul_right, le_of_mul-le-mul_right}
use native.Mathlib.Omega.{arith}
use borrow.Author.Tests.{ltb-true, ltb-false, lt-ltb, le-ltb, eqb-true}
use lib.Dec.{ltb, eqb, lit<}
use lib.IntN.{ℤ, pos, negsuc}
use lib.Ieee.{Float, nan, inf, fin, up, down}
use lib.Ieee.Fits.{down_pos}
use lib.Ieee.Exact.{HasValue}
use Rattle.format.proofs.Ground.Answers.{none≢some}
use Rattle.format.proofs.Ground.Agreement.{States, no_such, none_of, cond_some, bind_some, some_bind}
use Rattle.format.specs.Values.{Value, flag, whole, double, text, bytes, level, list, map_option, bind}
use Rattle.format.specs.Numbers.{with_sign, whole_size, whole_double, whole_number, in_u64, in_i64, unsigned, signed, below32, magnitude}
use Rattle.format.specs.Grammar.Numbers as rules
use Rattle.format.specs.Grammar.Numbers.{Equals, plus, minus_zero, minus, Number, unset, set, stored, of_double}
use Rattle.format.specs.Grammar.Numbers.{ReadsUnsigned, ReadsSigned, not_below_0, below_0}
use Rattle.format.specs.Grammar.Numbers.{Measures, Fraction, NotWhole, NotUnsigned, NotSigned}

-- ---- the size of a double, m × 2^e

pub size_in : (m : ℕ) (e : ℤ) → States (whole_size m e) (λ n. m * up e ≡ n * down e)
unfolding whole_size
size_in m e = record { holds = there; only = back }
  where
    there : (n : ℕ) → whole_size m e ≡ some n → m * up e ≡ n * down e
    there n q =
        let (t, d) = cond_some (eqb (m * up e % down e) 0) (m * up e / down e) n q in
        sym (div-add-mod' (m * up e) (down e))
        ∙ ap (λ (x : ℕ). m * up e / down e * down e + x) (eqb-true (m * up e % down e) 0 t)
        ∙ add-zero (m * up e / down e * down e)
        ∙ ap (λ (x : ℕ). x * down e) d

    back : (n : ℕ) → m * up e ≡ n * down e → whole_size m e ≡ some n
    back n h = rw (h, mul-mod_left n (down e), mul-div_cancel n (down_pos e)) refl

-- ---- the rules

signed_size : (s : Bool) (m : ℕ) (e : ℤ) (n : ℕ) → m * up e ≡ n * down e → Equals (fin s m e) (with_sign s n)
signed_size false m e n h = plus (refl, mul-one (m * up e) ∙ h)
signed_size true m e zero h = minus_zero (refl, mul-one (m * up e) ∙ h)
signed_size true m e (suc n) h = minus (refl, mul-one (m * up e) ∙ h)

pub equals_in : (x : Float) → States (whole_double x) (Equals x)
unfolding whole_double map_option
equals_in nan = record { holds = λ z q. absurd (none≢some q); only = back }
  where
    back : (z : ℤ) → Equals nan z → whole_double nan ≡ some z
    back z (plus h) = absurd h
    back z (minus_zero h) = absurd h
    back z (minus h) = absurd h
equals_in (inf s) = record { holds = λ z q. absurd (none≢some q); only = back }
  where
    back : (z : ℤ) → Equals (inf s) z → whole_double (inf s) ≡ some z
    back z (plus h) = absurd h
    back z (minus_zero h) = absurd h
    back z (minus h) = absurd h
equals_in (fin s m e) = record { holds = there (whole_size m e) refl; only = back }
  where
    there : (o : Option ℕ) → whole_size m e ≡ o → (z : ℤ) → map_option (with_sign s) o ≡ some z → Equals (fin s m e) z
    there none q z h = absurd (none≢some h)
    there (some n) q z h = rw (← (some_inj.0 h)) (signed_size s m e n ((size_in m e).holds n q))

    size_of_is : (n : ℕ) → m * up e * 1 ≡ n * down e → whole_size m e ≡ some n
    size_of_is n h = (size_in m e).only n (sym (mul-one (m * up e)) ∙ h)

    back : (z : ℤ) → Equals (fin s m e) z → whole_double (fin s m e) ≡ some z
    back z (plus {n = n} h) = rw (h.0, size_of_is n h.1) refl
    back z (minus_zero h) = rw (h.0, size_of_is 0 h.1) refl
    back z (minus {n = n} h) = rw (h.0, size_of_is (suc n) h.1) refl

pub number_in : (v : Value) → States (whole_number v) (Number v)
unfolding whole_number
number_in (flag false) = record { holds = λ z q. rw (← (some_inj.0 q)) unset; only = back }
  where
    back : (z : ℤ) → Number (flag false) z → some (pos 0) ≡ some z
    back z unset = refl
number_in (flag true) = record { holds = λ z q. rw (← (some_inj.0 q)) set; only = back }
  where
    back : (z : ℤ) → Number (flag true) z → some (pos 1) ≡ some z
    back z set = refl
number_in (whole k) = record { holds = λ z q. rw (← (some_inj.0 q)) stored; only = back }
  where
    back : (z : ℤ) → Number (whole k) z → some k ≡ some z
    back z stored = refl
number_in (double x) = record { holds = λ z q. of_double ((equals_in x).holds z q); only = back }
  where
    back : (z : ℤ) → Number (double x) z → whole_double x ≡ some z
    back z (of_double h) = (equals_in x).only z h
number_in (text i n) = record { holds = λ z q. absurd (none≢some q); only = λ z. elim [ ] }
number_in (bytes i n) = record { holds = λ z q. absurd (none≢some q); only = λ z. elim [ ] }
number_in (level i) = record { holds = λ z q. absurd (none≢some q); only = λ z. elim [ ] }
number_in (list l) = record { holds = λ z q. absurd (none≢some q); only = λ z. elim [ ] }

-- ---- the readings

below_not_above : {k n : ℕ} → negsuc k ≡ pos n → ⊥
below_not_above h = let z : ◌≡◌ {A = ℕ} 0 1 = cc in omega arith

pub u64_in : (z : ℤ) → States (in_u64 z) (λ n. (z ≡ pos n) × (n < 2 ^ 64))
unfolding in_u64
u64_in (pos k) = record { holds = there; only = λ n h. back n h.0 h.1 }
  where
    there : (n : ℕ) → cond (ltb k (2 ^ 64)) (some k) none ≡ some n → (pos k ≡ pos n) × (n < 2 ^ 64)
    there n q = let (t, e) = cond_some (ltb k (2 ^ 64)) k n q in (ap pos e, rw (← e) (ltb-true k (2 ^ 64) t))

    back : (n : ℕ) → pos k ≡ pos n → n < 2 ^ 64 → cond (ltb k (2 ^ 64)) (some k) none ≡ some n
    back n e h = let d : k ≡ n = cc in rw (d, lt-ltb n (2 ^ 64) h) refl
u64_in (negsuc k) = record { holds = λ n q. absurd (none≢some q); only = λ n h. absurd (below_not_above h.0) }

pub below_u64 : (n : ℕ) → n < 2 ^ 64 → in_u64 (pos n) ≡ some n
below_u64 n h = (u64_in (pos n)).only n (refl, h)

pub no_u64 : (n : ℕ) → 2 ^ 64 ≤ n → in_u64 (pos n) ≡ none
unfolding in_u64
no_u64 n h = rw (le-ltb n (2 ^ 64) h) refl

pub none_u64 : (n : ℕ) → in_u64 (pos n) ≡ none → 2 ^ 64 ≤ n
unfolding in_u64
none_u64 n = go (ltb n (2 ^ 64)) refl
  where
    go : (b : Bool) → ltb n (2 ^ 64) ≡ b → cond b (some n) none ≡ none → 2 ^ 64 ≤ n
    go true h e = absurd (none≢some (sym e))
    go false h e = ltb-false n (2 ^ 64) h

pub unsigned_of : (v : Value) → States (unsigned v) (ReadsUnsigned v)
unfolding unsigned
unsigned_of v = record { holds = there; only = back }
  where
    there : (n : ℕ) → unsigned v ≡ some n → ReadsUnsigned v n
    there n q =
        let (z, e, f) = bind_some (whole_number v) in_u64 n q in
        let (g, h) = (u64_in z).holds n f in
        record { number = rw g at ((number_in v).holds z e); below_u64 = h }

    back : (n : ℕ) → ReadsUnsigned v n → unsigned v ≡ some n
    back n r = some_bind (whole_number v) in_u64 (pos n) n ((number_in v).only (pos n) r.number) ((u64_in (pos n)).only n (refl, r.below_u64))

pub signed_of : (v : Value) → States (signed v) (ReadsSigned v)
unfolding signed in_i64
signed_of v = record { holds = there; only = back }
  where
    range : (k : ℤ) → Number v k → (z : ℤ) → in_i64 k ≡ some z → ReadsSigned v z
    range (pos k) h z q = let (t, e) = cond_some (ltb k (2 ^ 63)) (pos k) z q in rw (← e) (not_below_0 h (ltb-true k (2 ^ 63) t))
    range (negsuc k) h z q = let (t, e) = cond_some (ltb k (2 ^ 63)) (negsuc k) z q in rw (← e) (below_0 h (ltb-true k (2 ^ 63) t))

    there : (z : ℤ) → signed v ≡ some z → ReadsSigned v z
    there z q = let (k, e, f) = bind_some (whole_number v) in_i64 z q in range k ((number_in v).holds k e) z f

    back : (z : ℤ) → ReadsSigned v z → signed v ≡ some z
    back z (not_below_0 {n = n} h l) = some_bind (whole_number v) in_i64 (pos n) z ((number_in v).only (pos n) h) (rw (lt-ltb n (2 ^ 63) l) refl)
    back z (below_0 {n = n} h l) = some_bind (whole_number v) in_i64 (negsuc n) z ((number_in v).only (negsuc n) h) (rw (lt-ltb n (2 ^ 63) l) refl)

-- ---- numbers below 2^32

pub below_some : (o : Option ℕ) (n : ℕ) → below32 o ≡ some n → (o ≡ some n) × (n < 2 ^ 32)
unfolding below32
below_some none n e = absurd (none≢some e)
below_some (some m) n e = let (q, z) = cond_some (ltb m (2 ^ 32)) m n e in (ap some z, rw (← z) (ltb-true m (2 ^ 32) q))

pub some_below : (o : Option ℕ) (n : ℕ) → o ≡ some n → n < 2 ^ 32 → below32 o ≡ some n
unfolding below32
some_below o n e h = rw (e, lt-ltb n (2 ^ 32) h) refl

-- ---- doubles that count as absent

-- a double has one size
one_size : (x : Float) (s t : Bool) (a c n : ℕ) → HasValue x s a c → HasValue x t n 1 → (s ≡ t) × (a ≡ n * c)
one_size nan s t a c n h k = absurd h
one_size (inf u) s t a c n h k = absurd h
one_size (fin u m e) s t a c n h k = (
  sym h.0 ∙ k.0,
  eq_of_mul-eq-mul_right (down e) (down_pos e) a (n * c)
      (sym h.1 ∙ ap (λ (z : ℕ). z * c) (sym (mul-one (m * up e)) ∙ k.1) ∙ mul_right_comm n (down e) c),
)

no_fraction : (x : Float) → Fraction x → (s : Bool) (n : ℕ) → HasValue x s n 1 → ⊥
no_fraction x f s n h =
    let (_, e) = one_size x f.sign s f.size f.unit n f.measured.value h in
    let l : f.whole_part < n = lt_of_mul-lt-mul_right f.unit (rw e at f.above) in
    let k : n < f.whole_part + 1 = lt_of_mul-lt-mul_right f.unit (rw e at f.below) in
    omega arith

-- a finite double is whole or has a fraction
whole_or_not : (s : Bool) (m : ℕ) (e : ℤ) → ((n : ℕ) × (m * up e ≡ n * down e)) ⊎ Fraction (fin s m e)
whole_or_not s m e =
    let q = m * up e / down e in
    let r = m * up e % down e in
    let parts : q * down e + r ≡ m * up e = div-add-mod' (m * up e) (down e) in
    elim (eq-zero-or-pos r) [
      | inl z ↦ inl (q, sym parts ∙ ap (λ (x : ℕ). q * down e + x) z ∙ add-zero (q * down e))
      | inr p ↦ inr
          (record {
            sign = s;
            size = m * up e;
            unit = down e;
            measured = record { unit_some = down_pos e; value = (refl, refl) };
            whole_part = q;
            above = omega arith;
            below = let l = mod-lt (m * up e) (down_pos e) in let k = add-mul q 1 (down e) in let o = one-mul (down e) in omega arith;
          })
    ]

-- a size n that is whole, as the rules say it
whole_value : (s : Bool) (m : ℕ) (e : ℤ) (n : ℕ) → m * up e ≡ n * down e → Measures (fin s m e) s (n * down e) (down e)
whole_value s m e n h = record { unit_some = down_pos e; value = (refl, ap (λ (z : ℕ). z * down e) h) }

-- ---- no whole number from −low on and below the limit

module _ (low limit : ℕ) where
  -- of the whole ones, those below and those from the limit on
  outside : (x : Float) → NotWhole low limit x → (s : Bool) (n : ℕ) → HasValue x s n 1 → ((s ≡ true) × (low < n)) ⊎ ((s ≡ false) × (limit ≤ n))
  outside x rules.not_a_number s n h = absurd h
  outside x rules.infinite s n h = absurd h
  outside x (rules.fraction f) s n h = absurd (no_fraction x f s n h)
  outside x (rules.too_small {size = a} {unit = c} k p) s n h =
      let (b, e) = one_size x true s a c n k.value h in
      inl (sym b, lt_of_mul-lt-mul_right c (rw e at p))
  outside x (rules.too_large {size = a} {unit = c} k p) s n h =
      let (b, e) = one_size x false s a c n k.value h in
      inr (sym b, le_of_mul-le-mul_right (rw e at p) k.unit_some)

  not_above : (x : Float) → NotWhole low limit x → (n : ℕ) → Equals x (pos n) → n < limit → ⊥
  not_above x y n (plus h) l = elim (outside x y false n h) [
    | inl o ↦ false≢true o.0
    | inr o ↦ let k = o.1 in omega arith
  ]
  not_above x y n (minus_zero h) l = elim (outside x y true 0 h) [
    | inl o ↦ let k = o.1 in omega arith
    | inr o ↦ true≢false o.0
  ]

  not_below : (x : Float) → NotWhole low limit x → (n : ℕ) → Equals x (negsuc n) → n < low → ⊥
  not_below x y n (minus h) l = elim (outside x y true (suc n) h) [
    | inl o ↦ let k = o.1 in omega arith
    | inr o ↦ true≢false o.0
  ]

  -- and every double that is none of these is such a whole number
  missing : 0 < limit → (x : Float) → ((n : ℕ) → Equals x (pos n) → n < limit → ⊥) → ((n : ℕ) → Equals x (negsuc n) → n < low → ⊥) → NotWhole low limit x
  missing L nan f g = rules.not_a_number
  missing L (inf s) f g = rules.infinite
  missing L (fin s m e) f g = elim (whole_or_not s m e) [
    | inl w ↦ go s w.0 w.1 f g
    | inr y ↦ rules.fraction y
  ]
    where
      go : (s : Bool) (n : ℕ) → m * up e ≡ n * down e → ((n : ℕ) → Equals (fin s m e) (pos n) → n < limit → ⊥)
          → ((n : ℕ) → Equals (fin s m e) (negsuc n) → n < low → ⊥) → NotWhole low limit (fin s m e)
      go false n h f g = by (ltb n limit) refl
        where
          by : (b : Bool) → ltb n limit ≡ b → NotWhole low limit (fin false m e)
          by true t = absurd (f n (signed_size false m e n h) (ltb-true n limit t))
          by false t = rules.too_large (whole_value false m e n h) (mul-le-mul_right (down e) (ltb-false n limit t))
      go true zero h f g = absurd (f 0 (signed_size true m e 0 h) L)
      go true (suc n) h f g = by (ltb n low) refl
        where
          by : (b : Bool) → ltb n low ≡ b → NotWhole low limit (fin true m e)
          by true t = absurd (g n (signed_size true m e (suc n) h) (ltb-true n low t))
          by false t =
              let o = ltb-false n low t in
              rules.too_small (whole_value true m e (suc n) h) (mul-lt-mul_of_pos_right (omega arith) (down_pos e))

-- ---- a double counts as absent just where it is one of those

pub unsigned_absent : (x : Float) → NotUnsigned (2 ^ 64) x ↔ (unsigned (double x) ≡ none)
unsigned_absent x = (
  λ y. none_of _ (unsigned_of (double x)) λ n r. reading y n r.number r.below_u64,
  λ q. missing 0 (2 ^ 64) (lit< tt) x (λ n h l. no_such _ (unsigned_of (double x)) q n (record { number = of_double h; below_u64 = l })) λ n h l. omega arith,
)
  where
    reading : NotUnsigned (2 ^ 64) x → (n : ℕ) → Number (double x) (pos n) → n < 2 ^ 64 → ⊥
    reading y n (of_double h) l = not_above 0 (2 ^ 64) x y n h l

pub signed_absent : (x : Float) → NotSigned x ↔ (signed (double x) ≡ none)
signed_absent x = (
  λ y. none_of _ (signed_of (double x)) λ z r. reading y z r,
  λ q.
      missing (2 ^ 63) (2 ^ 63) (lit< tt) x (λ n h l. no_such _ (signed_of (double x)) q (pos n) (not_below_0 (of_double h) l))
      λ n h l. no_such _ (signed_of (double x)) q (negsuc n) (below_0 (of_double h) l),
)
  where
    reading : NotSigned x → (z : ℤ) → ReadsSigned (double x) z → ⊥
    reading y z (not_below_0 {n = n} (of_double h) l) = not_above (2 ^ 63) (2 ^ 63) x y n h l
    reading y z (below_0 {n = n} (of_double h) l) = not_below (2 ^ 63) (2 ^ 63) x y n h l

pub u32_absent : (x : Float) → NotUnsigned (2 ^ 32) x ↔ (below32 (unsigned (double x)) ≡ none)
u32_absent x = (λ y. there y (unsigned (double x)) refl, λ q. missing 0 (2 ^ 32) (lit< tt) x (back q) λ n h l. omega arith)
  where
    reading : NotUnsigned (2 ^ 32) x → (n : ℕ) → Number (double x) (pos n) → n < 2 ^ 32 → ⊥
    reading y n (of_double h) l = not_above 0 (2 ^ 32) x y n h l

    there : NotUnsigned (2 ^ 32) x → (o : Option ℕ) → unsigned (double x) ≡ o → below32 o ≡ none
    there y none q = unfold below32 in refl
    there y (some n) q = unfold below32 in by (ltb n (2 ^ 32)) refl
      where
        by : (b : Bool) → ltb n (2 ^ 32) ≡ b → cond b (some n) none ≡ none
        by true t = absurd (reading y n ((unsigned_of (double x)).holds n q).number (ltb-true n (2 ^ 32) t))
        by false t = refl

    back : below32 (unsigned (double x)) ≡ none → (n : ℕ) → Equals x (pos n) → n < 2 ^ 32 → ⊥
    back q n h l =
        let r : unsigned (double x) ≡ some n = (unsigned_of (double x)).only n (record { number = of_double h; below_u64 = omega arith }) in
        none≢some (sym q ∙ some_below (unsigned (double x)) n r l)

-- ---- and by a double's size over any unit

pub sized_unsigned : (v : Float) (n c : ℕ) → 0 < c → n < 2 ^ 64 → HasValue v false (n * c) c → unsigned (double v) ≡ some n
sized_unsigned v n c C l h = (unsigned_of (double v)).only n (record { number = of_double (plus (over_one v h)); below_u64 = l })
  where
    over_one : (v : Float) → HasValue v false (n * c) c → HasValue v false n 1
    over_one nan h = h
    over_one (inf s) h = h
    over_one (fin s m e) h = (
      h.0,
      mul-one (m * up e) ∙ eq_of_mul-eq-mul_right c C (m * up e) (n * down e) (h.1 ∙ mul_right_comm n c (down e)),
    )

pub between_unsigned : (v : Float) (w a c : ℕ) → 0 < c → HasValue v false a c → w * c < a → a < (w + 1) * c → unsigned (double v) ≡ none
between_unsigned v w a c C h l k =
    (unsigned_absent v).0
    (rules.fraction
    (record { sign = false; size = a; unit = c; measured = record { unit_some = C; value = h }; whole_part = w; above = l; below = k }))

pub large_unsigned : (v : Float) (a c : ℕ) → 0 < c → HasValue v false a c → 2 ^ 64 * c ≤ a → unsigned (double v) ≡ none
large_unsigned v a c C h l = (unsigned_absent v).0 (rules.too_large (record { unit_some = C; value = h }) l)

pub below_unsigned : (v : Float) (a c : ℕ) → 0 < c → HasValue v true a c → 0 < a → unsigned (double v) ≡ none
below_unsigned v a c C h l = (unsigned_absent v).0 (rules.too_small (record { unit_some = C; value = h }) (rw (zero-mul c) l))

-- ---- and by its sign

-- a double that is finite has this sign
abbrev pub Bears : Bool → Float → Type 0
Bears s nan = Unit
Bears s (inf t) = Unit
Bears s (fin t m e) = t ≡ s

-- what is read signed, by what the size is read as
abbrev pub by_sign : Bool → Option ℕ → Option ℤ
by_sign s none = none
by_sign s (some n) = signed (whole (with_sign s n))

pub sign_signed : (s : Bool) (v : Float) → Bears s v → signed (double v) ≡ by_sign s (unsigned (double (magnitude v)))
unfolding signed unsigned magnitude whole_double map_option bind in_i64 in_u64 whole_number
sign_signed s nan h = refl
sign_signed s (inf t) h = refl
sign_signed s (fin t m e) h = rw h (go (whole_size m e))
  where
    far : (s : Bool) (n : ℕ) → 2 ^ 64 ≤ n → in_i64 (with_sign s n) ≡ none
    far false n l = rw (le-ltb n (2 ^ 63) (omega arith)) refl
    far true zero l = absurd (omega arith)
    far true (suc n) l = rw (le-ltb n (2 ^ 63) (omega arith)) refl

    by : (n : ℕ) (b : Bool) → ltb n (2 ^ 64) ≡ b → in_i64 (with_sign s n) ≡ by_sign s (cond b (some n) none)
    by n true q = refl
    by n false q = far s n (ltb-false n (2 ^ 64) q)

    go : (o : Option ℕ) → bind (map_option (with_sign s) o) in_i64 ≡ by_sign s (bind (map_option (with_sign false) o) in_u64)
    go none = refl
    go (some n) = by n (ltb n (2 ^ 64)) refl
