-- A number's decimal digits, read from the first on. Assumes nothing.
use Rattle.std.proofs.Common.{ℕ, ◌+◌, ◌*◌, ◌^◌, ◌≤◌, ◌<◌, ◌≡◌, refl, sym, ap, ◌∙◌, arith, List, [], ◌∷◌, ◌++◌, append-nil, Some, None}
use Rattle.std.proofs.Common.{length, get_or, take, drop, length-append, take_all, get_or-take}
use Rattle.std.proofs.Math.ListN.{get_or-append}
use Rattle.std.proofs.lemmas.List.{take_more, take-append-drop}
use native.Mathlib.Decide.{dec_lt}
use Rattle.format.specs.Grammar.Frames.{Decimal, digit, digits}
use Rattle.format.proofs.Frames.Names.{number, decimal_number, number_grows, digit_range}
use Rattle.register.specs.Naming.{Digit, Spells}

-- ---- digits

pub some_digit : {n : ℕ} {ds : List ℕ} → Decimal n ds → 0 < length ds
some_digit (digit h) = omega arith
some_digit (digits {n} {d} {ds} h r l) = rw length-append (omega arith)

-- 0 is one digit
zero_one : {n : ℕ} {ds : List ℕ} → Decimal n ds → n ≡ 0 → ds ≡ 48 ∷ []
zero_one (digit {n} h) e = rw e refl
zero_one (digits {n} {d} h r l) e = absurd (omega arith)

-- and no other number begins with it
front_zero : {n : ℕ} {ds : List ℕ} → Decimal n ds → get_or ds 0 0 ≡ 48 → n ≡ 0
front_zero (digit {n} h) e = omega arith
front_zero (digits {n} {d} {ds} h r l) e =
    let z : n ≡ 0 = front_zero r (sym (get_or-append ds ((48 + d) ∷ []) 0 0 (some_digit r)) ∙ e) in
    absurd (omega arith)

-- ---- read

-- the digits before number i are those of k
pub record Read (ds : List ℕ) (k i : ℕ) : Type 0 where
  pub none : i ≡ 0 → k ≡ 0
  pub some : 0 < i → Decimal k (take i ds)
  pub small : k < 2 ^ 64

module _ (ds : List ℕ) where
  -- a zero in front of others
  pub zero_front : get_or ds 0 0 ≡ 48 → 1 < length ds → Spells ds None
  zero_front e l n small r = let o = zero_one r (front_zero r e) in omega (arith, ap length o)

  -- a byte that is no digit
  pub no_digit : (i : ℕ) → i < length ds → Digit (get_or ds i 0) None → Spells ds None
  no_digit i l x n small r = let (f, g) = digit_range r i l in x f g

  module _ (front : get_or ds 0 0 ≡ 48 → length ds ≤ 1) {k i d : ℕ} (h : Read ds k i) (l : i < length ds) (x : Digit (get_or ds i 0) (Some d)) where
    more : Decimal (k * 10 + d) (take (i + 1) ds)
    more = rw (take_more ds i 0 l, x.1) (by (dec_lt 0 i))
      where
        one : i ≡ 0 → Decimal (k * 10 + d) (take i ds ++ (48 + d) ∷ [])
        one z = let e : k * 10 + d ≡ d = omega (arith, h.none z) in rw (z, e) (digit {n = d} x.0)

        -- the number so far is not 0
        begun : 0 < i → k ≡ 0 → ⊥
        begun o z =
            let e = zero_one (h.some o) z in
            let q : get_or ds 0 0 ≡ 48 = sym (get_or-take i ds 0 0 o) ∙ ap (λ (x : List ℕ). get_or x 0 0) e in
            omega (arith, front q)

        by : Dec (0 < i) → Decimal (k * 10 + d) (take i ds ++ (48 + d) ∷ [])
        by (yes o) = let s : 0 < k = omega (arith, begun o) in digits {n = k} {d = d} s (h.some o) x.0
        by (no f) = one (omega arith)

    pub too_large : 2 ^ 64 ≤ k * 10 + d → Spells ds None
    unfolding number
    too_large big n small r =
        let rest = drop (i + 1) ds in
        let p : number 0 ds ≡ n = rw append-nil at (decimal_number r []) in
        let q : number 0 (take (i + 1) ds ++ rest) ≡ number (k * 10 + d) rest = decimal_number more rest in
        let g = number_grows (k * 10 + d) rest in
        let j = rw take-append-drop at q in
        omega arith

    pub read_on : k * 10 + d < 2 ^ 64 → Read ds (k * 10 + d) (i + 1)
    read_on fits = record { none = λ z. absurd (omega arith); some = λ o. more; small = fits }

  pub read_end : {k i : ℕ} → Read ds k i → 0 < length ds → length ds ≤ i → Spells ds (Some k)
  read_end {k} {i} h o l = (rw (take_all i ds l) at (h.some (omega arith)), h.small)
