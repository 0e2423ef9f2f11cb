-- The records of components, plane after plane: which of them is whose. Assumes nothing.
use Prim.Native.Nat.{ℕ, zero, suc, ◌-◌, ◌≤◌, ◌<◌, min}
use mathlib.Core.Path.{◌≡◌, refl, ap, ◌∙◌}
use mathlib.Core.Option.{Option, none, some}
use mathlib.Core.List.{List, [], ◌∷◌, ◌++◌}
use native.Mathlib.Nat.{min-eq_left, min-zero, zero-sub}
use native.Mathlib.Omega.{arith}
use lib.Dec.{eqb}
use lib.ListN.{length, get_elem?, replicate, length-append, length-replicate}
use borrow.Author.Tests.{eqb-false}
use Rattle.format.proofs.Ground.Tests.{cond_by}
use Rattle.format.specs.Bytes.{ascii}
use Rattle.format.specs.Values.{field_in, bind}
use Rattle.format.specs.Numbers.{unsigned}
use Rattle.format.specs.Channels.{channel_of, covers_of, PlaneRecord, plane_record, covered}
use Rattle.format.specs.declared.Entry.{Entry}
use Rattle.format.specs.declared.Channel.{Channel}

-- every plane covers a component
covers_some : (o : Option ℕ) → 0 < covers_of o
unfolding covers_of
covers_some none = omega arith
covers_some (some n) =
    cond_by (λ (k : ℕ). 0 < k) (eqb n 0) 1 n (λ _. omega arith) (λ q. let z : n ≡ 0 → ⊥ = eqb-false n 0 q in omega arith)

pub plane_covers : (s : List ℕ) (es : List Entry) (i : ℕ) → 0 < (plane_record s es i).covers
unfolding plane_record ascii
plane_covers s es i = covers_some (bind (field_in s es i (ascii "uiCompCount")) unsigned)

pub plane_channel : (s : List ℕ) (es : List Entry) (i : ℕ) → (plane_record s es i).channel ≡ channel_of s es i
unfolding plane_record
plane_channel s es i = refl

-- no more records than components
pub covered_length : (m : ℕ) (ps : List PlaneRecord) → length (covered m ps) ≤ m
unfolding covered
covered_length m [] = omega arith
covered_length m (p ∷ ps) =
    let h = covered_length (m - p.covers) ps in
    simp (length-append, length-replicate) (omega arith)

-- none where there are no components
pub covered_zero : (ps : List PlaneRecord) → covered 0 ps ≡ []
unfolding covered
covered_zero [] = refl
covered_zero (p ∷ ps) = rw (min-zero, zero-sub) (covered_zero ps)

front : (r k : ℕ) (c : Channel) (ys : List Channel) → k < r → get_elem? (replicate r c ++ ys) k ≡ some c
front zero k c ys h = absurd (omega arith)
front (suc r) zero c ys h = refl
front (suc r) (suc k) c ys h = front r k c ys (omega arith)

behind : (r k : ℕ) (c : Channel) (ys : List Channel) → r ≤ k → get_elem? (replicate r c ++ ys) k ≡ get_elem? ys (k - r)
behind zero k c ys h = let z : k ≡ k - 0 = omega arith in ap (get_elem? ys) z
behind (suc r) zero c ys h = absurd (omega arith)
behind (suc r) (suc k) c ys h = let z : k - r ≡ suc k - suc r = omega arith in behind r k c ys (omega arith) ∙ ap (get_elem? ys) z

module _ (m : ℕ) (p : PlaneRecord) (ps : List PlaneRecord) (k : ℕ) (h : k < m) where
  -- a component that the first plane covers
  pub covered_first : k < p.covers → get_elem? (covered m (p ∷ ps)) k ≡ some p.channel
  unfolding covered
  covered_first g = front (min p.covers m) k p.channel (covered (m - p.covers) ps) (omega arith)

  -- one that it does not: it is counted from where that plane ends
  pub covered_later : p.covers ≤ k → get_elem? (covered m (p ∷ ps)) k ≡ get_elem? (covered (m - p.covers) ps) (k - p.covers)
  unfolding covered
  covered_later g =
      let e : min p.covers m ≡ p.covers = min-eq_left (omega arith) in
      rw e (behind p.covers k p.channel (covered (m - p.covers) ps) g)
