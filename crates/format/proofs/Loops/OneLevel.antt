-- What the grammar says of one experiment level is what is read of it. Assumes nothing.
use Prim.Native.Nat.{ℕ, zero, suc, ◌+◌}
use mathlib.Core.Path.{◌≡◌, refl, sym, ap, ◌∙◌}
use mathlib.Core.Bool.{Bool, true, false, cond, not, ◌||◌, true≢false, false≢true}
use mathlib.Core.Option.{Option, none, some, some_inj}
use mathlib.Core.List.{List, [], ◌∷◌}
use native.Mathlib.Nat.{zero-add}
use native.Mathlib.Omega.{arith}
use lib.Dec.{eqb, ltb}
use lib.IntN.{ℤ, pos, negsuc}
use lib.ListN.{take}
use borrow.Author.Tests.{ltb-true, ltb-false, lt-ltb, le-ltb, eqb-true, eqb-false, ne_eqb, not-false}
use Rattle.format.proofs.Ground.Tests.{or_left, or_right, or_none, cond_by}
use Rattle.format.proofs.Ground.Answers.{none≢some}
use Rattle.format.proofs.Ground.Agreement.{Gives, States, no_such, none_of, bind_some, some_bind}
use Rattle.format.proofs.Values.Meaning.{Means}
use Rattle.format.proofs.Numbers.Wholes.{unsigned_of}
use Rattle.format.proofs.Stated.Fields.{field_in_is, level_in, unsigned_in, signed_in}
use Rattle.format.proofs.Values.LevelOrLeaf.{as_level_is}
use Rattle.format.proofs.Ground.Lists.{all_take}
use Rattle.format.specs.Bytes.{ascii}
use Rattle.format.specs.Values.{Value, flag, whole, double, text, bytes, level, list, value_at, field_in, as_level, bind}
use Rattle.format.specs.Numbers.{unsigned, signed}
use Rattle.format.specs.Loops.{most_count, or_zero, loop_params, child_levels, size_of, count_set, valid_of, count_field, point_count, planes_count}
use Rattle.format.specs.Loops.{spectral_count, Said, nothing, wrong, loop, supported, counted, typed, said_by, said}
use Rattle.format.specs.Grammar.Lists.{All, over, more}
use Rattle.format.specs.Grammar.Values.{ValueOf, Field}
use Rattle.format.specs.Grammar.Numbers.{ReadsUnsigned, Signed}
use Rattle.format.specs.Grammar.Loops.{Parameters, in_level, in_list, UiCount, stated as count-stated, unstated as count-unstated, PlanesCount}
use Rattle.format.specs.Grammar.Loops.{SpectralCount, preferred, plain, Points, Valid, no_more, set, unset, PointCount, no_points, all_points}
use Rattle.format.specs.Grammar.Loops.{valid_points, Count, of_time, of_points, of_focus, of_spectral, of_custom, of_time_uneven, Stops}
use Rattle.format.specs.Grammar.Loops.{no_parameters, no_type, type_0, type_over, count_0, LoopAt, Below, levels, no_levels}
use Rattle.format.specs.Refused.Loops.{LoopType, time, points, focus, spectral, custom, time_uneven, Unfit, type_negative, type_other, count_over}
use Rattle.format.specs.Refusals as why
use Rattle.format.specs.declared.Entry.{Entry}

-- what `valid_of` makes of pItemValid
data ValidBy (s : List ℕ) (es : List Entry) (n : ℕ) : Option Value → ℕ → Type 0 where
  by_list : {l : List ℕ} → ValidBy s es n (some (list l)) (count_set s es (take n l))
  by_none : {o : Option Value} → ((l : List ℕ) → o ≡ some (list l) → ⊥) → ValidBy s es n o n

valid_by : (s : List ℕ) (es : List Entry) (n : ℕ) (o : Option Value) → ValidBy s es n o (valid_of s es n o)
unfolding valid_of
valid_by s es n none = by_none λ l. none≢some
valid_by s es n (some (flag b)) = by_none {o = some (flag b)} λ l e. let z : ◌≡◌ {A = ℕ} 0 1 = cc in omega arith
valid_by s es n (some (whole z)) = by_none {o = some (whole z)} λ l e. let z : ◌≡◌ {A = ℕ} 0 1 = cc in omega arith
valid_by s es n (some (double b)) = by_none {o = some (double b)} λ l e. let z : ◌≡◌ {A = ℕ} 0 1 = cc in omega arith
valid_by s es n (some (text i k)) = by_none {o = some (text i k)} λ l e. let z : ◌≡◌ {A = ℕ} 0 1 = cc in omega arith
valid_by s es n (some (bytes i k)) = by_none {o = some (bytes i k)} λ l e. let z : ◌≡◌ {A = ℕ} 0 1 = cc in omega arith
valid_by s es n (some (level i)) = by_none {o = some (level i)} λ l e. let z : ◌≡◌ {A = ℕ} 0 1 = cc in omega arith
valid_by s es n (some (list l)) = by_list

-- what the rules say of the level i, for each thing that `said` may give
unfoldable pub Told : List ℕ → List Entry → ℕ → Said → Type 0
Told s es i nothing = Stops s es i
Told s es i (wrong n) = Unfit s es i n
Told s es i (loop t c) = LoopAt s es i t c

module _ (s : List ℕ) (es : List Entry) (M : Means s es) where
  pub parameters_in : (i : ℕ) → States (loop_params s es (field_in s es i (ascii "uLoopPars"))) (Parameters s es i)
  unfolding ascii loop_params
  parameters_in i = record { holds = λ p e. go p (field_in s es i (ascii "uLoopPars")) refl e; only = back }
    where
      go : (p : ℕ) (o : Option Value) → field_in s es i (ascii "uLoopPars") ≡ o → loop_params s es o ≡ some p → Parameters s es i p
      go p none q e = absurd (none≢some e)
      go p (some (flag b)) q e = absurd (none≢some e)
      go p (some (whole z)) q e = absurd (none≢some e)
      go p (some (double b)) q e = absurd (none≢some e)
      go p (some (text j n)) q e = absurd (none≢some e)
      go p (some (bytes j n)) q e = absurd (none≢some e)
      go p (some (level j)) q e = let z : j ≡ p = cc in in_level ((field_in_is s es M i).holds (level p) (rw z at q))
      go p (some (list [])) q e = absurd (none≢some e)
      go p (some (list (j ∷ []))) q e =
          let f = (field_in_is s es M i).holds (list (j ∷ [])) q in
          let v : value_at s es j ≡ level p = level_of_is (value_at s es j) p e in
          in_list f (rw v at (one j (M.elements_of_is f.place (j ∷ []) f.value)))
        where
          level_of_is : (v : Value) (p : ℕ) → as_level (some v) ≡ some p → v ≡ level p
          level_of_is v p e = let z = as_level_is (some v) p e in cc

          one : (j : ℕ) → All (λ j. ValueOf s es j (value_at s es j)) (j ∷ []) → ValueOf s es j (value_at s es j)
          one j (more h a) = h
      go p (some (list (j ∷ k ∷ l))) q e = absurd (none≢some e)

      back : (p : ℕ) → Parameters s es i p → loop_params s es (field_in s es i (ascii "uLoopPars")) ≡ some p
      back p (in_level f) = rw ((field_in_is s es M i).only (level p) f) refl
      back p (in_list {j = j} f v) = rw ((field_in_is s es M i).only (list (j ∷ [])) f, M.of_value j (level p) v) refl

  -- ---- the counts

  pub count_in : (p : ℕ) → Gives (count_field s es p) (UiCount s es p)
  unfolding ascii or_zero
  count_in p = record { holds = go (bind (field_in s es p (ascii "uiCount")) unsigned) refl; only = back }
    where
      go : (o : Option ℕ) → bind (field_in s es p (ascii "uiCount")) unsigned ≡ o → UiCount s es p (or_zero o)
      go none q = count-unstated (no_such _ (unsigned_in s es M p) q)
      go (some n) q = count-stated ((unsigned_in s es M p).holds n q)

      back : (n : ℕ) → UiCount s es p n → count_field s es p ≡ n
      back n (count-stated u) = rw ((unsigned_in s es M p).only n u) refl
      back n (count-unstated f) = rw (none_of _ (unsigned_in s es M p) f) refl

  planes_in : (p : ℕ)
      → States (bind (as_level (field_in s es p (ascii "pPlanes"))) λ q. bind (field_in s es q (ascii "uiCount")) unsigned) (PlanesCount s es p)
  unfolding ascii
  planes_in p =
      record {
        holds = λ n e.
            let (q, e₁, e₂) = bind_some (as_level (field_in s es p (ascii "pPlanes"))) (λ q. bind (field_in s es q (ascii "uiCount")) unsigned) n e in
            record { planes = q; there = (level_in s es M p).holds q e₁; count = (unsigned_in s es M q).holds n e₂ };
        only = λ n x. some_bind _ _ x.planes n ((level_in s es M p).only x.planes x.there) ((unsigned_in s es M x.planes).only n x.count);
      }

  spectral_in : (p : ℕ) → Gives (spectral_count s es p) (SpectralCount s es p)
  unfolding spectral_count
  spectral_in p = record { holds = go planes refl; only = back }
    where
      planes : Option ℕ
      planes = bind (as_level (field_in s es p (ascii "pPlanes"))) λ q. bind (field_in s es q (ascii "uiCount")) unsigned

      go : (o : Option ℕ) → planes ≡ o → SpectralCount s es p (planes_count (count_field s es p) o)
      go none q = plain (no_such _ (planes_in p) q) (count_in p).holds
      go (some n) q = preferred ((planes_in p).holds n q)

      back : (n : ℕ) → SpectralCount s es p n → planes_count (count_field s es p) planes ≡ n
      back n (preferred x) = rw ((planes_in p).only n x) refl
      back n (plain f u) = rw (none_of _ (planes_in p) f) ((count_in p).only n u)

  -- Points has elements or entries
  points_in : (p m : ℕ) → size_of s es (field_in s es p (ascii "Points")) ≡ suc m → Points s es p (suc m)
  unfolding ascii size_of
  points_in p m e = go (field_in s es p (ascii "Points")) refl e
    where
      go : (o : Option Value) → field_in s es p (ascii "Points") ≡ o → size_of s es o ≡ suc m → Points s es p (suc m)
      go none q e = absurd (omega arith)
      go (some v) q e =
          let f = (field_in_is s es M p).holds v q in
          record { value = v; there = f; size = rw e at (M.size_of_is f.place v f.value) }

  in_points : (p n : ℕ) → Points s es p n → size_of s es (field_in s es p (ascii "Points")) ≡ n
  unfolding ascii
  in_points p n x = rw ((field_in_is s es M p).only x.value x.there) (M.of_size x.value n x.size)

  valid_in : (is : List ℕ) → All (λ j. ValueOf s es j (value_at s es j)) is → Gives (count_set s es is) (Valid s es is)
  unfolding count_set or_zero
  valid_in [] over = record { holds = no_more; only = back }
    where
      back : (n : ℕ) → Valid s es [] n → 0 ≡ n
      back n no_more = refl
  valid_in (i ∷ is) (more v a) = let r = valid_in is a in record { holds = go r (unsigned (value_at s es i)) refl; only = back r }
    where
      not_suc : (m : ℕ) → 0 ≡ suc m → ⊥
      not_suc m e = omega arith

      -- a value that reads as no number above 0
      no_unit : (x : Value) → ((m : ℕ) → ReadsUnsigned x (suc m) → ⊥) → or_zero (unsigned x) ≡ 0
      no_unit x f = read (unsigned x) refl
        where
          read : (o : Option ℕ) → unsigned x ≡ o → or_zero o ≡ 0
          read none q = refl
          read (some zero) q = refl
          read (some (suc m)) q = absurd (f m ((unsigned_of x).holds (suc m) q))

      one_more : (m n : ℕ) → cond (eqb (suc m) 0) 0 1 + n ≡ suc n
      one_more m n = rw (ne_eqb (suc m) 0 (λ e. omega arith)) (omega arith)

      go : Gives (count_set s es is) (Valid s es is) → (o : Option ℕ) → unsigned (value_at s es i) ≡ o
          → Valid s es (i ∷ is) (cond (eqb (or_zero o) 0) 0 1 + count_set s es is)
      go r none q = rw zero-add (unset v (λ m h. none≢some (sym q ∙ (unsigned_of (value_at s es i)).only (suc m) h)) r.holds)
      go r (some zero) q = rw zero-add (unset v (λ m h. not_suc m (some_inj.0 (sym q ∙ (unsigned_of (value_at s es i)).only (suc m) h))) r.holds)
      go r (some (suc m)) q = rw one_more (set v ((unsigned_of (value_at s es i)).holds (suc m) q) r.holds)

      back : Gives (count_set s es is) (Valid s es is) → (n : ℕ) → Valid s es (i ∷ is) n
          → cond (eqb (or_zero (unsigned (value_at s es i))) 0) 0 1 + count_set s es is ≡ n
      back r n (set {m = m} {n = k} {v = x} w q y) = rw (M.of_value i x w, (unsigned_of x).only (suc m) q, r.only k y) (one_more m k)
      back r n (unset {v = x} w f y) = rw (M.of_value i x w, no_unit x f, r.only n y, zero-add) refl

  point_in : (i p : ℕ) → Gives (point_count s es i p) (PointCount s es i p)
  unfolding point_count
  point_in i p = record { holds = go (size_of s es (field_in s es p (ascii "Points"))) refl; only = back }
    where
      valid : Option Value
      valid = field_in s es i (ascii "pItemValid")

      field_list : (l : List ℕ) → valid ≡ some (list l) → Field s es (suc i) (ascii "pItemValid") (list l)
      field_list l q = unfold ascii in (field_in_is s es M i).holds (list l) q

      list_field : (l : List ℕ) → Field s es (suc i) (ascii "pItemValid") (list l) → valid ≡ some (list l)
      list_field l f = unfold ascii in (field_in_is s es M i).only (list l) f

      counts : (m : ℕ) (l : List ℕ) → valid ≡ some (list l) → Gives (count_set s es (take (suc m) l)) (Valid s es (take (suc m) l))
      counts m l q =
          let f = field_list l q in
          valid_in (take (suc m) l) (all_take (λ j. ValueOf s es j (value_at s es j)) (suc m) l (M.elements_of_is f.place l f.value))

      some_points : (m : ℕ) → Points s es p (suc m) → (o : Option Value) (n : ℕ) → valid ≡ o → ValidBy s es (suc m) o n → PointCount s es i p n
      some_points m x o n q by_list = valid_points x (field_list _ q) (counts m _ q).holds
      some_points m x o n q (by_none f) = all_points x (λ l y. f l (sym q ∙ list_field l y))

      go : (n : ℕ) → size_of s es (field_in s es p (ascii "Points")) ≡ n → PointCount s es i p (cond (eqb n 0) (count_field s es p) (valid_of s es n valid))
      go zero q = no_points (λ m x. omega (arith, in_points p (suc m) x)) (count_in p).holds
      go (suc m) q = rw (ne_eqb (suc m) 0 (λ e. omega arith)) (some_points m (points_in p m q) valid _ refl (valid_by s es (suc m) valid))

      none_valid : (m : ℕ) (o : Option Value) (n : ℕ) → ((l : List ℕ) → o ≡ some (list l) → ⊥) → ValidBy s es m o n → n ≡ m
      none_valid m o n f by_list = absurd (f _ refl)
      none_valid m o n f (by_none g) = refl

      no_size : ((m : ℕ) → Points s es p (suc m) → ⊥) → (n : ℕ) → size_of s es (field_in s es p (ascii "Points")) ≡ n → n ≡ 0
      no_size f zero q = refl
      no_size f (suc m) q = absurd (f m (points_in p m q))

      suc_size : (m : ℕ) → Points s es p (suc m) → point_count s es i p ≡ valid_of s es (suc m) valid
      suc_size m x = rw (in_points p (suc m) x, ne_eqb (suc m) 0 (λ e. omega arith)) refl

      back : (n : ℕ) → PointCount s es i p n → point_count s es i p ≡ n
      back n (no_points f u) = rw (no_size f _ refl) ((count_in p).only n u)
      back n (all_points {m = m} x f) = suc_size m x ∙ none_valid (suc m) valid _ (λ l q. f l (field_list l q)) (valid_by s es (suc m) valid)
      back n (valid_points {m = m} {l = l} x f v) = suc_size m x ∙ rw (list_field l f) ((counts m l (list_field l f)).only n v)

  -- the count that `typed` picks
  count_of : (i p t : ℕ) → supported t ≡ true
      → Count s es i p t (cond (eqb t 2) (point_count s es i p) (cond (eqb t 6) (spectral_count s es p) (count_field s es p)))
  unfolding supported
  count_of i p t e = go (eqb t 1) refl (eqb t 2) refl (eqb t 4) refl (eqb t 6) refl (eqb t 7) refl (eqb t 8) refl e
    where
      go : (b₁ : Bool) → eqb t 1 ≡ b₁ → (b₂ : Bool) → eqb t 2 ≡ b₂ → (b₄ : Bool) → eqb t 4 ≡ b₄ → (b₆ : Bool) → eqb t 6 ≡ b₆ → (b₇ : Bool) → eqb t 7 ≡ b₇
          → (b₈ : Bool) → eqb t 8 ≡ b₈ → (b₁ || b₂ || b₄ || b₆ || b₇ || b₈) ≡ true
          → Count s es i p t (cond (eqb t 2) (point_count s es i p) (cond (eqb t 6) (spectral_count s es p) (count_field s es p)))
      go true q b₂ q₂ b₄ q₄ b₆ q₆ b₇ q₇ b₈ q₈ e = rw (eqb-true t 1 q) (of_time (count_in p).holds)
      go false q true q₂ b₄ q₄ b₆ q₆ b₇ q₇ b₈ q₈ e = rw (eqb-true t 2 q₂) (of_points (point_in i p).holds)
      go false q false q₂ true q₄ b₆ q₆ b₇ q₇ b₈ q₈ e = rw (eqb-true t 4 q₄) (of_focus (count_in p).holds)
      go false q false q₂ false q₄ true q₆ b₇ q₇ b₈ q₈ e = rw (eqb-true t 6 q₆) (of_spectral (spectral_in p).holds)
      go false q false q₂ false q₄ false q₆ true q₇ b₈ q₈ e = rw (eqb-true t 7 q₇) (of_custom (count_in p).holds)
      go false q false q₂ false q₄ false q₆ false q₇ true q₈ e = rw (eqb-true t 8 q₈) (of_time_uneven (count_in p).holds)
      go false q false q₂ false q₄ false q₆ false q₇ false q₈ e = absurd (false≢true e)

  typed_count : (i p t c : ℕ) → Count s es i p t c → typed s es i p (pos t) ≡ counted t c
  unfolding typed
  typed_count i p t c (of_time u) = ap (counted 1) ((count_in p).only c u)
  typed_count i p t c (of_points u) = ap (counted 2) ((point_in i p).only c u)
  typed_count i p t c (of_focus u) = ap (counted 4) ((count_in p).only c u)
  typed_count i p t c (of_spectral u) = ap (counted 6) ((spectral_in p).only c u)
  typed_count i p t c (of_custom u) = ap (counted 7) ((count_in p).only c u)
  typed_count i p t c (of_time_uneven u) = ap (counted 8) ((count_in p).only c u)

  -- ---- what the level says

  pub kind_in : (i : ℕ) → States (bind (field_in s es i (ascii "eType")) signed) (Signed s es i (ascii "eType"))
  unfolding ascii
  kind_in i = signed_in s es M i

  type_supported : (t : ℕ) → LoopType t → supported t ≡ true
  unfolding supported
  type_supported t time = refl
  type_supported t points = refl
  type_supported t focus = refl
  type_supported t spectral = refl
  type_supported t custom = refl
  type_supported t time_uneven = refl

  other_unsupported : (t : ℕ) → (LoopType t → ⊥) → supported t ≡ false
  unfolding supported
  other_unsupported t f =
      or_none _ _ (or_none _ _ (or_none _ _ (or_none _ _ (or_none _ _ (ne_eqb t 1 λ e. f (rw e time)) (ne_eqb t 2 λ e. f (rw e points)))
      (ne_eqb t 4 λ e. f (rw e focus))) (ne_eqb t 6 λ e. f (rw e spectral))) (ne_eqb t 7 λ e. f (rw e custom))) (ne_eqb t 8 λ e. f (rw e time_uneven))

  pub told : (i : ℕ) → Told s es i (said s es i)
  unfolding said Told
  told i = go (loop_params s es (field_in s es i (ascii "uLoopPars"))) refl (bind (field_in s es i (ascii "eType")) signed) refl
    where
      zero_or_over : (t : ℕ) → Signed s es i (ascii "eType") (pos t) → (b : Bool) → eqb t 0 ≡ b → (b || ltb 10 t) ≡ true → Stops s es i
      zero_or_over t x true q e = type_0 (rw (eqb-true t 0 q) at x)
      zero_or_over t x false q e = type_over x (ltb-true 10 t e)

      other : {p : ℕ} (t : ℕ) → Parameters s es i p → Signed s es i (ascii "eType") (pos t)
          → (eqb t 0 || ltb 10 t) ≡ false → not (supported t) ≡ true → Unfit s es i why.loop_kind
      other t x y q e =
          let z : (t ≡ 0 → ⊥) = eqb-false t 0 (or_left (eqb t 0) (ltb 10 t) q) in
          type_other x y (omega arith) (ltb-false 10 t (or_right (eqb t 0) (ltb 10 t) q)) λ k. true≢false (sym e ∙ ap not (type_supported t k))

      count : (p t c : ℕ) → Parameters s es i p → Signed s es i (ascii "eType") (pos t) → Count s es i p t c → Told s es i (counted t c)
      count p t c x y n =
          cond_by (Told s es i) (ltb most_count c) _ _ (λ q. count_over x y n (ltb-true most_count c q)) λ q₁.
          cond_by (Told s es i) (eqb c 0) _ _ (λ q. count_0 x y (rw (eqb-true c 0 q) at n)) λ q₂.
          let z : (c ≡ 0 → ⊥) = eqb-false c 0 q₂ in
          record { parameters = p; there = x; kind = y; count = n; count_some = omega arith; count_most = ltb-false most_count c q₁ }

      go : (o : Option ℕ) → loop_params s es (field_in s es i (ascii "uLoopPars")) ≡ o → (k : Option ℤ) → bind (field_in s es i (ascii "eType")) signed ≡ k
          → Told s es i (said_by s es i o k)
      go none q k r = no_parameters (no_such _ (parameters_in i) q)
      go (some p) q none r = no_type (no_such _ (kind_in i) r)
      go (some p) q (some (negsuc t)) r = type_negative ((parameters_in i).holds p q) ((kind_in i).holds (negsuc t) r)
      go (some p) q (some (pos t)) r =
          let x = (parameters_in i).holds p q in
          let y = (kind_in i).holds (pos t) r in
          cond_by (Told s es i) (eqb t 0 || ltb 10 t) _ _ (λ e. zero_or_over t y (eqb t 0) refl e) λ q₁.
          cond_by (Told s es i) (not (supported t)) _ _ (other t x y q₁) λ q₂.
          count p t _ x y (count_of i p t (not-false _ q₂))

  said_typed : (i p t : ℕ) → Parameters s es i p → Signed s es i (ascii "eType") (pos t) → said s es i ≡ typed s es i p (pos t)
  unfolding said
  said_typed i p t x y = rw ((parameters_in i).only p x, (kind_in i).only (pos t) y) refl

  -- by the type alone, whatever the parameters
  type_said : (i : ℕ) (k : Option ℤ) → bind (field_in s es i (ascii "eType")) signed ≡ k → ((p : ℕ) → said_by s es i (some p) k ≡ nothing) → said s es i
      ≡ nothing
  unfolding said
  type_said i k q f = rw q (go (loop_params s es (field_in s es i (ascii "uLoopPars"))))
    where
      go : (o : Option ℕ) → said_by s es i o k ≡ nothing
      go none = refl
      go (some p) = f p

  pub stops_said : (i : ℕ) → Stops s es i → said s es i ≡ nothing
  unfolding said typed counted
  stops_said i (no_parameters f) = rw (none_of _ (parameters_in i) f) refl
  stops_said i (no_type f) = type_said i none (none_of _ (kind_in i) f) (λ p. refl)
  stops_said i (type_0 x) = type_said i (some (pos 0)) ((kind_in i).only (pos 0) x) (λ p. refl)
  stops_said i (type_over {t = t} x h) = type_said i (some (pos t)) ((kind_in i).only (pos t) x) (λ p. rw (ne_eqb t 0 (λ e. omega arith), lt-ltb 10 t h) refl)
  stops_said i (count_0 x y n) = said_typed i _ _ x y ∙ typed_count i _ _ 0 n

  pub loop_said : (i t c : ℕ) → LoopAt s es i t c → said s es i ≡ loop t c
  unfolding counted
  loop_said i t c x =
      let h = x.count_some in
      said_typed i x.parameters t x.there x.kind ∙ (typed_count i x.parameters t c x.count
      ∙ rw (le-ltb most_count c x.count_most, ne_eqb c 0 (λ e. omega arith)) refl)

  pub unfit_said : (i n : ℕ) → Unfit s es i n → said s es i ≡ wrong n
  unfolding said typed counted
  unfit_said i n (type_negative {p = p} {t = t} x y) = rw ((parameters_in i).only p x, (kind_in i).only (negsuc t) y) refl
  unfit_said i n (type_other {p = p} {t = t} x y h l f) =
      said_typed i p t x y ∙ rw (ne_eqb t 0 (λ e. omega arith), le-ltb 10 t l, other_unsupported t f) refl
  unfit_said i n (count_over {p = p} {t = t} {c = c} x y k h) = said_typed i p t x y ∙ (typed_count i p t c k ∙ rw (lt-ltb most_count c h) refl)

  pub below_in : (i : ℕ) → Gives (child_levels s es (field_in s es i (ascii "ppNextLevelEx"))) (Below s es i)
  unfolding ascii child_levels
  below_in i = record { holds = go (field_in s es i (ascii "ppNextLevelEx")) refl; only = back }
    where
      go : (o : Option Value) → field_in s es i (ascii "ppNextLevelEx") ≡ o → Below s es i (child_levels s es o)
      go none q = no_levels (no_such _ (field_in_is s es M i) q)
      go (some v) q = let f = (field_in_is s es M i).holds v q in levels f (M.levels_of_is f.place v f.value)

      back : (is : List ℕ) → Below s es i is → child_levels s es (field_in s es i (ascii "ppNextLevelEx")) ≡ is
      back is (levels {v = v} f l) = rw ((field_in_is s es M i).only v f) (M.of_levels v is l)
      back is (no_levels f) = rw (none_of _ (field_in_is s es M i) f) refl
