-- What the tests on a record's head, a value and a level's header say of the format's definitions. Assumes nothing.
use Prim.Native.Nat.{ℕ, ◌+◌, ◌-◌, ◌*◌, ◌/◌, ◌≤◌, ◌<◌}
use mathlib.Core.Path.{◌≡◌, refl, ◌∙◌}
use mathlib.Core.Bool.{true, false, ◌||◌}
use mathlib.Core.List.{List}
use mathlib.Core.Logic.{◌⊎◌, inl, inr}
use native.Mathlib.Omega.{arith}
use borrow.Author.Tests.{lt-ltb, le-ltb, le-leb, lt-leb, ne_eqb}
use lib.ListN.{length, get_or}
use lib.Dec.{eqb}
use Rattle.std.specs.Prelude.{Some, None, Result, Ok, Err}
use Rattle.format.proofs.Trees.ByRules.{records_step}
use Rattle.format.specs.Bytes.{le_at}
use Rattle.format.specs.Text.{units}
use Rattle.format.specs.Trees.{fault, Read, ends, follow, fixed_value, text_units, text_value, bytes_value, Children, level_value, fixed_len}
use Rattle.format.specs.Trees.{value, known, ChildrenAt, record_at, records}
use Rattle.format.specs.declared.Entry.{Entry}
use Rattle.cursor.proofs.Reading.{was_cut, was_got}
use Rattle.cursor.specs.Words.{Within, to, word_of, word_at}
use Rattle.format.specs.Given.{number}
use Rattle.format.specs.declared.refusal.Refusal.{Refusal}
use Rattle.format.specs.declared.refusal.Refusal.TheVariants as is
use Rattle.cursor.specs.declared.Cursor.{Cursor}
use Rattle.cursor.specs.Steps.{HeadRead, LeafRead, LevelRead}
use Rattle.cursor.specs.declared.record.Leaf.{Leaf}

-- ---- a record's head

pub head_end : (d : List ℕ) (c : Cursor) → c.end - c.at < 2 → HeadRead d c (Ok None)
unfolding records
head_end d c h = record { says = λ base children parent count used. rw (lt-ltb c.end (c.at + 2) (omega arith)); good = tt }

-- the head at i, of type k and with a name of m units, in a level that ends at e
module _ (d : List ℕ) {i e k m : ℕ} (two : i + 2 ≤ e) (kind : k ≡ get_or d i 0) (count : m ≡ get_or d (i + 1) 0) where
  bad : (x : Refusal) → ((base : ℕ) (children : ChildrenAt) (parent used : ℕ) → record_at d base children parent used i e ≡ ends (fault (number x)))
      → HeadRead d (to i e) (Err x)
  unfolding follow
  bad x q = record { says = λ base children parent n used. records_step d base children parent n used i e two ∙ rw (q base children parent used); good = tt }

  pub head_packed : k ≡ 76 → HeadRead d (to i e) (Err is.Packed)
  unfolding record_at
  head_packed h = bad is.Packed λ base children parent used. rw (← kind, h)

  pub head_early : (k ≡ 0) ⊎ (k ≡ 10) → HeadRead d (to i e) (Err is.Kind)
  unfolding record_at
  head_early (inl h) = bad is.Kind λ base children parent used. rw (← kind, h)
  head_early (inr h) = bad is.Kind λ base children parent used. rw (← kind, h)

  module _ (plain : k ≡ 76 → ⊥) (late : (eqb k 0 || eqb k 10) ≡ false) where
    pub head_cut : (e - (i + 2)) / 2 < m → HeadRead d (to i e) (Err is.Cut)
    unfolding record_at
    head_cut h = bad is.Cut λ base children parent used. rw (← kind, ← count, ne_eqb k 76 plain, late, lt-ltb e (i + 2 + 2 * m) (omega arith))

    module _ (fits : m ≤ (e - (i + 2)) / 2) where
      pub head_unknown : known k ≡ false → HeadRead d (to i e) (Err is.Kind)
      unfolding record_at
      head_unknown h = bad is.Kind λ base children parent used. rw (← kind, ← count, ne_eqb k 76 plain, late, le-ltb e (i + 2 + 2 * m) (omega arith), h)

      pub head_named : {u : ℕ} → e ≤ length d → known k ≡ true → u ≡ m - 1
          → HeadRead d (to i e) (Ok (Some (record { kind = k; start = i; units = u }, to (i + 2 + 2 * m) e)))
      unfolding record_at
      head_named w h q =
          record {
            says =
                λ base children parent n used. records_step d base children parent n used i e two
                ∙ rw (← kind, ← count, ne_eqb k 76 plain, late, le-ltb e (i + 2 + 2 * m) (omega arith), h);
            good = (record { kind = kind; units = rw (q, count); before = omega arith; within = record { order = omega arith; inside = w } }, refl);
          }

-- ---- a value that is no level

pub leaf_same : {d : List ℕ} {e : ℕ} {r : Result Leaf Refusal} (f g : (ℕ → ℕ → Entry) → Read) → ((entry : ℕ → ℕ → Entry) → f entry ≡ g entry) → LeafRead d e g r
    → LeafRead d e f r
leaf_same f g q l = record { says = λ entry. rw (q entry) (l.says entry); good = l.good }

module _ (d : List ℕ) (children : Children) (k start i e : ℕ) where
  pub value_bytes_is : k ≡ 9 → (entry : ℕ → ℕ → Entry) → value d children k start i e entry ≡ bytes_value d i e entry
  unfolding value
  value_bytes_is h entry = rw h

  pub value_text : k ≡ 8 → (entry : ℕ → ℕ → Entry) → value d children k start i e entry ≡ text_value d i e entry
  unfolding value
  value_text h entry = rw h

  pub value_fixed : (k ≡ 11 → ⊥) → (k ≡ 9 → ⊥) → (k ≡ 8 → ⊥) → (entry : ℕ → ℕ → Entry) → value d children k start i e entry
      ≡ fixed_value (fixed_len k) i e entry
  unfolding value
  value_fixed h₁ h₂ h₃ entry = rw (ne_eqb k 11 h₁, ne_eqb k 9 h₂, ne_eqb k 8 h₃)

  pub value_level : k ≡ 11 → (entry : ℕ → ℕ → Entry) → value d children k start i e entry ≡ level_value d children start i e entry
  unfolding value
  value_level h entry = rw h

module _ (d : List ℕ) (c : Cursor) (w : Within c d) where
  module _ {n : ℕ} (size : n ≡ 2 * text_units (units ((c.end - c.at) / 2) d c.at)) (fits : c.at + n ≤ c.end) where
    pub text_cut : c.end - (c.at + n) < 2 → LeafRead d c.end (text_value d c.at c.end) (Ok (record { at = c.at; size = n; next = to (c.at + n) c.end }))
    unfolding text_value
    text_cut h =
        record {
          says = λ entry. rw (← size, lt-leb (c.at + n + 2) c.end (omega arith));
          good = (record { order = fits; inside = w.inside }, refl, w.order);
        }

    pub text_ended : 2 ≤ c.end - (c.at + n) → LeafRead d c.end (text_value d c.at c.end) (Ok (record { at = c.at; size = n; next = to (c.at + n + 2) c.end }))
    unfolding text_value
    text_ended h =
        record {
          says = λ entry. rw (← size, le-leb (c.at + n + 2) c.end (omega arith));
          good = (record { order = omega arith; inside = w.inside }, refl, w.order);
        }

  pub bytes_unsized : (x : Refusal) → word_at 8 d c ≡ word_of (Err x) → LeafRead d c.end (bytes_value d c.at c.end) (Err x)
  unfolding bytes_value
  bytes_unsized x h =
      let (l, q) = was_cut 8 d c x h in
      record { says = λ entry. record { one = refl; stops = rw (q, lt-leb (c.at + 8) c.end (omega arith)) }; good = tt }

  -- behind their size they are a value of so many bytes
  pub bytes_sized : {n : ℕ} {v : Cursor} {r : Result Leaf Refusal} → word_at 8 d c ≡ word_of (Ok (n, v)) → LeafRead d v.end (fixed_value n v.at v.end) r
      → LeafRead d c.end (bytes_value d c.at c.end) r
  unfolding bytes_value fixed_value
  bytes_sized size f =
      let (l, q, p) = was_got 8 d c size in
      leaf_same _ _ (λ entry. rw (← q, le-leb (c.at + 8) c.end (omega (arith, w.order)))) (rw p at f)

-- ---- a level's header

module _ (d : List ℕ) (c : Cursor) (w : Within c d) {start : ℕ} (before : start ≤ c.at) where
  pub level_uncounted : (x : Refusal) → word_at 4 d c ≡ word_of (Err x) → LevelRead d start c (Err x)
  unfolding level_value
  level_uncounted x h =
      let (l, q) = was_cut 4 d c x h in
      record { says = λ children entry. rw (lt-ltb c.end (c.at + 4) (omega arith)) (record { one = refl; stops = rw q refl }); good = tt }

  module _ {k : ℕ} {l : Cursor} (counted : word_at 4 d c ≡ word_of (Ok (k, l))) where
    pub level_many : 10_000_000 < k → LevelRead d start c (Err is.Level)
    unfolding level_value
    level_many h =
        let (l, q, p) = was_got 4 d c counted in
        record {
          says = λ children entry. rw (le-ltb c.end (c.at + 4) (omega (arith, w.order)), ← q, lt-ltb 10_000_000 k h) (record { one = refl; stops = refl });
          good = tt;
        }

    module _ (few : k ≤ 10_000_000) where
      pub level_unsized : (x : Refusal) → word_at 8 d l ≡ word_of (Err x) → LevelRead d start c (Err x)
      unfolding level_value
      level_unsized x h =
          let (a, q, p) = was_got 4 d c counted in
          let (b, z) = was_cut 8 d l x h in
          let b' : c.end - (c.at + 4) < 8 = rw p at b in
          record {
            says =
                λ children entry. rw (
                  le-ltb c.end (c.at + 4) (omega (arith, w.order)),
                  ← q,
                  le-ltb 10_000_000 k few,
                  lt-ltb c.end (c.at + 12) (omega arith),
                ) (record { one = refl; stops = rw z refl });
            good = tt;
          }

      module _ {n : ℕ} {v : Cursor} (sized : word_at 8 d l ≡ word_of (Ok (n, v))) where
        -- the two numbers, and where the children begin
        numbers : (k ≡ le_at 4 d c.at) × (n ≡ le_at 8 d (c.at + 4)) × (v.at ≡ c.at + 12) × (v.end ≡ c.end) × (c.at + 12 ≤ c.end)
        numbers =
            let (a, q, p) = was_got 4 d c counted in
            let (b, r, z) = was_got 8 d l sized in
            let r' : n ≡ le_at 8 d (c.at + 4) = rw p at r in
            let z' : v ≡ to (c.at + 4 + 8) c.end = rw p at z in
            let b' : 8 ≤ c.end - (c.at + 4) = rw p at b in
            (q, r', rw z' (omega arith), rw z', omega (arith, w.order))

        pub level_short : n < v.at - start → LevelRead d start c (Err is.Level)
        unfolding level_value
        level_short h =
            let (q, r, a, e, f) = numbers in
            record {
              says =
                  λ children entry. rw (
                    le-ltb c.end (c.at + 4) (omega arith),
                    ← q,
                    le-ltb 10_000_000 k few,
                    le-ltb c.end (c.at + 12) f,
                    ← r,
                    lt-ltb (start + n) (c.at + 12) (omega arith),
                  )
                  (record { one = refl; stops = refl });
              good = tt;
            }

        module _ (enough : v.at - start ≤ n) where
          pub level_past : v.end - v.at < n - (v.at - start) → LevelRead d start c (Err is.Cut)
          unfolding level_value
          level_past h =
              let (q, r, a, e, f) = numbers in
              record {
                says =
                    λ children entry. rw (
                      le-ltb c.end (c.at + 4) (omega arith),
                      ← q,
                      le-ltb 10_000_000 k few,
                      le-ltb c.end (c.at + 12) f,
                      ← r,
                      le-ltb (start + n) (c.at + 12) (omega arith),
                      lt-ltb c.end (start + n) (omega arith),
                    )
                    (record { one = refl; stops = refl });
                good = tt;
              }

          pub level_inner : n - (v.at - start) ≤ v.end - v.at
              → LevelRead d start c (Ok (record { count = k; inner = to v.at (start + n); after = to (start + n) v.end }))
          unfolding level_value
          level_inner h =
              let (q, r, a, e, f) = numbers in
              record {
                says =
                    λ children entry. rw (
                      a,
                      le-ltb c.end (c.at + 4) (omega arith),
                      ← q,
                      le-ltb 10_000_000 k few,
                      le-ltb c.end (c.at + 12) f,
                      ← r,
                      le-ltb (start + n) (c.at + 12) (omega arith),
                      le-ltb c.end (start + n) (omega arith),
                    );
                good =
                    record {
                      kids = record { order = omega arith; inside = omega (arith, w.inside) };
                      after = record { order = omega arith; inside = omega (arith, w.inside) };
                      seam = refl;
                      last = e;
                    };
              }
