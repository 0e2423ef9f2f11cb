-- Laws of a search for the last child of a level that bears a name. Assumes nothing.
use Prim.Native.Nat.{ℕ, zero, suc, ◌+◌, ◌-◌, ◌≤◌, ◌<◌}
use mathlib.Core.Path.{◌≡◌, refl, sym, ap, ◌∙◌, subst}
use mathlib.Core.Bool.{Bool, true, false, cond, true≢false}
use mathlib.Core.Option.{Option, none, some}
use mathlib.Core.List.{List}
use native.Mathlib.Nat.{add-zero, add-suc}
use native.Mathlib.Numerals.{add-one}
use native.Mathlib.Decide.{dec_lt}
use native.Mathlib.Omega.{arith}
use borrow.Author.Tests.{eq-eqb, ne_eqb}
use lib.ListN.{length}
use Rattle.format.proofs.Ground.Answers.{none≢some}
use Rattle.format.proofs.Values.OneMoreEntry.{find_step}
use Rattle.format.specs.Bytes.{same}
use Rattle.format.specs.Values.{name_of, slots_of, find}
use Rattle.format.specs.declared.Entry.{Entry}
use Rattle.lookup.specs.Table.{firsts, Ordered, Run, found, Within, child_named, last_named, is_none}
use Rattle.std.specs.Prelude as std
use Rattle.lookup.proofs.Rows.{slots_start, slots_more, child_after, hop}

-- ---- what an answer tells, where a match took it apart

pub is_at : (r : std.Option ℕ) (i : ℕ) (x : Option ℕ) → r ≡ std.Some i → found r ≡ x → some i ≡ x
is_at r i x h k = rw h at k

pub is_nothing : (r : std.Option ℕ) (x : Option ℕ) → r ≡ std.None → found r ≡ x → none ≡ x
is_nothing r x h k = rw h at k

pub at_within : (n : ℕ) (r : std.Option ℕ) (i : ℕ) → r ≡ std.Some i → Within n r → i < n
at_within n r i h k = subst (Within n) h k

pub within_more : (m n : ℕ) (r : std.Option ℕ) → m ≤ n → Within m r → Within n r
within_more m n (std.Some i) l h = omega arith
within_more m n std.None l h = tt

-- ---- the search

module _ (s : List ℕ) (e : ℕ → Entry) (p : ℕ) (m : List ℕ) where
  -- none with the name from entry i on
  pub last_until : (i n : ℕ) → i ≤ n → ((k : ℕ) → i ≤ k → k < n → child_named s e p m k ≡ false) → last_named s e p m n ≡ last_named s e p m i
  unfolding last_named
  last_until i n l h =
      let x : i + (n - i) ≡ n = omega arith in
      ap (last_named s e p m) (sym x) ∙ go (n - i) (λ k a b. h k a (omega arith))
    where
      go : (j : ℕ) → ((k : ℕ) → i ≤ k → k < i + j → child_named s e p m k ≡ false) → last_named s e p m (i + j) ≡ last_named s e p m i
      go zero h = rw add-zero
      go (suc j) h = rw (add-suc, h (i + j) (omega arith) (omega arith)) (go j (λ k a b. h k a (omega arith)))

  not_child : (k : ℕ) → ((e k).parent ≡ p → ⊥) → child_named s e p m k ≡ false
  not_child k h = rw (ne_eqb _ _ h)

  -- none with the name at all
  pub last_nowhere : (n : ℕ) → ((k : ℕ) → k < n → child_named s e p m k ≡ false) → last_named s e p m n ≡ none
  unfolding last_named
  last_nowhere n h = last_until 0 n (omega arith) (λ k a b. h k b)

  pub nowhere_last : (n : ℕ) → last_named s e p m n ≡ none → (k : ℕ) → k < n → child_named s e p m k ≡ false
  unfolding last_named
  nowhere_last zero h k l = absurd (omega arith)
  nowhere_last (suc n) h k l = go (λ z y. nowhere_last n z k y) (child_named s e p m n) refl (dec_lt k n) h
    where
      go : (last_named s e p m n ≡ none → k < n → child_named s e p m k ≡ false) → (b : Bool) → child_named s e p m n ≡ b → Dec (k < n)
          → cond b (some n) (last_named s e p m n) ≡ none → child_named s e p m k ≡ false
      go ih true q d h = absurd (none≢some (sym h))
      go ih false q (yes y) h = ih h y
      go ih false q (no y) h = let x : k ≡ n = omega (arith, y) in rw x q

  -- one of the name, and none
  pub some_there : (n k : ℕ) → k < n → child_named s e p m k ≡ true → false ≡ is_none (last_named s e p m n)
  some_there n k l h = go (last_named s e p m n) refl
    where
      go : (o : Option ℕ) → last_named s e p m n ≡ o → false ≡ is_none o
      go none q = absurd (true≢false (sym h ∙ nowhere_last n q k l))
      go (some j) q = refl

  -- one entry more
  pub last_yes : (i : ℕ) → child_named s e p m i ≡ true → last_named s e p m (i + 1) ≡ some i
  unfolding last_named
  last_yes i h = rw (add-one, h)

  pub last_no : (i : ℕ) → child_named s e p m i ≡ false → last_named s e p m (i + 1) ≡ last_named s e p m i
  unfolding last_named
  last_no i h = rw (add-one, h)

  -- as the code has it: r is entry i
  module _ (i : ℕ) (r : Entry) (q : r ≡ e i) where
    pub named_child : (b : Bool) → r.parent ≡ p → b ≡ same m (name_of s r) → b ≡ child_named s e p m i
    named_child b h k = rw (← q, eq-eqb _ _ h) k

  pub last_none : (n r : ℕ) → Ordered e n → r ≤ p → r ≤ n → last_named s e p m r ≡ none
  last_none n r o l k = last_nowhere r (λ i a. not_child i (child_after e n p o i (omega arith) (omega arith)))

  -- what the search finds is what the level has
  pub find_last : (r : ℕ) → 0 < length m → find m (slots_of s (firsts r e) p) ≡ last_named s e p m r
  unfolding last_named find
  find_last zero h = ap (find m) (slots_start s p e)
  find_last (suc r) h = ap (find m) (slots_more s p r e) ∙ find_step s m p r (e r) _ h ∙ rw (find_last r h)

  pub find_run : (n r : ℕ) → Run e n p r → 0 < length m → last_named s e p m r ≡ find m (slots_of s (firsts n e) p)
  find_run n r q h = sym (find_last n h ∙ last_until r n q.below.high (λ k a b. not_child k (q.over k a b)))

  -- a search that ends at `to` has come to i, and found x
  pub record Sought (to i : ℕ) (x : Option ℕ) : Type 0 where
    pub by : i ≤ to → x ≡ last_named s e p m i
    pub past : to ≤ i → x ≡ last_named s e p m to

  pub sought_start : (to i : ℕ) (x : Option ℕ) → i ≤ to → x ≡ last_named s e p m i → Sought to i x
  sought_start to i x l h = record { by = λ _. h; past = λ k. let z : to ≡ i = omega arith in rw z h }

  -- from entry i past all that lies below it
  pub sought_on : (n to i j : ℕ) (x : Option ℕ) → i < to → p ≤ i → Run e n (i + 1) j → x ≡ last_named s e p m (i + 1) → Sought to j x
  sought_on n to i j x l k r h =
      record {
        by = λ q. h ∙ sym (last_until (i + 1) j r.below.low (λ w a b. not_child w (hop e n p i j k r w a b)));
        past = λ q. h ∙ sym (last_until (i + 1) to (omega arith) (λ w a b. not_child w (hop e n p i j k r w a (omega arith))));
      }
