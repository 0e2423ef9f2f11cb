-- Two reads in a row: the second number stands after the first one's bytes, and two bytes are a record's start. Assumes nothing.
use Prim.Native.Nat.{ℕ, ◌+◌, ◌≤◌}
use mathlib.Core.Path.{◌≡◌, refl, sym, ap, ◌∙◌}
use mathlib.Core.List.{List}
use native.Mathlib.Omega.{arith}
use borrow.Author.Tests.{lt-ltb, le-ltb}
use lib.Dec.{lit≤}
use lib.ListN.{length}
use denote.Ref.{Bor}
use Rattle.std.specs.Prelude.{Result, Ok, Err}
use Rattle.std.specs.Result.{result_ok}
use Rattle.std.specs.Prelude as std
use Rattle.std.proofs.Math.Option.{Option, none, some}
use Rattle.format.proofs.Ground.Bytes.{le_one}
use Rattle.format.specs.Answer.{Answer}
use Rattle.cursor.specs.Words.{to, word_of, word_at}
use Rattle.cursor.specs.declared.Cursor.{Cursor}
use Rattle.format.specs.declared.refusal.Refusal.{Refusal}
use Rattle.cursor.proofs.Reading.{cut, was_cut, was_got}
use Rattle.chunk_cursor.specs.Places.{part_of, place_after, start_at}
use Rattle.chunk_cursor.specs.declared.ChunkCursor.{ChunkCursor}
use Rattle.chunk_cursor.specs.declared.Start.{Start}

-- what the reads of the two bytes make together
abbrev pub start_by : std.Option (ℕ × Cursor) → std.Option (ℕ × Cursor) → Option Start
start_by (std.Some (k, a)) (std.Some (n, c)) = some (record { kind = k; units = n; name = c })
start_by (std.Some (k, a)) std.None = none
start_by std.None w = none

module _ (m n : ℕ) (s : List ℕ) (a e : ℕ) (fits : m ≤ n) where
  -- where the first is cut, so is what would stand after it
  pub second : (k : Result (ℕ × Cursor) Refusal) → word_of k ≡ word_at m s (to a e) → word_at n s (to (place_after a k) e) ≡ word_at n s (to (a + m) e)
  second (Ok (x, d)) q = let p = (was_got m s (to a e) (sym q)).2 in ap (λ (c : ℕ). word_at n s (to c e)) (ap (λ c. c.at) p)
  second (Err x) q =
      let h = (was_cut m s (to a e) x (sym q)).0 in
      sym (cut n s (to a e) (omega (arith, h))).0 ∙ (cut n s (to (a + m) e) (omega (arith, h))).0

-- two reads of one byte are a record's start
starts : (s : List ℕ) (a : ℕ) (k t : Result (ℕ × Cursor) Refusal) → word_of k ≡ word_at 1 s (to a (length s)) → word_of t ≡ word_at 1 s (to (a + 1) (length s))
    → start_by (result_ok k) (result_ok t) ≡ start_at s a
unfolding start_at
starts s a (Ok (x, c)) (Ok (y, d)) p q =
    let (l, e, z) = was_got 1 s (to a (length s)) (sym p) in
    let (m, f, w) = was_got 1 s (to (a + 1) (length s)) (sym q) in
    let two : a + 1 + 1 ≡ a + 2 = omega arith in
    rw (le-ltb (length s) (a + 2) (omega (arith, m)), e ∙ le_one s a, f ∙ le_one s (a + 1), w ∙ ap (λ (p : ℕ). to p (length s)) two) refl
starts s a (Ok (x, c)) (Err e) p q = let m = (was_cut 1 s (to (a + 1) (length s)) e (sym q)).0 in rw (lt-ltb (length s) (a + 2) (omega (arith, m)))
starts s a (Err e) t p q = let m = (was_cut 1 s (to a (length s)) e (sym p)).0 in rw (lt-ltb (length s) (a + 2) (omega (arith, m)))

-- the same through the chunk's cursor: c at the place a of the slice x, k read there, d after it, and t read at d
pub through : (x : Bor (List ℕ)) (a : ℕ) (c d : ChunkCursor) (k t : Result (ℕ × Cursor) Refusal) → (c.slice ≡ x) × (c.at ≡ a)
    → word_of k ≡ word_at 1 c.slice.now (part_of c)
    → (d.slice ≡ c.slice) × (d.at ≡ place_after c.at k) → word_of t ≡ word_at 1 d.slice.now (part_of d)
    → start_by (result_ok k) (result_ok t) ≡ start_at x.now a
through x a c d k t made first moved then =
    let at_x : (y : Bor (List ℕ)) (p : ℕ) → Answer (ℕ × Cursor) = λ y p. word_at 1 y.now (to p (length y.now)) in
    let k-is : word_of k ≡ word_at 1 x.now (to a (length x.now)) = first ∙ (ap (λ y. at_x y c.at) made.0 ∙ ap (λ p. at_x x p) made.1) in
    let t-is : word_of t ≡ word_at 1 x.now (to (place_after a k) (length x.now)) =
    then ∙ (ap (λ y. at_x y d.at) (moved.0 ∙ made.0) ∙ ap (λ p. at_x x p) (moved.1 ∙ ap (λ p. place_after p k) made.1)) in
    starts x.now a k t k-is (t-is ∙ second 1 1 x.now a (length x.now) (lit≤ tt) k k-is)
