-- A reading step at a cursor, at every width: what a cut is, and what an answer tells. Assumes nothing.
use Prim.Native.Nat.{ℕ, ◌+◌, ◌-◌, ◌≤◌, ◌<◌}
use mathlib.Core.Path.{◌≡◌, refl, ap}
use mathlib.Core.Bool.{Bool, true, false, cond}
use mathlib.Core.List.{List}
use native.Mathlib.Omega.{arith}
use borrow.Author.Tests.{lt-ltb, ltb-true, ltb-false}
use lib.Dec.{ltb}
use Rattle.std.specs.Prelude.{Ok, Err}
use Rattle.format.specs.Bytes.{le_at}
use Rattle.cursor.specs.Words.{to, word_of, word_at, GoodWord}
use Rattle.format.specs.Given.{number}
use Rattle.format.specs.declared.refusal.Refusal.{Refusal}
use Rattle.format.specs.declared.refusal.Refusal.TheVariants.{Cut}
use Rattle.cursor.specs.declared.Cursor.{Cursor}

module _ (n : ℕ) (s : List ℕ) (c : Cursor) where
  pub cut : c.end - c.at < n → (word_of (Err Cut) ≡ word_at n s c) × GoodWord s c n (Err Cut)
  unfolding word_at
  cut h = (rw (lt-ltb _ _ h), refl)

  pub was_cut : (x : Refusal) → word_at n s c ≡ word_of (Err x) → (c.end - c.at < n) × (number x ≡ 6)
  unfolding word_at
  was_cut x e = go (ltb (c.end - c.at) n) refl e
    where
      go : (b : Bool) → ltb (c.end - c.at) n ≡ b → cond b (word_of (Err Cut)) (word_of (Ok (le_at n s c.at, to (c.at + n) c.end))) ≡ word_of (Err x)
          → (c.end - c.at < n) × (number x ≡ 6)
      go true q e = (ltb-true _ _ q, cc)
      go false q e = absurd (let z : ◌≡◌ {A = ℕ} 0 1 = cc in omega arith)

  pub was_got : {v : ℕ} {d : Cursor} → word_at n s c ≡ word_of (Ok (v, d)) → (n ≤ c.end - c.at) × (v ≡ le_at n s c.at) × (d ≡ to (c.at + n) c.end)
  unfolding word_at
  was_got {v} {d} e = go (ltb (c.end - c.at) n) refl e
    where
      go : (b : Bool) → ltb (c.end - c.at) n ≡ b → cond b (word_of (Err Cut)) (word_of (Ok (le_at n s c.at, to (c.at + n) c.end))) ≡ word_of (Ok (v, d))
          → (n ≤ c.end - c.at) × (v ≡ le_at n s c.at) × (d ≡ to (c.at + n) c.end)
      go true q e = absurd (let z : ◌≡◌ {A = ℕ} 0 1 = cc in omega arith)
      go false q e =
          let i : ◌≡◌ {A = ℕ × Cursor} (v, d) (le_at n s c.at, to (c.at + n) c.end) = cc in
          (ltb-false _ _ q, ap (λ (x : ℕ × Cursor). x.0) i, ap (λ (x : ℕ × Cursor). x.1) i)
