-- What is known of a slice by how a record starts in it. Assumes nothing.
use Prim.Native.Nat.{ℕ, ◌+◌, ◌≤◌, ◌<◌}
use mathlib.Core.Path.{◌≡◌, refl}
use mathlib.Core.Bool.{Bool, true, false, cond}
use mathlib.Core.Option.{none, some}
use mathlib.Core.List.{List}
use native.Mathlib.Omega.{arith}
use borrow.Author.Tests.{ltb-true, ltb-false}
use lib.Dec.{ltb}
use lib.ListN.{length, get_or}
use Rattle.cursor.specs.Words.{to}
use Rattle.chunk_cursor.specs.Places.{start_at}
use Rattle.chunk_cursor.specs.declared.Start.{Start}

module _ (s : List ℕ) (a : ℕ) where
  -- the two bytes that stand there
  abbrev bytes : Start
  bytes = record { kind = get_or s a 0; units = get_or s (a + 1) 0; name = to (a + 2) (length s) }

  pub was_short : start_at s a ≡ none → length s < a + 2
  unfolding start_at
  was_short e = go (ltb (length s) (a + 2)) refl e
    where
      go : (b : Bool) → ltb (length s) (a + 2) ≡ b → cond b none (some bytes) ≡ none → length s < a + 2
      go true q e = ltb-true _ _ q
      go false q e = absurd (let z : ◌≡◌ {A = ℕ} 0 1 = cc in omega arith)

  pub was_begun : {o : Start} → start_at s a ≡ some o → (a + 2 ≤ length s) × (o ≡ bytes)
  unfolding start_at
  was_begun {o} e = go (ltb (length s) (a + 2)) refl e
    where
      go : (b : Bool) → ltb (length s) (a + 2) ≡ b → cond b none (some bytes) ≡ some o → (a + 2 ≤ length s) × (o ≡ bytes)
      go true q e = absurd (let z : ◌≡◌ {A = ℕ} 0 1 = cc in omega arith)
      go false q e = (ltb-false _ _ q, cc)
