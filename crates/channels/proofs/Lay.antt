-- A row of which the first i records are written. Assumes nothing.
use mathlib.Core.Path.{◌≡◌, refl}
use mathlib.Core.List.{List, ◌++◌, append_assoc, append-nil}
use Prim.Native.Nat.{ℕ, suc, ◌+◌, ◌≤◌, ◌<◌}
use native.Mathlib.Numerals.{add-one}
use native.Mathlib.Omega.{arith}
use lib.ListN.{length, get_or, take, drop, set, length-append, length-drop}
use lib.Seq.{length-take-le, take-suc, take-length, drop-cons, drop-length, set_at}
use Rattle.format.specs.Channels.{empty_channel}
use Rattle.format.specs.declared.Channel.{Channel}

-- the first i of the records xs, and then what ys has
pub lay : List Channel → List Channel → ℕ → List Channel
lay xs ys i = take i xs ++ drop i ys

module _ (xs ys : List Channel) (same : length xs ≡ length ys) where
  pub lay_zero : ys ≡ lay xs ys 0
  unfolding lay
  lay_zero = refl

  pub lay_length : (i : ℕ) → i ≤ length ys → length (lay xs ys i) ≡ length ys
  unfolding lay
  lay_length i h = rw (length-append, length-take-le i xs (omega arith), length-drop) (omega arith)

  pub lay_next : (i : ℕ) (c : Channel) → i < length ys → c ≡ get_or xs i empty_channel → set (lay xs ys i) i c ≡ lay xs ys (i + 1)
  unfolding lay
  lay_next i c h e =
      rw (drop-cons ys i empty_channel h, add-one, take-suc xs i empty_channel (omega arith), append_assoc, ← e)
      (set_at (take i xs) (get_or ys i empty_channel) (drop (suc i) ys) c i (length-take-le i xs (omega arith)))

  pub lay_end : (i : ℕ) → i ≡ length ys → lay xs ys i ≡ xs
  unfolding lay
  lay_end i e = rw (e, drop-length, append-nil, ← same, take-length) refl
