-- Bytes that are not of the layout, and a summary that was stored and is read back. Assumes nothing.
use Prim.Native.Nat.{ℕ, zero, suc, ◌+◌, ◌*◌, ◌^◌, ◌≤◌, ◌<◌}
use mathlib.Core.Path.{◌≡◌, refl, sym, ap, ◌∙◌}
use mathlib.Core.Bool.{Bool, true, false, ◌&&◌, or-true}
use mathlib.Core.Option.{some}
use mathlib.Core.List.{List, [], ◌∷◌, ◌++◌, append-nil, append_assoc}
use native.Mathlib.Nat.{add-zero, zero-add}
use native.Mathlib.Omega.{arith}
use lib.ListN.{length, get_or, length-append}
use lib.Seq.{sets, length-sets}
use lib.Dec.{eqb, ltb, lit<, lit≤}
use lib.Ieee.{Float, binary32, of_bits, to_bits}
use Rattle.format.proofs.Ground.Buffers.{over_stored, over_all}
use Rattle.format.proofs.Ground.Bytes.{le_stored, le_elsewhere, le_bytes_length, sets_append}
use Rattle.format.proofs.Ground.Tests.{and_none}
use Rattle.format.specs.Bytes.{le_at, le_bytes, over, zeros, each}
use Rattle.format.specs.Loops.{axis_number}
use Rattle.format.specs.Summary.{no_loop}
use Rattle.format.specs.declared.Axis.{Axis}
use Rattle.format.specs.declared.Axis.TheVariants.{T, Z, P}
use Rattle.format.specs.declared.Loop.{Loop}
use Rattle.format.specs.declared.Channel.{Channel}
use Rattle.format.specs.declared.Summary.{Summary}
use Rattle.layout.specs.Layout.{word, axis_from, loop_from, summary_in, axis_said, of_layout, summary_from}
use Rattle.layout.specs.Layout.{words_of, single_bytes, summary_bytes, channel_bytes}
use Rattle.layout.proofs.Each.{each_length}

-- not each of the three places is unused or has an axis
pub unsaid : (b : List ℕ) → (((i : ℕ) → i < 3 → axis_said b i ≡ true) → ⊥) → of_layout b ≡ false
unfolding of_layout
unsaid b h = go (axis_said b 0) (axis_said b 1) (axis_said b 2) refl refl refl
  where
    go : (x y z : Bool) → axis_said b 0 ≡ x → axis_said b 1 ≡ y → axis_said b 2 ≡ z
        → (eqb (length b) 144 && (x && y && z && eqb (le_at 4 b 140) 0)) ≡ false
    go false y z p q r = and_none _ _ refl
    go true false z p q r = and_none _ _ refl
    go true true false p q r = and_none _ _ refl
    go true true true p q r = absurd (h each)
      where
        each : (i : ℕ) → i < 3 → axis_said b i ≡ true
        each zero l = p
        each (suc zero) l = q
        each (suc (suc zero)) l = r
        each (suc (suc (suc i))) l = absurd (omega arith)

-- ---- stored

-- four bytes that are stored leave what stands before them
before : (n k p q v : ℕ) (l : List ℕ) → q + n ≤ p → le_at n (sets l p (le_bytes k v)) q ≡ le_at n l q
before n k p q v l h = le_elsewhere n (le_bytes k v) l p q λ j a b c d. omega arith

-- words that are stored one after another are read back
pub words_back : (w b : List ℕ) (at i : ℕ) → ((k : ℕ) → get_or w k 0 < 2 ^ 64) → at + 8 * length w ≤ length b → i < length w
    → le_at 8 (sets b at (each (le_bytes 8) w)) (at + 8 * i) ≡ get_or w i 0
unfolding each
words_back [] b at i f room h = absurd (omega arith)
words_back (v ∷ w) b at zero f room h =
    rw (sets_append (le_bytes 8 v) (each (le_bytes 8) w) b at, le_bytes_length, add-zero)
    (le_elsewhere 8 (each (le_bytes 8) w) (sets b at (le_bytes 8 v)) (at + 8) at (λ j x y z. omega arith) ∙ le_stored 8 b at v (omega arith) (f 0))
words_back (v ∷ w) b at (suc i) f room h =
    let e : at + 8 * suc i ≡ at + 8 + 8 * i = omega arith in
    rw (sets_append (le_bytes 8 v) (each (le_bytes 8) w) b at, le_bytes_length, e)
    (words_back w (sets b at (le_bytes 8 v)) (at + 8) i (λ k. f (suc k)) (rw (length-sets b at (le_bytes 8 v)) (omega arith)) (omega arith))

-- a channel's words
pub channel_words : (c : Channel)
    → each (le_bytes 8) (c.named ∷ c.name ∷ c.units ∷ c.colored ∷ c.red ∷ c.green ∷ c.blue ∷ []) ≡ channel_bytes c
unfolding each channel_bytes
channel_words c = simp (append-nil, channel_bytes, append_assoc)

-- ---- a summary

axis_back : (a : Axis) → axis_from (axis_number a) ≡ a
unfolding axis_from
axis_back T = refl
axis_back Z = refl
axis_back P = refl

axis_small : (a : Axis) → ltb (axis_number a) 3 ≡ true
axis_small T = refl
axis_small Z = refl
axis_small P = refl

three : (l : List Loop) → length l ≡ 3 → get_or l 0 no_loop ∷ get_or l 1 no_loop ∷ get_or l 2 no_loop ∷ [] ≡ l
three [] h = absurd (omega arith)
three (a ∷ []) h = absurd (omega arith)
three (a ∷ b ∷ []) h = absurd (omega arith)
three (a ∷ b ∷ c ∷ []) h = refl
three (a ∷ b ∷ c ∷ d ∷ l) h = absurd (omega arith)

-- A summary's words are stored at the start of b₀, which is then b, and patterns of its three numbers in f32 follow.
module _ (u : Summary) (b₀ b : List ℕ) (nx ny nz : ℕ) (long₀ : length b₀ ≡ 144) (full : length u.loops ≡ 3)
    (small : (k : ℕ) → get_or (words_of u) k 0 < 2 ^ 64) (put : b ≡ sets b₀ 0 (each (le_bytes 8) (words_of u)))
    (sx : nx < 2 ^ 32) (sy : ny < 2 ^ 32) (sz : nz < 2 ^ 32)
    (x : of_bits binary32 nx ≡ u.x) (y : of_bits binary32 ny ≡ u.y) (z : of_bits binary32 nz ≡ u.z) where
  abbrev b₁ : List ℕ
  b₁ = sets b 128 (le_bytes 4 nx)

  abbrev b₂ : List ℕ
  b₂ = sets b₁ 132 (le_bytes 4 ny)

  abbrev b₃ : List ℕ
  b₃ = sets b₂ 136 (le_bytes 4 nz)

  abbrev pub stored : List ℕ
  stored = sets b₃ 140 (le_bytes 4 0)

  long : length b ≡ 144
  long = ap length put ∙ length-sets b₀ 0 (each (le_bytes 8) (words_of u)) ∙ long₀

  words : (i : ℕ) → i < 16 → word b i ≡ get_or (words_of u) i 0
  words i h = rw put (rw zero-add at (words_back (words_of u) b₀ 0 i small (omega (arith, long₀)) h))

  at : (i : ℕ) → i < 16 → word stored i ≡ get_or (words_of u) i 0
  at i h =
      before 8 4 140 (8 * i) 0 b₃ (omega arith) ∙ before 8 4 136 (8 * i) nz b₂ (omega arith) ∙ before 8 4 132 (8 * i) ny b₁ (omega arith)
      ∙ before 8 4 128 (8 * i) nx b (omega arith) ∙ words i h

  long₁ : length b₁ ≡ 144
  long₁ = length-sets b 128 (le_bytes 4 nx) ∙ long

  long₂ : length b₂ ≡ 144
  long₂ = length-sets b₁ 132 (le_bytes 4 ny) ∙ long₁

  long₃ : length b₃ ≡ 144
  long₃ = length-sets b₂ 136 (le_bytes 4 nz) ∙ long₂

  x_at : le_at 4 stored 128 ≡ nx
  x_at =
      before 4 4 140 128 0 b₃ (lit≤ tt) ∙ before 4 4 136 128 nz b₂ (lit≤ tt) ∙ before 4 4 132 128 ny b₁ (lit≤ tt)
      ∙ le_stored 4 b 128 nx (omega (arith, long)) (omega (arith, sx))

  y_at : le_at 4 stored 132 ≡ ny
  y_at = before 4 4 140 132 0 b₃ (lit≤ tt) ∙ before 4 4 136 132 nz b₂ (lit≤ tt) ∙ le_stored 4 b₁ 132 ny (omega (arith, long₁)) (omega (arith, sy))

  z_at : le_at 4 stored 136 ≡ nz
  z_at = before 4 4 140 136 0 b₃ (lit≤ tt) ∙ le_stored 4 b₂ 136 nz (omega (arith, long₂)) (omega (arith, sz))

  end_at : le_at 4 stored 140 ≡ 0
  end_at = le_stored 4 b₃ 140 0 (omega (arith, long₃)) (lit< tt)

  said : summary_in stored ≡ u
  unfolding summary_in loop_from
  said =
      rw (
        at 0 (lit< tt),
        at 1 (lit< tt),
        at 2 (lit< tt),
        at 3 (lit< tt),
        at 4 (lit< tt),
        at 5 (lit< tt),
        at 6 (lit< tt),
        at 7 (lit< tt),
        at 8 (lit< tt),
        at 9 (lit< tt),
        at 10 (lit< tt),
        at 11 (lit< tt),
        at 12 (lit< tt),
        at 13 (lit< tt),
        at 14 (lit< tt),
        at 15 (lit< tt),
        x_at,
        y_at,
        z_at,
        x,
        y,
        z,
        axis_back,
        axis_back,
        axis_back,
        three u.loops full,
      ) refl

  laid : of_layout stored ≡ true
  unfolding of_layout
  laid =
      rw (
        length-sets b₃ 140 (le_bytes 4 0),
        long₃,
        at 0 (lit< tt),
        at 2 (lit< tt),
        at 4 (lit< tt),
        axis_small,
        axis_small,
        axis_small,
        or-true,
        or-true,
        or-true,
        end_at,
      ) refl

  pub stored_said : summary_from stored ≡ some u
  unfolding summary_from
  stored_said = rw (laid, said)

-- Words and patterns that were stored one after another are the summary's bytes.
module _ (u : Summary) (b₀ : List ℕ) (long : length b₀ ≡ 144) where
  abbrev w₀ : List ℕ
  w₀ = each (le_bytes 8) (words_of u)

  abbrev w₁ : List ℕ
  w₁ = w₀ ++ single_bytes u.x

  abbrev w₂ : List ℕ
  w₂ = w₁ ++ single_bytes u.y

  abbrev w₃ : List ℕ
  w₃ = w₂ ++ single_bytes u.z

  four : (x : Float) → length (single_bytes x) ≡ 4
  four x = le_bytes_length 4 (to_bits binary32 x)

  upto₀ : length w₀ ≡ 128
  upto₀ = each_length (le_bytes 8) 8 (le_bytes_length 8) (words_of u)

  upto₁ : length w₁ ≡ 132
  upto₁ = rw (length-append, upto₀, four u.x)

  upto₂ : length w₂ ≡ 136
  upto₂ = rw (length-append, upto₁, four u.y)

  upto₃ : length w₃ ≡ 140
  upto₃ = rw (length-append, upto₂, four u.z)

  upto₄ : length (w₃ ++ le_bytes 4 0) ≡ 144
  upto₄ = rw (length-append, upto₃, le_bytes_length)

  pub stored_bytes : {b : List ℕ} → b ≡ sets b₀ 0 w₀
      → sets (sets (sets (sets b 128 (single_bytes u.x)) 132 (single_bytes u.y)) 136 (single_bytes u.z)) 140 (le_bytes 4 0) ≡ summary_bytes u
  unfolding summary_bytes zeros over
  stored_bytes e =
      rw (
        e ∙ over_stored [] w₀ b₀ 0 refl (rw (upto₀, long) (lit≤ tt)),
        over_stored w₀ (single_bytes u.x) b₀ 128 upto₀ (rw (four u.x, long) (lit≤ tt)),
        over_stored w₁ (single_bytes u.y) b₀ 132 upto₁ (rw (four u.y, long) (lit≤ tt)),
        over_stored w₂ (single_bytes u.z) b₀ 136 upto₂ (rw (four u.z, long) (lit≤ tt)),
        over_stored w₃ (le_bytes 4 0) b₀ 140 upto₃ (rw (le_bytes_length, long) (lit≤ tt)),
      ) (over_all (w₃ ++ le_bytes 4 0) b₀ (upto₄ ∙ sym long) ∙ unfold le_bytes in refl)
