-- Document 01, The grammar: the numbers of frames and their names, as rules.
use Rattle.std.specs.Prelude.{ℕ, ◌+◌, ◌*◌, ◌<◌, ◌≡◌, List, [], ◌∷◌, ◌++◌}
use Rattle.format.specs.Bytes.{ascii}
use Rattle.format.specs.declared.Axis.{Axis}
use Rattle.format.specs.declared.Axis.TheVariants.{T, Z, P}
use Rattle.format.specs.declared.Loop.{Loop}

-- ---- numbers

-- the index that (scene, t, z) has on an axis
pub data IndexOn (scene t z : ℕ) : Axis → ℕ → Type 0 where
  time : IndexOn scene t z T t
  focus : IndexOn scene t z Z z
  points : IndexOn scene t z P scene

-- Loops, the outermost first, lead from the number n to m: each multiplies by its count and adds the index on its axis.
pub data Leads (scene t z : ℕ) : ℕ → List Loop → ℕ → Type 0 where
  over : {n : ℕ} → Leads scene t z n [] n
  loop : {n m i : ℕ} {l : Loop} {ls : List Loop} → IndexOn scene t z l.axis i → Leads scene t z (n * l.count + i) ls m
      → Leads scene t z n (l ∷ ls) m

-- n is the frame number of (scene, t, z)
abbrev pub FrameNumber : List Loop → ℕ → ℕ → ℕ → ℕ → Type 0
FrameNumber ls scene t z n = Leads scene t z 0 ls n

-- how many values an axis has: one where no loop runs over it
pub data AxisCount (a : Axis) : List Loop → ℕ → Type 0 where
  no_loop : AxisCount a [] 1
  its_loop : {l : Loop} {ls : List Loop} → l.axis ≡ a → AxisCount a (l ∷ ls) l.count
  another : {n : ℕ} {l : Loop} {ls : List Loop} → (l.axis ≡ a → ⊥) → AxisCount a ls n → AxisCount a (l ∷ ls) n

-- how many frames the loops make
pub data FrameCount : List Loop → ℕ → Type 0 where
  one : FrameCount [] 1
  times : {n : ℕ} {l : Loop} {ls : List Loop} → FrameCount ls n → FrameCount (l ∷ ls) (l.count * n)

-- ---- names

-- n in decimal digits, with no zero in front
pub data Decimal : ℕ → List ℕ → Type 0 where
  digit : {n : ℕ} → n < 10 → Decimal n ((48 + n) ∷ [])
  digits : {n d : ℕ} {ds : List ℕ} → 0 < n → Decimal n ds → d < 10 → Decimal (n * 10 + d) (ds ++ (48 + d) ∷ [])

-- the name of the chunk of frame n: its number between `ImageDataSeq|` and `!`
pub record FrameName (n : ℕ) (name : List ℕ) : Type 0 where
  pub number : List ℕ
  pub decimal : Decimal n number
  pub spelled : name ≡ ascii "ImageDataSeq|" ++ (number ++ ascii "!")
