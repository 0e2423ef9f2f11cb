-- Names of frames, read.
use Rattle.std.specs.Prelude.{ℕ, ◌+◌, ◌^◌, ◌≤◌, ◌<◌, ◌≡◌, List, Option, Some, None}
use Rattle.format.specs.Frames.{frame_name}
use Rattle.format.specs.Grammar.Frames.{Decimal}

-- the byte b is the digit of the number, or no digit
abbrev pub Digit : ℕ → Option ℕ → Type 0
Digit b (Some d) = (d < 10) × (b ≡ 48 + d)
Digit b None = 48 ≤ b → b ≤ 57 → ⊥

-- the bytes are the decimal digits of a number below 2^64, or of none
abbrev pub Spells : List ℕ → Option ℕ → Type 0
Spells ds (Some k) = Decimal k ds × (k < 2 ^ 64)
Spells ds None = (k : ℕ) → k < 2 ^ 64 → Decimal k ds → ⊥

-- the bytes are the name of a frame whose number is below 2^64, or of none
abbrev pub Names : List ℕ → Option ℕ → Type 0
Names name (Some k) = (name ≡ frame_name k) × (k < 2 ^ 64)
Names name None = (k : ℕ) → k < 2 ^ 64 → name ≡ frame_name k → ⊥
