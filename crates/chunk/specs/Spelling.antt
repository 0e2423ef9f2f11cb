-- A name at the end of an array.
use Rattle.std.specs.Prelude.{ℕ, ◌≤◌, ◌≡◌, List, [], ◌∷◌, ◌++◌, length, drop}
use Rattle.format.specs.Frames.{decimal}
use Rattle.chunk.specs.declared.frame.Name.{Name}

-- the array ends with this text
pub record Spelled (text : List ℕ) (r : Name) : Type 0 where
  pub tail : drop r.from r.name ≡ text
  pub high : r.from ≤ 40
  pub size : length r.name ≡ 40

-- it ends with n's digits and '!', and 13 bytes have room before them
pub record Written (n : ℕ) (r : Name) : Type 0 where
  pub spelled : Spelled (decimal n ++ (33 ∷ [])) r
  pub low : 13 ≤ r.from
