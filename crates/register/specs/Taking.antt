-- Records of frames, with more of the map's entries taken.
use Rattle.std.specs.Prelude.{ℕ, ◌≡◌, List}
use Rattle.format.specs.Bytes.{over}
use Rattle.format.specs.Map.{MapEntry}
use Rattle.format.specs.Calls.Register.{register_from}
use Rattle.format.specs.declared.Loop.{Loop}

-- where `buf` begins with the records of `count` frames as the entries es have them, `out` has them as the entries fs do, and is else the same
pub record Taken (m : List ℕ) (count : ℕ) (es fs : List MapEntry) (buf out : List ℕ) : Type 0 where
  pub taken : (ls : List Loop) (b : List ℕ) → buf ≡ over (register_from count m es ls 0) b → out ≡ over (register_from count m fs ls 0) b
