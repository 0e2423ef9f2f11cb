-- The register call: 20, 5, 25. The last holds also where the register would be longer than 2^64 − 1 bytes.
use Rattle.std.specs.Prelude.{ℕ, ◌*◌, ◌<◌, ◌≤◌, ◌≡◌, ◌⊎◌, List, [], ◌∷◌, ◌++◌, length, get_or}
use Rattle.format.specs.Bytes.{le_bytes, part, most64}
use Rattle.format.specs.Map.{MapEntry}
use Rattle.format.specs.Frames.{frames, seq_index}
use Rattle.format.specs.Summary.{loops_of, map_of}
use Rattle.format.specs.Grammar.Map.{MapOf}
use Rattle.format.specs.Refused.Summary.{Sound}
use Rattle.format.specs.Refused.Plane.{Within, FrameEntry}
use Rattle.format.specs.Refusals as why
use Rattle.format.specs.declared.Summary.{Summary}

-- when each refusal of a register holds; buf is the buffer that is lent for it
pub data RegisterRefusal (s : List ℕ) (u : Summary) (buf : List ℕ) : ℕ → Type 0 where
  summary : (Sound s u → ⊥) → RegisterRefusal s u buf why.summary
  map : ((es : List MapEntry) → MapOf (map_of s u) es → ⊥) → RegisterRefusal s u buf why.map
  short : (most64 < 24 * frames (loops_of u)) ⊎ (length buf < 24 * frames (loops_of u)) → RegisterRefusal s u buf why.buffer

abbrev pub register_order : List ℕ
register_order = why.summary ∷ why.map ∷ why.buffer ∷ []

-- the state and the offset of frame n: 0 and what the map says, or 1 and 0 where the map has no entry of it
pub data State (s : List ℕ) (u : Summary) (n : ℕ) : ℕ → ℕ → Type 0 where
  in_map : {o : ℕ} → FrameEntry s u n o → State s u n 0 o
  absent : ((o : ℕ) → FrameEntry s u n o → ⊥) → State s u n 1 0

-- the bytes of frame n's record: the triple in range whose frame number is n, the state and the offset
pub record FrameRecord (s : List ℕ) (u : Summary) (n : ℕ) (bytes : List ℕ) : Type 0 where
  pub scene : ℕ
  pub t : ℕ
  pub z : ℕ
  pub state : ℕ
  pub offset : ℕ
  pub in_range : Within (loops_of u) scene t z
  pub number : seq_index (loops_of u) scene t z ≡ n
  pub state_of : State s u n state offset
  pub spelled : bytes ≡ le_bytes 4 scene ++ (le_bytes 4 t ++ (le_bytes 4 z ++ (le_bytes 4 state ++ le_bytes 8 offset)))

-- `out` is what an accepted register leaves in `buf`: from its first byte on a record of 24 bytes for each frame, later bytes as before
pub record Registered (s : List ℕ) (u : Summary) (buf out : List ℕ) : Type 0 where
  pub frame : (n : ℕ) → n < frames (loops_of u) → FrameRecord s u n (part out (24 * n) 24)
  pub later : (i : ℕ) → 24 * frames (loops_of u) ≤ i → get_or out i 0 ≡ get_or buf i 0
  pub length_kept : length out ≡ length buf
