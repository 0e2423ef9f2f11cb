-- The frame that a chunk is, and the samples in a frame's rows.
use Rattle.std.specs.Prelude.{ℕ, ◌*◌, ◌≤◌, ◌<◌, List}
use Rattle.format.specs.Answer.{Answer, given, refuse_if, and_then}
use Rattle.format.specs.Refusals as why
use Rattle.format.specs.Chunks.{chunk_data}
use Rattle.format.specs.Attributes.{sample_bytes, plane_bytes}
use Rattle.format.specs.Summary.{shape_of}
use Rattle.format.specs.Calls.Plane.{bad_frame}
use Rattle.format.specs.Grammar.Attributes.{Bits, Shape}
use Rattle.format.specs.declared.Range.{Range}
use Rattle.format.specs.declared.Summary.{Summary}
use Rattle.plane.specs.Pieces.{rows}

-- the frame whose chunk is at the offset o, where it has to bear the name: 4, 29, 4, 24
unfoldable pub found_at : List ℕ → Summary → List ℕ → ℕ → Answer Range
found_at s u name o = and_then (chunk_data why.chunk_name name s o) λ r. refuse_if (bad_frame u r.len) why.frame_short (given r)

-- the samples of component c in the rows of a frame
abbrev pub plane_in : Summary → ℕ → List ℕ → List ℕ
plane_in u c s =
    let size = sample_bytes u.bits in
    rows s (c * size) u.stride (u.components * size) size u.width u.height

-- a frame of this shape has component c, `len` bytes hold its rows, and `room` bytes a plane of it
pub record Fit (u : Summary) (c len room : ℕ) : Type 0 where
  pub bits : Bits u.bits
  pub shape : Shape (shape_of u)
  pub component : c < u.components
  pub whole : u.height * u.stride ≤ len
  pub enough : plane_bytes (shape_of u) ≤ room
