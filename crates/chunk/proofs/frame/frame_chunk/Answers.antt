-- The name that the chunk has to bear is the array from `from` on.
use Prim.Native.Nat.{ℕ}
use mathlib.Core.Path.{ap, ◌∙◌}
use mathlib.Core.List.{List}
use Rattle.format.specs.Chunks.{chunk_data}
use Rattle.chunk.proofs.Decimal.{name_part}
use Rattle.chunk.proofs.frame.frame_chunk.Goals as goal

pub returns : goal.returns
returns c =
    let f = c.frame_name-f in
    let a = c.args in
    let e = name_part _ f.result f.ensures in
    (λ w. c.chunk_data.ensures.0 w ∙ ap (λ (x : List ℕ). chunk_data w x a.file.now a.offset) e, c.chunk_data.ensures.1)
