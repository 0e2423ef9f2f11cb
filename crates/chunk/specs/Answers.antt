-- What each answer of this crate stands for: document 01's number, or the value.
use Rattle.std.specs.Prelude.{ℕ, ◌+◌, ◌≤◌, List, [], length, get_or, map, Option, None, Result, Ok, Err}
use Rattle.std.specs.Borrow.{Bor}
use Rattle.std.proofs.Math.Option as Math
use Rattle.format.specs.Answer.{Answer, given, refused, and_then}
use Rattle.format.specs.Given.{maybe, number}
use Rattle.format.specs.Refusals as why
use Rattle.format.specs.Map.{map_entries, offset_of}
use Rattle.format.specs.declared.Range.{Range}
use Rattle.format.specs.declared.refusal.Refusal.{Refusal}
use Rattle.format.specs.declared.refusal.Refusal.TheVariants.{Chunk, ChunkName}
use Rattle.chunk.specs.declared.ChunkFault.{ChunkFault}
use Rattle.chunk.specs.declared.ChunkFault.TheVariants.{Bad, Misnamed}

-- the refusal of a chunk that the map has under its name
abbrev pub fault : ChunkFault → Refusal
fault Bad = Chunk
fault Misnamed = ChunkName

-- a chunk's data; `misnamed` is the refusal of a wrong name
abbrev pub data_of : ℕ → Result Range ChunkFault → Answer Range
data_of misnamed (Ok r) = given r
data_of misnamed (Err Bad) = refused why.chunk
data_of misnamed (Err Misnamed) = refused misnamed

-- the data ends in the file
abbrev pub DataIn : List ℕ → {E : Type 0} → Result Range E → Type 0
DataIn s (Ok r) = r.start + r.len ≤ length s
DataIn s (Err e) = Unit

-- what the map has under a name: the last entry's offset, if there is one
abbrev pub lookup_of : Result (Option ℕ) Refusal → Answer (Math.Option ℕ)
lookup_of (Ok o) = given (maybe o)
lookup_of (Err e) = refused (number e)

-- the answer for name k of several
abbrev pub nth : Result (List (Option ℕ)) Refusal → ℕ → Result (Option ℕ) Refusal
nth (Ok os) k = Ok (get_or os k None)
nth (Err e) k = Err e

-- name k of several
abbrev pub name_at : List (Bor (List ℕ)) → ℕ → List ℕ
name_at names k = get_or (map (λ s. s.now) names) k []

-- the map's refusal, or what its last entry of a name gives
unfoldable pub find_in : List ℕ → List ℕ → Answer (Math.Option ℕ)
find_in m name = and_then (map_entries m) λ es. given (offset_of m name es)
