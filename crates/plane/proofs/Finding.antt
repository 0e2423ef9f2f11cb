-- The frame of a point, as its tests, the map's entry and the chunk there. Assumes nothing.
use Prim.Native.Nat.{ℕ}
use mathlib.Core.Path.{◌≡◌, refl, ap}
use mathlib.Core.List.{List}
use mathlib.Core.Option.{Option, none, some}
use lib.Dec.{ltb}
use Rattle.format.specs.Answer.{Answer, given, refused, refuse_if, and_then, or_refuse}
use Rattle.format.specs.Refusals as why
use Rattle.format.specs.Map.{MapEntry, map_entries, offset_of}
use Rattle.format.specs.Attributes.{plane_bytes}
use Rattle.format.specs.Frames.{seq_index, frame_name}
use Rattle.format.specs.Summary.{shape_of, loops_of, map_of, bad_summary}
use Rattle.format.specs.Calls.Plane.{most_plane_bytes, bad_index, frame_of}
use Rattle.format.specs.declared.Range.{Range}
use Rattle.format.specs.declared.Summary.{Summary}
use Rattle.chunk.specs.Answers.{find_in}
use Rattle.plane.specs.Found.{found_at}

-- what stands at the entry that the map has for a frame
abbrev pub at_entry : Answer (Option ℕ) → (ℕ → Answer Range) → Answer Range
at_entry (refused n) f = refused n
at_entry (given none) f = refused why.no_frame
at_entry (given (some o)) f = f o

module _ (s : List ℕ) (u : Summary) (scene t c z : ℕ) where
  abbrev name : List ℕ
  name = frame_name (seq_index (loops_of u) scene t z)

  pub frame_is : frame_of s u scene t c z
      ≡ refuse_if (bad_summary s u) why.summary
      (refuse_if (bad_index u scene t c z) why.index
      (refuse_if (ltb most_plane_bytes (plane_bytes (shape_of u))) why.ceiling (at_entry (find_in (map_of s u) name) (found_at s u name))))
  unfolding frame_of find_in found_at and_then or_refuse
  frame_is =
      ap
      (λ (x : Answer Range). refuse_if (bad_summary s u) why.summary
      (refuse_if (bad_index u scene t c z) why.index (refuse_if (ltb most_plane_bytes (plane_bytes (shape_of u))) why.ceiling x)))
      (by_map (map_entries (map_of s u)))
    where
      by_entry : (x : Option ℕ) → and_then (or_refuse x why.no_frame) (found_at s u name) ≡ at_entry (given x) (found_at s u name)
      by_entry none = refl
      by_entry (some o) = refl

      by_map : (x : Answer (List MapEntry))
          → (and_then x λ es. and_then (or_refuse (offset_of (map_of s u) name es) why.no_frame) (found_at s u name))
          ≡ at_entry (and_then x λ es. given (offset_of (map_of s u) name es)) (found_at s u name)
      by_map (refused n) = refl
      by_map (given es) = by_entry (offset_of (map_of s u) name es)
