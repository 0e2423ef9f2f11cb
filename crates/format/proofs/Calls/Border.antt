-- A border call's number is opening's, or that of the plane of the summary that the file is joined to. Assumes nothing.
use Prim.Native.Nat.{ℕ}
use mathlib.Core.Path.{◌≡◌, refl}
use mathlib.Core.List.{List}
use lib.ListN.{length}
use Rattle.format.proofs.Ground.Stages.{decides_map, first_map, first_then, first_once}
use Rattle.format.proofs.Files.FoundOnce.{stage_once}
use Rattle.format.proofs.Calls.Open.{open_decides}
use Rattle.format.proofs.Files.Joined.{opened_iff_joined, joined_unique}
use Rattle.format.proofs.Calls.Plane.{plane_number, plane_stage_once}
use Rattle.format.specs.Trees.{room_in}
use Rattle.format.specs.Calls.Open.{opened}
use Rattle.format.specs.Calls.Border.{border_call, plane_after}
use Rattle.format.specs.Grammar.File.{Joined}
use Rattle.format.specs.Refused.Order.{FirstAt}
use Rattle.format.specs.Refused.Plane.{PlaneStage, PlaneRefusal}
use Rattle.format.specs.Refused.Open.{Stage, OpenRefusal}
use Rattle.format.specs.Refused.Border.{BorderStage, opening, reading, border_order, BorderRefusal, BorderFirst, open_refused, plane_refused}
use Rattle.format.specs.declared.Summary.{Summary}

module _ (s : List ℕ) (room scene t c z : ℕ) (buf : List ℕ) where
  abbrev Q : BorderStage → ℕ → Type 0
  Q = BorderRefusal s room scene t c z buf

  says_open : (a : Stage) (n : ℕ) → Q (opening a) n → OpenRefusal s room a n
  says_open a n (open_refused x) = x

  -- of the one summary that the file is joined to
  says_plane : (u : Summary) → Joined s u → (a : PlaneStage) (n : ℕ) → Q (reading a) n → PlaneRefusal s u scene t c z buf a n
  says_plane u j a n (plane_refused {u = v} k p) = rw (joined_unique s u v j k) p

  border_first : FirstAt Q border_order (plane_after s scene t c z buf (opened s room)).number
  unfolding plane_after
  border_first =
      first_then (λ x. (plane_after s scene t c z buf x).number) (λ n. refl) (decides_map opening (λ a n. open_refused) says_open (open_decides s room)) λ u e.
      let (j, f) = (opened_iff_joined s room u).0 e in
      first_map reading (λ a n. plane_refused j) (says_plane u j) (plane_number s u scene t c z buf)

  once : (a : BorderStage) (n m : ℕ) → Q a n → Q a m → n ≡ m
  once a n m (open_refused {a = b} x) (open_refused y) = stage_once s room b n m x y
  once a n m (plane_refused {u = u} {a = b} j x) (plane_refused k y) =
      plane_stage_once s u scene t c z buf b n m x (says_plane u j b m (plane_refused k y))

  -- No other number is.
  pub border_number_only : (n m : ℕ) → FirstAt Q border_order n → FirstAt Q border_order m → n ≡ m
  border_number_only n m x y = first_once once x y

-- The border call's number is what its first stage that refuses gives.
pub border_number : (file bytes : List ℕ) (scene t c z : ℕ) (samples : List ℕ)
    → BorderFirst file bytes scene t c z samples (border_call file bytes scene t c z samples).number
unfolding border_call
border_number file bytes scene t c z samples = border_first file (room_in (length bytes)) scene t c z samples
