-- The plane records are those of the child levels of one level. Assumes nothing.
use Prim.Native.Nat.{ℕ}
use mathlib.Core.Path.{◌≡◌, refl}
use mathlib.Core.Option.{Option, none, some, or_else}
use mathlib.Core.List.{List, [], map}
use Rattle.format.specs.Bytes.{ascii}
use Rattle.format.specs.Values.{level, field, field_in, as_level, bind}
use Rattle.format.specs.Loops.{child_levels}
use Rattle.format.specs.Channels.{plane_record, plane_levels, planes_level, plane_records}
use Rattle.format.specs.declared.Entry.{Entry}

module _ (s : List ℕ) (es : List Entry) where
  pub planes_at : (i : ℕ) → some i ≡ planes_level s es → plane_records s es ≡ map (plane_record s es) (child_levels s es (some (level i)))
  unfolding plane_records plane_levels
  planes_at i e = rw (← e) refl

  pub planes_none : none ≡ planes_level s es → plane_records s es ≡ []
  unfolding plane_records plane_levels
  planes_none e = rw (← e) refl

  -- ---- the level

  pub no_metadata : none ≡ as_level (field s es 0 (ascii "SLxPictureMetadata")) → none ≡ planes_level s es
  unfolding planes_level bind ascii
  no_metadata e = rw (← e) refl

  module _ (i : ℕ) (e : some i ≡ as_level (field s es 0 (ascii "SLxPictureMetadata"))) where
    pub no_pictures : none ≡ as_level (field_in s es i (ascii "sPicturePlanes")) → none ≡ planes_level s es
    unfolding planes_level bind ascii
    no_pictures f = rw (← e, ← f) refl

    module _ (j : ℕ) (f : some j ≡ as_level (field_in s es i (ascii "sPicturePlanes"))) where
      pub new_planes : (k : ℕ) → some k ≡ as_level (field_in s es j (ascii "sPlaneNew")) → some k ≡ planes_level s es
      unfolding planes_level bind or_else ascii
      new_planes k g = rw (← e, ← f, ← g) refl

      pub old_planes : {o : Option ℕ} → none ≡ as_level (field_in s es j (ascii "sPlaneNew")) → o ≡ as_level (field_in s es j (ascii "sPlane"))
          → o ≡ planes_level s es
      unfolding planes_level bind or_else ascii
      old_planes g h = rw (← e, ← f, ← g) h
