-- Document 01, Attributes: the sizes of a frame, in the level SLxImageAttributes of the tree in ImageAttributesLV!.
use Rattle.std.specs.Prelude.{ℕ, ◌*◌, ◌/◌, Bool, false, not, ◌||◌, List, ltb, eqb, ℤ, pos, negsuc}
use Rattle.std.proofs.Math.Option.{Option, none, some}
use Rattle.format.specs.Bytes.{ascii, most64}
use Rattle.format.specs.Answer.{Answer, given, refuse_if, and_then, or_refuse}
use Rattle.format.specs.Refusals as why
use Rattle.format.specs.Values.{field, field_in, as_level, bind}
use Rattle.format.specs.Numbers.{unsigned, signed, below32}
use Rattle.format.specs.declared.Entry.{Entry}
use Rattle.format.specs.declared.Attributes.{Attributes}

-- bytes of a sample of this many bits
abbrev pub sample_bytes : ℕ → ℕ
sample_bytes b = b / 8

-- the bytes of the samples of a row: the least that the stride may be
abbrev pub least_row : Attributes → ℕ
least_row a = a.width * a.components * sample_bytes a.bits

-- the bytes of a plane, one component of a frame
abbrev pub plane_bytes : Attributes → ℕ
plane_bytes a = a.width * a.height * sample_bytes a.bits

-- 14: a size is 0, there are more than 1,024 components, or the samples of a row have more bytes than 64 bits count or than the stride. The bytes of a plane
-- are judged after the loops.
unfoldable pub bad_shape : Attributes → Bool
bad_shape a =
    eqb a.width 0 || eqb a.height 0 || eqb a.components 0 || ltb 1024 a.components || ltb most64 (least_row a)
    || ltb a.stride (least_row a)

-- bits that no sample has, others than 8, 16 and 32: 13
unfoldable pub bad_bits : ℕ → Bool
bad_bits b = not (eqb b 8 || eqb b 16 || eqb b 32)

-- whether eCompression says that frames are not compressed: else 12
unfoldable pub uncompressed : Option ℤ → Bool
uncompressed none = false
uncompressed (some (pos n)) = eqb n 2
uncompressed (some (negsuc n)) = false

-- the attributes in a tree that was read whole: 11, 12, 13, 14
unfoldable pub attributes : List ℕ → List Entry → Answer Attributes
unfolding ascii
attributes s es =
    and_then (or_refuse (as_level (field s es 0 (ascii "SLxImageAttributes"))) why.missing) λ i.
    let number : List ℕ → Answer ℕ = λ n. or_refuse (bind (field_in s es i n) unsigned) why.missing in
    and_then (number (ascii "uiWidth")) λ w.
    and_then (number (ascii "uiWidthBytes")) λ wb.
    and_then (number (ascii "uiHeight")) λ h.
    and_then (number (ascii "uiComp")) λ c.
    and_then (or_refuse (below32 (bind (field_in s es i (ascii "uiBpcInMemory")) unsigned)) why.missing) λ b.
    let a : Attributes = record { width = w; stride = wb; height = h; components = c; bits = b } in
    refuse_if (not (uncompressed (bind (field_in s es i (ascii "eCompression")) signed))) why.compression
    (refuse_if (bad_bits b) why.bits
    (refuse_if (bad_shape a) why.frame_shape
    (given a)))
