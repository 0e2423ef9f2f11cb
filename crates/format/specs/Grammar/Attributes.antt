-- Document 01, The grammar: the attributes, as rules.
use Rattle.std.specs.Prelude.{ℕ, ◌^◌, ◌≤◌, ◌<◌, List, pos}
use Rattle.format.specs.Bytes.{ascii, most64}
use Rattle.format.specs.Values.{level}
use Rattle.format.specs.Attributes.{least_row}
use Rattle.format.specs.Grammar.Values.{Field}
use Rattle.format.specs.Grammar.Numbers.{Unsigned, Signed}
use Rattle.format.specs.declared.Entry.{Entry}
use Rattle.format.specs.declared.Attributes.{Attributes}

-- not 13
pub data Bits : ℕ → Type 0 where
  eight : Bits 8
  sixteen : Bits 16
  thirtytwo : Bits 32

-- not 14, the plane product aside: sizes above 0, at most 1,024 components, row bytes enough
pub record Shape (a : Attributes) : Type 0 where
  pub width_some : 0 < a.width
  pub height_some : 0 < a.height
  pub components_some : 0 < a.components
  pub components_most : a.components ≤ 1024
  pub row_most : least_row a ≤ most64
  pub row_fits : least_row a ≤ a.stride

-- the sizes and bits that the level i of a tree states: not 11
pub record Sized (s : List ℕ) (es : List Entry) (i : ℕ) (a : Attributes) : Type 0 where
  pub level_there : Field s es 0 (ascii "SLxImageAttributes") (level i)
  pub width : Unsigned s es i (ascii "uiWidth") a.width
  pub row : Unsigned s es i (ascii "uiWidthBytes") a.stride
  pub height : Unsigned s es i (ascii "uiHeight") a.height
  pub components : Unsigned s es i (ascii "uiComp") a.components
  pub bits : Unsigned s es i (ascii "uiBpcInMemory") a.bits
  pub bits_u32 : a.bits < 2 ^ 32

-- the attributes of a tree: none of 11 to 14, the plane product aside
pub record AttributesOf (s : List ℕ) (es : List Entry) (a : Attributes) : Type 0 where
  pub at_level : ℕ
  pub sized : Sized s es at_level a
  pub compression : Signed s es at_level (ascii "eCompression") (pos 2)
  pub bits_known : Bits a.bits
  pub shape : Shape a
