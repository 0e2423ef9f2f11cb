-- Change request 2: a sheet is one plane as a TIFF 6.0 file, little-endian. Its parts in that standard's words, and its thirteen fields.
use Rattle.std.specs.Prelude.{ℕ, ◌+◌, ◌*◌, cond, List, [], ◌∷◌, ◌++◌, length, eqb}
use Rattle.format.specs.Bytes.{le_bytes, ascii, zeros, each}
use Rattle.format.specs.Attributes.{sample_bytes}

-- ---- TIFF 6.0

-- Image File Header: the byte order, 42, and the place of the directory
unfoldable pub tiff_header : ℕ → List ℕ
unfolding ascii le_bytes
tiff_header place = ascii "II" ++ le_bytes 2 42 ++ le_bytes 4 place

-- the types of values that a sheet has
pub data FieldType : Type 0 where
  SHORT : FieldType
  LONG : FieldType
  RATIONAL : FieldType

unfoldable pub type_number : FieldType → ℕ
type_number SHORT = 3
type_number LONG = 4
type_number RATIONAL = 5

-- an entry of the directory; a RATIONAL is too long to stand in it, and `value` is the place where it stands
pub record TiffField : Type 0 where
  pub tag : ℕ
  pub type : FieldType
  pub count : ℕ
  pub value : ℕ

-- the four bytes of a value or of its place; a SHORT stands in the first two
unfoldable pub value_bytes : FieldType → ℕ → List ℕ
unfolding le_bytes zeros
value_bytes SHORT v = le_bytes 2 v ++ zeros 2
value_bytes LONG v = le_bytes 4 v
value_bytes RATIONAL place = le_bytes 4 place

-- an entry's twelve bytes
unfoldable pub field_bytes : TiffField → List ℕ
unfolding le_bytes type_number value_bytes
field_bytes f = le_bytes 2 f.tag ++ le_bytes 2 (type_number f.type) ++ le_bytes 4 f.count ++ value_bytes f.type f.value

-- Image File Directory: the number of entries, the entries, and the place of the next directory, 0 where there is none
unfoldable pub tiff_directory : List TiffField → List ℕ
unfolding le_bytes each field_bytes
tiff_directory fs = le_bytes 2 (length fs) ++ each field_bytes fs ++ le_bytes 4 0

-- numerator and denominator
unfoldable pub rational_bytes : ℕ → ℕ → List ℕ
unfolding le_bytes
rational_bytes n d = le_bytes 4 n ++ le_bytes 4 d

-- ---- a sheet

-- the kind of samples by their bits: 1 is unsigned integers, 3 IEEE floating point
unfoldable pub sample_format : ℕ → ℕ
sample_format b = cond (eqb b 32) 3 1

-- one value of each type
abbrev pub short : ℕ → ℕ → TiffField
short tag v = record { tag = tag; type = SHORT; count = 1; value = v }

abbrev pub long : ℕ → ℕ → TiffField
long tag v = record { tag = tag; type = LONG; count = 1; value = v }

abbrev pub rational : ℕ → ℕ → TiffField
rational tag place = record { tag = tag; type = RATIONAL; count = 1; value = place }

-- the fields of a plane of w × h samples of b bits, in rising order of their tags
unfoldable pub sheet_fields : ℕ → ℕ → ℕ → List TiffField
unfolding sample_format
sheet_fields w h b =
    long 256 w  -- ImageWidth
    ∷ long 257 h  -- ImageLength
    ∷ short 258 b  -- BitsPerSample
    ∷ short 259 1  -- Compression: none
    ∷ short 262 1  -- PhotometricInterpretation: black is zero
    ∷ long 273 186  -- StripOffsets
    ∷ short 277 1  -- SamplesPerPixel
    ∷ long 278 h  -- RowsPerStrip: all of them
    ∷ long 279 (w * h * sample_bytes b)  -- StripByteCounts
    ∷ rational 282 170  -- XResolution
    ∷ rational 283 178  -- YResolution
    ∷ short 296 1  -- ResolutionUnit: none
    ∷ short 339 (sample_format b)  -- SampleFormat
    ∷ []

-- what stands before the strip: the header, the directory at byte 8, and both resolutions
unfoldable pub sheet_head : ℕ → ℕ → ℕ → List ℕ
unfolding tiff_header tiff_directory sheet_fields rational_bytes
sheet_head w h b = tiff_header 8 ++ tiff_directory (sheet_fields w h b) ++ rational_bytes 1 1 ++ rational_bytes 1 1

-- the sheet of a plane: the strip is the samples, row by row
unfoldable pub sheet : ℕ → ℕ → ℕ → List ℕ → List ℕ
unfolding sheet_head
sheet w h b samples = sheet_head w h b ++ samples

-- its length
abbrev pub sheet_bytes : ℕ → ℕ → ℕ → ℕ
sheet_bytes w h b = 186 + w * h * sample_bytes b

-- the most bytes that a sheet has
abbrev pub most_sheet_bytes : ℕ
most_sheet_bytes = 4_294_967_295
