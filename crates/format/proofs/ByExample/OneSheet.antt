-- A sheet of 3 × 2 samples of 16 bits, byte by byte as programs that read TIFF take it: it is what the definition gives, it is read back, and what is not quite
-- it is turned away. Assumes nothing.
use Prim.Native.Nat.{ℕ}
use mathlib.Core.Path.{◌≡◌, refl}
use mathlib.Core.List.{List, [], ◌∷◌, ◌++◌}
use lib.ListN.{take, set}
use Rattle.format.specs.Answer.{given, refused}
use Rattle.format.specs.Bytes.{le_at, le_bytes, part, ascii, zeros, same, each}
use Rattle.format.specs.Refusals as why
use Rattle.format.specs.Attributes.{bad_bits}
use Rattle.format.specs.Sheets.{tiff_header, value_bytes, type_number, field_bytes, tiff_directory, rational_bytes}
use Rattle.format.specs.Sheets.{sample_format, sheet_fields, sheet_head, sheet}
use Rattle.format.specs.Calls.Sheet.{laid_as, sheet_from}

-- six samples
abbrev samples : List ℕ
samples = 1 ∷ 0 ∷ 2 ∷ 0 ∷ 3 ∷ 0 ∷ 4 ∷ 0 ∷ 5 ∷ 1 ∷ 255 ∷ 255 ∷ []

abbrev bytes : List ℕ
bytes =
    73 ∷ 73 ∷ 42 ∷ 0 ∷ 8 ∷ 0 ∷ 0 ∷ 0 ∷  -- the header
    13 ∷ 0 ∷  -- 13 entries
    0 ∷ 1 ∷ 4 ∷ 0 ∷ 1 ∷ 0 ∷ 0 ∷ 0 ∷ 3 ∷ 0 ∷ 0 ∷ 0 ∷  -- 256 ImageWidth LONG 3
    1 ∷ 1 ∷ 4 ∷ 0 ∷ 1 ∷ 0 ∷ 0 ∷ 0 ∷ 2 ∷ 0 ∷ 0 ∷ 0 ∷  -- 257 ImageLength LONG 2
    2 ∷ 1 ∷ 3 ∷ 0 ∷ 1 ∷ 0 ∷ 0 ∷ 0 ∷ 16 ∷ 0 ∷ 0 ∷ 0 ∷  -- 258 BitsPerSample SHORT 16
    3 ∷ 1 ∷ 3 ∷ 0 ∷ 1 ∷ 0 ∷ 0 ∷ 0 ∷ 1 ∷ 0 ∷ 0 ∷ 0 ∷  -- 259 Compression SHORT 1
    6 ∷ 1 ∷ 3 ∷ 0 ∷ 1 ∷ 0 ∷ 0 ∷ 0 ∷ 1 ∷ 0 ∷ 0 ∷ 0 ∷  -- 262 PhotometricInterpretation SHORT 1
    17 ∷ 1 ∷ 4 ∷ 0 ∷ 1 ∷ 0 ∷ 0 ∷ 0 ∷ 186 ∷ 0 ∷ 0 ∷ 0 ∷  -- 273 StripOffsets LONG 186
    21 ∷ 1 ∷ 3 ∷ 0 ∷ 1 ∷ 0 ∷ 0 ∷ 0 ∷ 1 ∷ 0 ∷ 0 ∷ 0 ∷  -- 277 SamplesPerPixel SHORT 1
    22 ∷ 1 ∷ 4 ∷ 0 ∷ 1 ∷ 0 ∷ 0 ∷ 0 ∷ 2 ∷ 0 ∷ 0 ∷ 0 ∷  -- 278 RowsPerStrip LONG 2
    23 ∷ 1 ∷ 4 ∷ 0 ∷ 1 ∷ 0 ∷ 0 ∷ 0 ∷ 12 ∷ 0 ∷ 0 ∷ 0 ∷  -- 279 StripByteCounts LONG 12
    26 ∷ 1 ∷ 5 ∷ 0 ∷ 1 ∷ 0 ∷ 0 ∷ 0 ∷ 170 ∷ 0 ∷ 0 ∷ 0 ∷  -- 282 XResolution RATIONAL at 170
    27 ∷ 1 ∷ 5 ∷ 0 ∷ 1 ∷ 0 ∷ 0 ∷ 0 ∷ 178 ∷ 0 ∷ 0 ∷ 0 ∷  -- 283 YResolution RATIONAL at 178
    40 ∷ 1 ∷ 3 ∷ 0 ∷ 1 ∷ 0 ∷ 0 ∷ 0 ∷ 1 ∷ 0 ∷ 0 ∷ 0 ∷  -- 296 ResolutionUnit SHORT 1
    83 ∷ 1 ∷ 3 ∷ 0 ∷ 1 ∷ 0 ∷ 0 ∷ 0 ∷ 1 ∷ 0 ∷ 0 ∷ 0 ∷  -- 339 SampleFormat SHORT 1
    0 ∷ 0 ∷ 0 ∷ 0 ∷  -- no next directory
    1 ∷ 0 ∷ 0 ∷ 0 ∷ 1 ∷ 0 ∷ 0 ∷ 0 ∷  -- 1/1
    1 ∷ 0 ∷ 0 ∷ 0 ∷ 1 ∷ 0 ∷ 0 ∷ 0 ∷  -- 1/1
    1 ∷ 0 ∷ 2 ∷ 0 ∷ 3 ∷ 0 ∷ 4 ∷ 0 ∷ 5 ∷ 1 ∷ 255 ∷ 255 ∷  -- the strip
    []

pub one_sheet : sheet 3 2 16 samples ≡ bytes
unfolding sheet sheet_head tiff_header tiff_directory sheet_fields rational_bytes each field_bytes value_bytes type_number sample_format le_bytes ascii zeros
one_sheet = refl

pub one_read : sheet_from bytes ≡ given (record { width = 3; height = 2; bits = 16; samples = samples })
unfolding sheet_from laid_as bad_bits same part le_at sheet_head tiff_header tiff_directory sheet_fields rational_bytes each field_bytes value_bytes type_number
    sample_format le_bytes ascii zeros
one_read = refl

-- ---- turned away: with a byte more, with a byte less, and with one that is not zero behind the bits

pub one_longer : sheet_from (bytes ++ 0 ∷ []) ≡ refused why.sheet_layout
unfolding sheet_from laid_as bad_bits same part le_at sheet_head tiff_header tiff_directory sheet_fields rational_bytes each field_bytes value_bytes type_number
    sample_format le_bytes ascii zeros
one_longer = refl

pub one_shorter : sheet_from (take 197 bytes) ≡ refused why.sheet_layout
unfolding sheet_from laid_as bad_bits same part le_at sheet_head tiff_header tiff_directory sheet_fields rational_bytes each field_bytes value_bytes type_number
    sample_format le_bytes ascii zeros
one_shorter = refl

pub one_unused : sheet_from (set bytes 44 1) ≡ refused why.sheet_layout
unfolding sheet_from laid_as bad_bits same part le_at sheet_head tiff_header tiff_directory sheet_fields rational_bytes each field_bytes value_bytes type_number
    sample_format le_bytes ascii zeros
one_unused = refl
