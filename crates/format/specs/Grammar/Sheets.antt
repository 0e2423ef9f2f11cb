-- Change request 2: sheets, as rules: what TIFF 6.0 finds at each place of a sheet, read from its bytes.
use Rattle.std.specs.Prelude.{ℕ, ◌+◌, ◌*◌, ◌≤◌, ◌<◌, ◌≡◌, List, length, get_or, drop}
use Rattle.format.specs.Bytes.{le_at, part, ascii}

-- ---- entries of a directory at byte 8, which are 12 bytes each after its first two

-- entry i: its tag, the number of its type, and a count of 1
pub record EntryAt (s : List ℕ) (i tag type : ℕ) : Type 0 where
  pub tag_there : le_at 2 s (10 + 12 * i) ≡ tag
  pub type_there : le_at 2 s (10 + 12 * i + 2) ≡ type
  pub count_there : le_at 4 s (10 + 12 * i + 4) ≡ 1

-- a SHORT v, and the two bytes that it leaves are zero
pub record ShortAt (s : List ℕ) (i tag v : ℕ) : Type 0 where
  pub entry : EntryAt s i tag 3
  pub value_there : le_at 2 s (10 + 12 * i + 8) ≡ v
  pub unused : le_at 2 s (10 + 12 * i + 10) ≡ 0

-- a LONG v
pub record LongAt (s : List ℕ) (i tag v : ℕ) : Type 0 where
  pub entry : EntryAt s i tag 4
  pub value_there : le_at 4 s (10 + 12 * i + 8) ≡ v

-- a RATIONAL n / d, which stands at a place
pub record RationalAt (s : List ℕ) (i tag place n d : ℕ) : Type 0 where
  pub entry : EntryAt s i tag 5
  pub place_there : le_at 4 s (10 + 12 * i + 8) ≡ place
  pub numerator : le_at 4 s place ≡ n
  pub denominator : le_at 4 s (place + 4) ≡ d

-- ---- a sheet

-- samples of 8 and 16 bits are unsigned integers, those of 32 bits IEEE floating point
pub data SampleFormat : ℕ → ℕ → Type 0 where
  eight : SampleFormat 8 1
  sixteen : SampleFormat 16 1
  thirtytwo : SampleFormat 32 3

-- how many bytes a sample of so many bits has
pub data SampleBytes : ℕ → ℕ → Type 0 where
  one : SampleBytes 8 1
  two : SampleBytes 16 2
  four : SampleBytes 32 4

-- w × h samples of b bits that a sheet may have: sizes above 0, whole samples, and no more than 4,294,967,295 bytes with the 186 before them
pub record SheetSizes (w h b : ℕ) (samples : List ℕ) : Type 0 where
  pub width_some : 0 < w
  pub height_some : 0 < h
  pub size : ℕ
  pub size_is : SampleBytes b size
  pub whole : length samples ≡ w * h * size
  pub most : 186 + length samples ≤ 4_294_967_295

-- s is the sheet of w × h samples of b bits
pub record SheetOf (s : List ℕ) (w h b : ℕ) (samples : List ℕ) : Type 0 where
  pub sizes : SheetSizes w h b samples
  -- what stands before the strip is bytes
  pub bytes : (i : ℕ) → i < 186 → get_or s i 0 < 256
  -- the header
  pub byte_order : part s 0 2 ≡ ascii "II"
  pub version : le_at 2 s 2 ≡ 42
  pub directory : le_at 4 s 4 ≡ 8
  -- the directory
  pub entries : le_at 2 s 8 ≡ 13
  pub image_width : LongAt s 0 256 w
  pub image_length : LongAt s 1 257 h
  pub bits_per_sample : ShortAt s 2 258 b
  pub compression_none : ShortAt s 3 259 1
  pub black_is_zero : ShortAt s 4 262 1
  pub strip_offset : LongAt s 5 273 186
  pub samples_per_pixel : ShortAt s 6 277 1
  pub rows_per_strip : LongAt s 7 278 h
  pub strip_bytes : LongAt s 8 279 (length samples)
  pub x_resolution : RationalAt s 9 282 170 1 1
  pub y_resolution : RationalAt s 10 283 178 1 1
  pub no_unit : ShortAt s 11 296 1
  pub format : ℕ
  pub format_is : SampleFormat b format
  pub sample_format_is : ShortAt s 12 339 format
  pub no_next : le_at 4 s 166 ≡ 0
  -- the strip, which ends the sheet
  pub strip : drop 186 s ≡ samples
  pub ends : length s ≡ 186 + length samples
