-- The bytes of a sheet are those of which the rules hold, and a sheet is read exactly when the rules hold of it. Assumes nothing.
use Prim.Native.Nat.{ℕ, zero, suc, ◌+◌, ◌*◌, ◌^◌, ◌≤◌, ◌<◌}
use mathlib.Core.Path.{◌≡◌, refl, sym, ap, ap₂, ◌∙◌}
use mathlib.Core.Bool.{Bool, true, false, not, ◌&&◌, cond}
use mathlib.Core.Logic.{◌↔◌}
use mathlib.Core.List.{List, [], ◌∷◌, ◌++◌}
use native.Mathlib.Nat.{mul-le-mul_left, mul-le-mul_right, mul-one, one-mul}
use native.Mathlib.Omega.{arith}
use lib.Dec.{eqb, ltb, leb, lit<, lit≤}
use lib.ListN.{length, take, drop, length-append, length-drop, take-append-drop, get_or-append}
use borrow.Author.Tests.{not-true, eqb-true, eq-eqb, ltb-true, lt-ltb, leb-true, le-leb}
use Rattle.format.specs.Answer.{given, refused}
use Rattle.format.specs.Bytes.{le_at, le_bytes, part, ascii, zeros, same, each}
use Rattle.format.specs.Refusals as why
use Rattle.format.specs.Attributes.{sample_bytes, bad_bits}
use Rattle.format.specs.Sheets.{FieldType, SHORT, LONG, RATIONAL, TiffField, short, long, rational}
use Rattle.format.specs.Sheets.{tiff_header, value_bytes, type_number, field_bytes, tiff_directory, rational_bytes}
use Rattle.format.specs.Sheets.{sample_format, sheet_fields, sheet_head, sheet, sheet_bytes, most_sheet_bytes}
use Rattle.format.specs.Calls.Sheet.{SheetSaid, laid_as, sheet_from}
use Rattle.format.specs.Grammar.Attributes as attributes
use Rattle.format.specs.Grammar.Sheets.{EntryAt, ShortAt, LongAt, RationalAt, SheetSizes, SheetOf}
use Rattle.format.specs.Grammar.Sheets.{SampleFormat, eight, sixteen, thirtytwo, SampleBytes, one, two, four}
use Rattle.format.proofs.Ground.Tests.{and_left, and_right, same_true, same_refl, cond_by}
use Rattle.format.proofs.Ground.Answers.{refused≢given, given_inj, Numbered, refusal, answer}
use Rattle.format.proofs.Ground.Bytes.{le_le_bytes, le_part, AllBytes, bytes_append, le_bytes_is}
use Rattle.format.proofs.Ground.Buffers.{part_join}
use Rattle.format.proofs.Files.SummaryTest.{bits_good, good_bits}

-- ---- the head's bytes

pub head_length : (w h b : ℕ) → length (sheet_head w h b) ≡ 186
unfolding sheet_head tiff_header tiff_directory sheet_fields rational_bytes each field_bytes value_bytes type_number le_bytes ascii zeros
head_length w h b = refl

pub sheet_length : (w h b : ℕ) (xs : List ℕ) → length (sheet w h b xs) ≡ 186 + length xs
unfolding sheet
sheet_length w h b xs = rw (length-append, head_length w h b) refl

each_bytes : {A : Type 0} (f : A → List ℕ) → ((x : A) → AllBytes (f x)) → (xs : List A) → AllBytes (each f xs)
unfolding each
each_bytes f h [] = unfold AllBytes in λ i. omega arith
each_bytes f h (x ∷ xs) = bytes_append (f x) (each f xs) (h x) (each_bytes f h xs)

zero_bytes : (n : ℕ) → AllBytes (zeros n)
unfolding AllBytes zeros
zero_bytes zero i = omega arith
zero_bytes (suc n) zero = omega arith
zero_bytes (suc n) (suc i) = zero_bytes n i

field_bytes_is : (f : TiffField) → AllBytes (field_bytes f)
unfolding field_bytes
field_bytes_is f =
    bytes_append (le_bytes 2 f.tag ++ le_bytes 2 (type_number f.type) ++ le_bytes 4 f.count) (value_bytes f.type f.value)
    (bytes_append (le_bytes 2 f.tag ++ le_bytes 2 (type_number f.type)) (le_bytes 4 f.count)
    (bytes_append (le_bytes 2 f.tag) (le_bytes 2 (type_number f.type)) (le_bytes_is 2 f.tag) (le_bytes_is 2 (type_number f.type))) (le_bytes_is 4 f.count))
    (by f.type)
  where
    by : (t : FieldType) → AllBytes (value_bytes t f.value)
    by SHORT = unfold value_bytes in bytes_append (le_bytes 2 f.value) (zeros 2) (le_bytes_is 2 f.value) (zero_bytes 2)
    by LONG = unfold value_bytes in le_bytes_is 4 f.value
    by RATIONAL = unfold value_bytes in le_bytes_is 4 f.value

rational_bytes_is : (n d : ℕ) → AllBytes (rational_bytes n d)
unfolding rational_bytes
rational_bytes_is n d = bytes_append (le_bytes 4 n) (le_bytes 4 d) (le_bytes_is 4 n) (le_bytes_is 4 d)

order_bytes : AllBytes (ascii "II")
unfolding ascii le_bytes
order_bytes = le_bytes_is 2 18_761

header_bytes : (place : ℕ) → AllBytes (tiff_header place)
unfolding tiff_header
header_bytes place =
    bytes_append (ascii "II" ++ le_bytes 2 42) (le_bytes 4 place) (bytes_append (ascii "II") (le_bytes 2 42) order_bytes (le_bytes_is 2 42))
    (le_bytes_is 4 place)

directory_bytes : (fs : List TiffField) → AllBytes (tiff_directory fs)
unfolding tiff_directory
directory_bytes fs =
    bytes_append (le_bytes 2 (length fs) ++ each field_bytes fs) (le_bytes 4 0)
    (bytes_append (le_bytes 2 (length fs)) (each field_bytes fs) (le_bytes_is 2 (length fs)) (each_bytes field_bytes field_bytes_is fs)) (le_bytes_is 4 0)

head_bytes : (w h b : ℕ) → AllBytes (sheet_head w h b)
unfolding sheet_head
head_bytes w h b =
    let fs = sheet_fields w h b in
    bytes_append (tiff_header 8 ++ tiff_directory fs ++ rational_bytes 1 1) (rational_bytes 1 1)
    (bytes_append (tiff_header 8 ++ tiff_directory fs) (rational_bytes 1 1)
    (bytes_append (tiff_header 8) (tiff_directory fs) (header_bytes 8) (directory_bytes fs)) (rational_bytes_is 1 1)) (rational_bytes_is 1 1)

-- ---- what the sizes say

pub size_is_bytes : {b n : ℕ} → SampleBytes b n → n ≡ sample_bytes b
size_is_bytes one = refl
size_is_bytes two = refl
size_is_bytes four = refl

format_stated : {b n : ℕ} → SampleBytes b n → SampleFormat b (sample_format b)
unfolding sample_format
format_stated one = eight
format_stated two = sixteen
format_stated four = thirtytwo

format_is_stated : {b n : ℕ} → SampleFormat b n → n ≡ sample_format b
unfolding sample_format
format_is_stated eight = refl
format_is_stated sixteen = refl
format_is_stated thirtytwo = refl

bits_small : {b n : ℕ} → SampleBytes b n → (b < 256 ^ 2) × ((sample_format b < 256 ^ 2) × (0 < n))
unfolding sample_format
bits_small one = (lit< tt, (lit< tt, lit< tt))
bits_small two = (lit< tt, (lit< tt, lit< tt))
bits_small four = (lit< tt, (lit< tt, lit< tt))

-- the parts of a product are at most the product
pub factors : (w h n p : ℕ) → 0 < w → 0 < h → 0 < n → p ≡ w * h * n → (w ≤ p) × ((h ≤ p) × (w * h ≤ p))
factors w h n p hw hh hn e =
    let a : w * 1 ≤ w * h = mul-le-mul_left w hh in
    let b : 1 * h ≤ w * h = mul-le-mul_right h hw in
    let c : w * h * 1 ≤ w * h * n = mul-le-mul_left (w * h) hn in
    let e₁ = mul-one w in
    let e₂ = one-mul h in
    let e₃ = mul-one (w * h) in
    (omega arith, (omega arith, omega arith))

-- ---- the defined bytes meet the rules

entry_there : {s : List ℕ} {i tag type : ℕ} → le_at 2 s (10 + 12 * i) ≡ tag → le_at 2 s (10 + 12 * i + 2) ≡ type → le_at 4 s (10 + 12 * i + 4) ≡ 1
    → EntryAt s i tag type
entry_there e f g = record { tag_there = e; type_there = f; count_there = g }

module _ (w h b : ℕ) (xs : List ℕ) (z : SheetSizes w h b xs) where
  whole_is : length xs ≡ w * h * sample_bytes b
  whole_is = z.whole ∙ ap (λ n. w * h * n) (size_is_bytes z.size_is)

  pub sheet_ruled : SheetOf (sheet w h b xs) w h b xs
  unfolding le_at part AllBytes sheet sheet_head tiff_header tiff_directory sheet_fields rational_bytes each field_bytes value_bytes type_number le_bytes ascii
      zeros
  sheet_ruled =
      let (small, (small-format, some)) = bits_small z.size_is in
      let (lw, (lh, _)) = factors w h z.size (length xs) z.width_some z.height_some some z.whole in
      let n = length xs in
      let most = z.most in
      let wide : w < 256 ^ 4 = omega arith in
      let high : h < 256 ^ 4 = omega arith in
      let all : w * h * sample_bytes b < 256 ^ 4 = omega (arith, whole_is) in
      record {
        sizes = z;
        bytes = λ i l. rw (get_or-append (sheet_head w h b) xs 0 i (rw (head_length w h b) l)) (head_bytes w h b i);
        byte_order = refl;
        version = refl;
        directory = refl;
        entries = refl;
        image_width = record { entry = entry_there refl refl refl; value_there = le_le_bytes 4 w wide };
        image_length = record { entry = entry_there refl refl refl; value_there = le_le_bytes 4 h high };
        bits_per_sample = record { entry = entry_there refl refl refl; value_there = le_le_bytes 2 b small; unused = refl };
        compression_none = record { entry = entry_there refl refl refl; value_there = refl; unused = refl };
        black_is_zero = record { entry = entry_there refl refl refl; value_there = refl; unused = refl };
        strip_offset = record { entry = entry_there refl refl refl; value_there = refl };
        samples_per_pixel = record { entry = entry_there refl refl refl; value_there = refl; unused = refl };
        rows_per_strip = record { entry = entry_there refl refl refl; value_there = le_le_bytes 4 h high };
        strip_bytes = record { entry = entry_there refl refl refl; value_there = le_le_bytes 4 (w * h * sample_bytes b) all ∙ sym whole_is };
        x_resolution = record { entry = entry_there refl refl refl; place_there = refl; numerator = refl; denominator = refl };
        y_resolution = record { entry = entry_there refl refl refl; place_there = refl; numerator = refl; denominator = refl };
        no_unit = record { entry = entry_there refl refl refl; value_there = refl; unused = refl };
        format = sample_format b;
        format_is = format_stated z.size_is;
        sample_format_is = record { entry = entry_there refl refl refl; value_there = le_le_bytes 2 (sample_format b) small-format; unused = refl };
        no_next = refl;
        strip = refl;
        ends = sheet_length w h b xs;
      }

-- ---- what meets the rules is the defined bytes

module _ {s : List ℕ} {w h b : ℕ} {xs : List ℕ} (z : SheetOf s w h b xs) where
  number : (k i n : ℕ) → i + k ≤ 186 → le_at k s i ≡ n → part s i k ≡ le_bytes k n
  number k i n l e =
      let ends = z.ends in
      le_part k s i (omega arith) (λ j a c. z.bytes j (omega arith)) ∙ ap (le_bytes k) e

  joined : (i n m : ℕ) {x y : List ℕ} → part s i n ≡ x → part s (i + n) m ≡ y → part s i (n + m) ≡ x ++ y
  joined i n m e f = sym (part_join s i n m) ∙ ap₂ ◌++◌ e f

  -- an entry with the four bytes of its value
  entry_part : (i tag type : ℕ) {v : List ℕ} → i < 13 → EntryAt s i tag type → part s (10 + 12 * i + 8) 4 ≡ v
      → part s (10 + 12 * i) 12 ≡ le_bytes 2 tag ++ le_bytes 2 type ++ le_bytes 4 1 ++ v
  entry_part i tag type l e f =
      let p = 10 + 12 * i in
      joined p 8 4
      (joined p 4 4 (joined p 2 2 (number 2 p tag (omega arith) e.tag_there) (number 2 (p + 2) type (omega arith) e.type_there))
      (number 4 (p + 4) 1 (omega arith) e.count_there)) f

  long_part : (i tag v : ℕ) → i < 13 → LongAt s i tag v → part s (10 + 12 * i) 12 ≡ field_bytes (long tag v)
  unfolding field_bytes type_number value_bytes
  long_part i tag v l e = entry_part i tag 4 l e.entry (number 4 (10 + 12 * i + 8) v (omega arith) e.value_there)

  short_part : (i tag v : ℕ) → i < 13 → ShortAt s i tag v → part s (10 + 12 * i) 12 ≡ field_bytes (short tag v)
  unfolding field_bytes type_number value_bytes
  short_part i tag v l e =
      let p = 10 + 12 * i + 8 in
      let q : p + 2 ≡ 10 + 12 * i + 10 = omega arith in
      entry_part i tag 3 l e.entry
      (joined p 2 2 (number 2 p v (omega arith) e.value_there) (number 2 (p + 2) 0 (omega arith) (rw q e.unused)))

  rational_part : (i tag place n d : ℕ) → i < 13 → RationalAt s i tag place n d → part s (10 + 12 * i) 12 ≡ field_bytes (rational tag place)
  unfolding field_bytes type_number value_bytes
  rational_part i tag place n d l e = entry_part i tag 5 l e.entry (number 4 (10 + 12 * i + 8) place (omega arith) e.place_there)

  fraction_part : {i tag place n d : ℕ} → place + 8 ≤ 186 → RationalAt s i tag place n d → part s place 8 ≡ rational_bytes n d
  unfolding rational_bytes
  fraction_part {i} {tag} {place} {n} {d} l e =
      joined place 4 4 (number 4 place n (omega arith) e.numerator) (number 4 (place + 4) d (omega arith) e.denominator)

  fields_part : part s 10 156 ≡ each field_bytes (sheet_fields w h b)
  unfolding sheet_fields each part
  fields_part =
      let strip : LongAt s 8 279 (w * h * sample_bytes b) = rw (whole_is w h b xs z.sizes) at z.strip_bytes in
      let format : ShortAt s 12 339 (sample_format b) = rw (format_is_stated z.format_is) at z.sample_format_is in
      joined 10 12 144 (long_part 0 256 w (lit< tt) z.image_width)
      (joined 22 12 132 (long_part 1 257 h (lit< tt) z.image_length)
      (joined 34 12 120 (short_part 2 258 b (lit< tt) z.bits_per_sample)
      (joined 46 12 108 (short_part 3 259 1 (lit< tt) z.compression_none)
      (joined 58 12 96 (short_part 4 262 1 (lit< tt) z.black_is_zero)
      (joined 70 12 84 (long_part 5 273 186 (lit< tt) z.strip_offset)
      (joined 82 12 72 (short_part 6 277 1 (lit< tt) z.samples_per_pixel)
      (joined 94 12 60 (long_part 7 278 h (lit< tt) z.rows_per_strip)
      (joined 106 12 48 (long_part 8 279 _ (lit< tt) strip)
      (joined 118 12 36 (rational_part 9 282 170 1 1 (lit< tt) z.x_resolution)
      (joined 130 12 24 (rational_part 10 283 178 1 1 (lit< tt) z.y_resolution)
      (joined 142 12 12 (short_part 11 296 1 (lit< tt) z.no_unit)
      (joined 154 12 0 (short_part 12 339 _ (lit< tt) format) refl))))))))))))

  head_part : part s 0 186 ≡ sheet_head w h b
  unfolding sheet_head tiff_header tiff_directory
  head_part =
      joined 0 178 8
      (joined 0 170 8
      (joined 0 8 162
      (joined 0 4 4 (joined 0 2 2 z.byte_order (number 2 2 42 (lit≤ tt) z.version)) (number 4 4 8 (lit≤ tt) z.directory))
      (joined 8 158 4 (joined 8 2 156 (number 2 8 13 (lit≤ tt) z.entries) fields_part) (number 4 166 0 (lit≤ tt) z.no_next)))
      (fraction_part (lit≤ tt) z.x_resolution))
      (fraction_part (lit≤ tt) z.y_resolution)

  pub ruled_sheet : s ≡ sheet w h b xs
  unfolding sheet part
  ruled_sheet = sym (take-append-drop 186 s) ∙ ap₂ ◌++◌ head_part z.strip

pub rule_is : (s : List ℕ) (w h b : ℕ) (xs : List ℕ) → SheetOf s w h b xs ↔ (SheetSizes w h b xs × (s ≡ sheet w h b xs))
rule_is s w h b xs = (λ z. (z.sizes, ruled_sheet z), λ (z, e). rw e (sheet_ruled w h b xs z))

pub sheet_only : (s : List ℕ) (w h b w' h' b' : ℕ) (xs xs' : List ℕ) → SheetOf s w h b xs → SheetOf s w' h' b' xs'
    → (w ≡ w') × ((h ≡ h') × ((b ≡ b') × (xs ≡ xs')))
sheet_only s w h b w' h' b' xs xs' x y = (
  sym x.image_width.value_there ∙ y.image_width.value_there,
  (
    sym x.image_length.value_there ∙ y.image_length.value_there,
    (sym x.bits_per_sample.value_there ∙ y.bits_per_sample.value_there, sym x.strip ∙ y.strip),
  ),
)

-- ---- a sheet that is read

pub bytes_of_bits : (b : ℕ) → attributes.Bits b → SampleBytes b (sample_bytes b)
bytes_of_bits b attributes.eight = one
bytes_of_bits b attributes.sixteen = two
bytes_of_bits b attributes.thirtytwo = four

pub bits_of_bytes : {b n : ℕ} → SampleBytes b n → attributes.Bits b
bits_of_bytes one = attributes.eight
bits_of_bytes two = attributes.sixteen
bits_of_bytes four = attributes.thirtytwo

module _ (s : List ℕ) (w h b : ℕ) where
  head_then : take 186 s ≡ sheet_head w h b → s ≡ sheet w h b (drop 186 s)
  unfolding sheet
  head_then e = sym (take-append-drop 186 s) ∙ ap (λ (l : List ℕ). l ++ drop 186 s) e

  pub laid_ruled : laid_as s w h b ≡ true → SheetOf s w h b (drop 186 s)
  unfolding laid_as part
  laid_ruled e =
      let t₁ = not (bad_bits b) in
      let t₂ = ltb 0 w in
      let t₃ = ltb 0 h in
      let t₄ = leb (sheet_bytes w h b) most_sheet_bytes in
      let t₅ = eqb (length s) (sheet_bytes w h b) in
      let t₆ = same (part s 0 186) (sheet_head w h b) in
      let e₅ = and_left (t₁ && t₂ && t₃ && t₄ && t₅) t₆ e in
      let e₄ = and_left (t₁ && t₂ && t₃ && t₄) t₅ e₅ in
      let e₃ = and_left (t₁ && t₂ && t₃) t₄ e₄ in
      let e₂ = and_left (t₁ && t₂) t₃ e₃ in
      let head : take 186 s ≡ sheet_head w h b = same_true (part s 0 186) (sheet_head w h b) (and_right (t₁ && t₂ && t₃ && t₄ && t₅) t₆ e) in
      let all = eqb-true (length s) (sheet_bytes w h b) (and_right (t₁ && t₂ && t₃ && t₄) t₅ e₅) in
      let rest : length (drop 186 s) ≡ w * h * sample_bytes b = rw length-drop (omega arith) in
      let most = leb-true (sheet_bytes w h b) most_sheet_bytes (and_right (t₁ && t₂ && t₃) t₄ e₄) in
      (rule_is s w h b (drop 186 s)).1 (
        record {
          width_some = ltb-true 0 w (and_right t₁ t₂ e₂);
          height_some = ltb-true 0 h (and_right (t₁ && t₂) t₃ e₃);
          size = sample_bytes b;
          size_is = bytes_of_bits b (bits_good b (not-true (bad_bits b) (and_left t₁ t₂ e₂)));
          whole = rest;
          most = rw rest most;
        },
        head_then head,
      )

  ruled_laid : (xs : List ℕ) → SheetOf s w h b xs → laid_as s w h b ≡ true
  unfolding laid_as
  ruled_laid xs z =
      let y = z.sizes in
      let all : length s ≡ sheet_bytes w h b = z.ends ∙ ap (λ n. 186 + n) (whole_is w h b xs y) in
      let most : sheet_bytes w h b ≤ most_sheet_bytes = rw (whole_is w h b xs y) at y.most in
      rw (
        good_bits b (bits_of_bytes y.size_is),
        lt-ltb 0 w y.width_some,
        lt-ltb 0 h y.height_some,
        le-leb (sheet_bytes w h b) most_sheet_bytes most,
        eq-eqb (length s) (sheet_bytes w h b) all,
        head_part z,
      ) (same_refl (sheet_head w h b))

module _ (s : List ℕ) where
  pub sheet_said : {w h b : ℕ} {xs : List ℕ} → SheetOf s w h b xs → sheet_from s ≡ given (record { width = w; height = h; bits = b; samples = xs })
  unfolding sheet_from
  sheet_said {w} {h} {b} {xs} z =
      rw (z.image_width.value_there, z.image_length.value_there, z.bits_per_sample.value_there, ruled_laid s w h b xs z, z.strip) refl

  pub said_sheet : (q : SheetSaid) → sheet_from s ≡ given q → SheetOf s q.width q.height q.bits q.samples
  unfolding sheet_from
  said_sheet q e = go (laid_as s w h b) refl e
    where
      w : ℕ
      w = le_at 4 s 18

      h : ℕ
      h = le_at 4 s 30

      b : ℕ
      b = le_at 2 s 42

      said : SheetSaid
      said = record { width = w; height = h; bits = b; samples = drop 186 s }

      go : (t : Bool) → laid_as s w h b ≡ t → cond t (given said) (refused why.sheet_layout) ≡ given q → SheetOf s q.width q.height q.bits q.samples
      go true l e = rw (← given_inj e) (laid_ruled s w h b l)
      go false l e = absurd (refused≢given e)

  -- it is 27 or given
  pub sheet_numbered : {P : ℕ → Type 0} → P why.sheet_layout → Numbered P (sheet_from s)
  unfolding sheet_from
  sheet_numbered {P} p = cond_by (Numbered P) (laid_as s (le_at 4 s 18) (le_at 4 s 30) (le_at 2 s 42)) _ _ (λ _. answer) (λ _. refusal p)
