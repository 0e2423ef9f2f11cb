-- Fields stored one after another are a sheet's head, and numbers that fit in it. Assumes nothing.
use Prim.Native.Nat.{ℕ, ◌+◌, ◌*◌, ◌≤◌, ◌<◌}
use mathlib.Core.Path.{◌≡◌, refl, sym, ap, ◌∙◌}
use mathlib.Core.List.{List, [], ◌∷◌, ◌++◌, append_assoc, append-nil}
use native.Mathlib.Nat.{zero-add}
use native.Mathlib.Numerals.{add-one}
use native.Mathlib.Omega.{arith}
use lib.ListN.{length, take, get_or, length-append}
use lib.Seq.{sets, take-suc}
use Rattle.std.proofs.lemmas.List.{length-take-le}
use Rattle.format.specs.Bytes.{le_bytes, zeros, ascii, each, over}
use Rattle.format.specs.Sheets.{FieldType, SHORT, LONG, RATIONAL, TiffField}
use Rattle.format.specs.Sheets.{tiff_header, value_bytes, type_number, field_bytes, tiff_directory, rational_bytes, sheet_fields, sheet_head}
use Rattle.format.proofs.Ground.Bytes.{sets_append}
use Rattle.format.proofs.Ground.Buffers.{over_stored}
use Rattle.format.proofs.Calls.SheetBytes.{head_length}
use Rattle.sheet.specs.declared.head.Field.{Field}
use Rattle.sheet.specs.Fields.{field_of}

-- ---- a field

pub stored_two : (t a b : List ℕ) (i n : ℕ) → length a ≡ n → sets t i (a ++ b) ≡ sets (sets t i a) (i + n) b
stored_two t a b i n e = sets_append a b t i ∙ rw e refl

pub short_stored : (t : List ℕ) (i v : ℕ) → sets (sets t i (le_bytes 2 v)) (i + 2) (le_bytes 2 0) ≡ sets t i (value_bytes SHORT v)
unfolding value_bytes le_bytes zeros
short_stored t i v = sym (stored_two t (le_bytes 2 v) (le_bytes 2 0) i 2 refl)

pub field_stored : (t : List ℕ) (i : ℕ) (f : TiffField)
    → sets (sets (sets (sets t i (le_bytes 2 f.tag)) (i + 2) (le_bytes 2 (type_number f.type))) (i + 4) (le_bytes 4 f.count)) (i + 8)
    (value_bytes f.type f.value)
    ≡ sets t i (field_bytes f)
unfolding field_bytes le_bytes
field_stored t i f =
    let tag = le_bytes 2 f.tag in
    let kind = le_bytes 2 (type_number f.type) in
    let count = le_bytes 4 f.count in
    sym (stored_two t (tag ++ kind ++ count) (value_bytes f.type f.value) i 8 refl
    ∙ ap (λ (l : List ℕ). sets l (i + 8) (value_bytes f.type f.value))
    (stored_two t (tag ++ kind) count i 4 refl ∙ ap (λ (l : List ℕ). sets l (i + 4) count) (stored_two t tag kind i 2 refl)))

-- ---- fields

field_length : (f : TiffField) → length (field_bytes f) ≡ 12
unfolding field_bytes le_bytes
field_length f = go f.type
  where
    go : (k : FieldType) → length (le_bytes 2 f.tag ++ le_bytes 2 (type_number k) ++ le_bytes 4 f.count ++ value_bytes k f.value) ≡ 12
    go SHORT = unfold value_bytes zeros le_bytes in refl
    go LONG = unfold value_bytes le_bytes in refl
    go RATIONAL = unfold value_bytes le_bytes in refl

abbrev all : List Field → List ℕ
all = each λ f. field_bytes (field_of f)

all_append : (fs gs : List Field) → all (fs ++ gs) ≡ all fs ++ all gs
unfolding each
all_append [] gs = refl
all_append (f ∷ fs) gs =
    ap (λ (l : List ℕ). field_bytes (field_of f) ++ l) (all_append fs gs) ∙ sym (append_assoc (field_bytes (field_of f)) (all fs) (all gs))

all_length : (fs : List Field) → length (all fs) ≡ 12 * length fs
unfolding each
all_length [] = refl
all_length (f ∷ fs) = rw (length-append, field_length, all_length fs) (omega arith)

-- the first i fields are stored, and then the next one
pub next_stored : (t d q : List ℕ) (at i : ℕ) (fs : List Field) (f : Field) → i < length fs → d ≡ sets t at (all (take i fs))
    → q ≡ sets d (at + 12 * i) (field_bytes (field_of (get_or fs i f))) → q ≡ sets t at (all (take (i + 1) fs))
unfolding each
next_stored t d q at i fs f h before eq =
    let x = get_or fs i f in
    let more : take (i + 1) fs ≡ take i fs ++ (x ∷ []) = rw add-one (take-suc fs i f h) in
    let long : length (all (take i fs)) ≡ 12 * i = all_length (take i fs) ∙ ap (λ n. 12 * n) (length-take-le i fs (omega arith)) in
    let last : all (x ∷ []) ≡ field_bytes (field_of x) = append-nil (field_bytes (field_of x)) in
    eq ∙ rw (before, more, all_append, last) (sym (stored_two t (all (take i fs)) (field_bytes (field_of x)) at (12 * i) long))

-- ---- the head

pub header_stored : (t : List ℕ) → sets (sets (sets t 0 (le_bytes 2 18_761)) 2 (le_bytes 2 42)) 4 (le_bytes 4 8) ≡ sets t 0 (tiff_header 8)
unfolding tiff_header ascii le_bytes
header_stored t =
    sym (stored_two t (le_bytes 2 18_761 ++ le_bytes 2 42) (le_bytes 4 8) 0 4 refl
    ∙ ap (λ (l : List ℕ). sets l 4 (le_bytes 4 8)) (stored_two t (le_bytes 2 18_761) (le_bytes 2 42) 0 2 refl))

pub one_stored : (t : List ℕ) (i : ℕ) → sets (sets t i (le_bytes 4 1)) (i + 4) (le_bytes 4 1) ≡ sets t i (rational_bytes 1 1)
unfolding rational_bytes le_bytes
one_stored t i = sym (stored_two t (le_bytes 4 1) (le_bytes 4 1) i 4 refl)

stored_over : (xs t : List ℕ) → length xs ≤ length t → sets t 0 xs ≡ over xs t
unfolding over
stored_over xs t h = over_stored [] xs t 0 refl (rw zero-add h)

pub head_stored : (t fs : List ℕ) (w h b : ℕ) → fs ≡ each field_bytes (sheet_fields w h b) → 186 ≤ length t
    → sets (sets (sets (sets (sets (sets t 0 (tiff_header 8)) 8 (le_bytes 2 13)) 10 fs) 166 (le_bytes 4 0)) 170 (rational_bytes 1 1)) 178 (rational_bytes 1 1)
    ≡ over (sheet_head w h b) t
unfolding sheet_head tiff_header tiff_directory le_bytes each field_bytes value_bytes type_number zeros sheet_fields rational_bytes ascii
head_stored t fs w h b e room =
    let one = rational_bytes 1 1 in
    let fields = each field_bytes (sheet_fields w h b) in
    let directory = tiff_directory (sheet_fields w h b) in
    let d = sets t 0 (tiff_header 8) in
    rw e
    (sym (stored_two t (tiff_header 8 ++ directory ++ one) one 0 178 refl
    ∙ ap (λ (l : List ℕ). sets l 178 one)
    (stored_two t (tiff_header 8 ++ directory) one 0 170 refl
    ∙ ap (λ (l : List ℕ). sets l 170 one)
    (stored_two t (tiff_header 8) directory 0 8 refl ∙ stored_two d (le_bytes 2 13 ++ fields) (le_bytes 4 0) 8 158 refl
    ∙ ap (λ (l : List ℕ). sets l 166 (le_bytes 4 0)) (stored_two d (le_bytes 2 13) fields 8 2 refl)))))
    ∙ stored_over (sheet_head w h b) t (rw (head_length w h b) room)
