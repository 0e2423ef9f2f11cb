-- The customer's change requests, as far as the demands do not say them already: statements only, for any bytes, summaries, indices and buffers.
use Rattle.std.specs.Prelude.{ℕ, suc, ◌+◌, ◌-◌, ◌*◌, ◌%◌, ◌^◌, ◌≤◌, ◌<◌, ◌≡◌, Bool, false, ◌↔◌}
use Rattle.std.specs.Prelude.{List, [], ◌∷◌, ◌++◌, length, get_or, take, ℤ, pos, negsuc, neg_ℤ, Float}
use Rattle.std.proofs.Math.Option.{none, some}
use Rattle.std.specs.Float.{fin, binary64}
use Rattle.std.specs.Float.Ieee.{up, down, of_bits}
use Rattle.format.specs.Answer.{refused, number_of}
use Rattle.format.specs.Bytes.{le_at, part, same, ascii, zeros}
use Rattle.format.specs.Chunks.{chunk_mark, chunk_data}
use Rattle.format.specs.Map.{end_mark, map_name}
use Rattle.format.specs.Text.{lossy}
use Rattle.format.specs.Refusals as why
use Rattle.format.specs.Values.{Value, flag, whole, double, level}
use Rattle.format.specs.Numbers.{one_if, unsigned, signed, below32, float}
use Rattle.format.specs.Trees.{room_in}
use Rattle.format.specs.Attributes.{attributes, plane_bytes}
use Rattle.format.specs.Frames.{seq_index}
use Rattle.format.specs.Summary.{shape_of, loops_of}
use Rattle.format.specs.Sheets.{sheet}
use Rattle.format.specs.Calibration.{above_zero}
use Rattle.format.specs.Picometres.{picometres}
use Rattle.format.specs.Comparison.{comparison, compared}
use Rattle.format.specs.Calls.Open.{open_call}
use Rattle.format.specs.Calls.Plane.{plane_call}
use Rattle.format.specs.Calls.Sheet.{sheet_call, sheet_read_call}
use Rattle.format.specs.Calls.Picometres.{picometres_call}
use Rattle.format.specs.Calls.Tree.{tree_call}
use Rattle.format.specs.Calls.Channels.{channels_call}
use Rattle.format.specs.Calls.Register.{register_call}
use Rattle.format.specs.Grammar.Lists.{All}
use Rattle.format.specs.Grammar.Chunks.{Begins, Chunk}
use Rattle.format.specs.Grammar.Frames.{FrameName}
use Rattle.format.specs.Grammar.Sheets.{SheetSizes, SheetOf}
use Rattle.format.specs.Grammar.Trees.{Tree}
use Rattle.format.specs.Grammar.Values.{ValueOf, Field}
use Rattle.format.specs.Grammar.Numbers.{ReadsUnsigned, ReadsSigned, NotUnsigned, NotSigned}
use Rattle.format.specs.Grammar.Attributes.{Sized}
use Rattle.format.specs.Grammar.Loops.{UiCount, SpectralCount, Valid, Stops}
use Rattle.format.specs.Grammar.Calibration.{NoStep}
use Rattle.format.specs.Grammar.Channels.{Colored, Covers}
use Rattle.format.specs.Grammar.Picometres.{distance, Rounds, Positive, Endless, AboveZero, InPicometres}
use Rattle.format.specs.Grammar.Comparison.{NamesTell, Looked}
use Rattle.format.specs.Refused.Order.{First, FirstAt}
use Rattle.format.specs.Refused.Chunk.{chunk_order, Misnamed, ChunkRefusal}
use Rattle.format.specs.Refused.Plane.{FrameEntry}
use Rattle.format.specs.Refused.Sheet.{SheetRefusal, sheet_order, SheetReadRefusal, sheet_read_order}
use Rattle.format.specs.Refused.Picometres.{PicometresRefusal, picometres_order, SizeIs}
use Rattle.format.specs.Sentences.{Refuses, AcceptedUnless, AtSome, SheetWritten, PlaneOn, SheetTaken, TurnedAway, ZeroSizes}
use Rattle.format.specs.Sentences.{SizeField, WholeNeeded, WholeTyped, SizeTold}
use Rattle.format.specs.Sentences.{FrameNamed, TreeNamed, NeededNamed, CalibrationNamed, ChannelsNamed}
use Rattle.format.specs.declared.Range.{Range}
use Rattle.format.specs.declared.Entry.{Entry}
use Rattle.format.specs.declared.Attributes.{Attributes}
use Rattle.format.specs.declared.Channel.{Channel}
use Rattle.format.specs.declared.Summary.{Summary}

-- Change request 2: a plane as a TIFF file, and such a file read back.
pub record Sheets : Type 0 where
  -- the bytes that are defined are those of which the rules hold, and no bytes are the sheet of two planes
  pub rule_is : (s : List ℕ) (w h b : ℕ) (samples : List ℕ) → SheetOf s w h b samples ↔ (SheetSizes w h b samples × (s ≡ sheet w h b samples))
  pub sheet_only : (s : List ℕ) (w h b w' h' b' : ℕ) (xs xs' : List ℕ) → SheetOf s w h b xs → SheetOf s w' h' b' xs'
      → (w ≡ w') × ((h ≡ h') × ((b ≡ b') × (xs ≡ xs')))
  -- writing
  pub write_number : (file : List ℕ) (u : Summary) (scene t c z : ℕ) (lent : List ℕ)
      → FirstAt (SheetRefusal file u scene t c z lent) sheet_order (sheet_call file u scene t c z lent).number
  pub write_number_only : (file : List ℕ) (u : Summary) (scene t c z : ℕ) (lent : List ℕ) (n m : ℕ)
      → FirstAt (SheetRefusal file u scene t c z lent) sheet_order n → FirstAt (SheetRefusal file u scene t c z lent) sheet_order m → n ≡ m
  pub write_accepted : (file : List ℕ) (u : Summary) (scene t c z : ℕ) (lent : List ℕ)
      → AcceptedUnless (AtSome (SheetRefusal file u scene t c z lent)) (sheet_call file u scene t c z lent).number
  pub write_refused : (file : List ℕ) (u : Summary) (scene t c z : ℕ) (lent : List ℕ)
      → Refuses (sheet_call file u scene t c z lent).number → (sheet_call file u scene t c z lent).buffer ≡ lent
  pub written : (file : List ℕ) (u : Summary) (scene t c z : ℕ) (lent : List ℕ)
      → (sheet_call file u scene t c z lent).number ≡ 0 → SheetWritten file u scene t c z lent (sheet_call file u scene t c z lent).buffer
  pub plane_written : (file : List ℕ) (u : Summary) (scene t c z : ℕ) (lent : List ℕ)
      → (sheet_call file u scene t c z lent).number ≡ 0 → PlaneOn file u scene t c z (sheet_call file u scene t c z lent).buffer
  -- reading
  pub read_number : (s samples : List ℕ) → First (SheetReadRefusal s samples) sheet_read_order (sheet_read_call s samples).number
  pub read_accepted : (s samples : List ℕ) → AcceptedUnless (SheetReadRefusal s samples) (sheet_read_call s samples).number
  pub read_refused : (s samples : List ℕ) → Refuses (sheet_read_call s samples).number → (sheet_read_call s samples).samples ≡ samples
  pub read_zero : (s samples : List ℕ) → Refuses (sheet_read_call s samples).number
      → let said = sheet_read_call s samples in ZeroSizes said.width said.height said.bits
  pub read_taken : (s samples : List ℕ) → (sheet_read_call s samples).number ≡ 0
      → let said = sheet_read_call s samples in SheetTaken s said.width said.height said.bits samples said.samples
  pub turned_away : (s samples : List ℕ) → TurnedAway s (sheet_read_call s samples).number
  -- what was written gives sizes and bits back, and leaves in lent samples what the plane call leaves there
  pub read_back : (file : List ℕ) (u : Summary) (scene t c z : ℕ) (lent samples : List ℕ)
      → (sheet_call file u scene t c z lent).number ≡ 0 → plane_bytes (shape_of u) ≤ length samples
      → let back = sheet_read_call (take (186 + plane_bytes (shape_of u)) (sheet_call file u scene t c z lent).buffer) samples in
      (back.number ≡ 0) × ((back.width ≡ u.width) × ((back.height ≡ u.height) × ((back.bits ≡ u.bits)
      × (back.samples ≡ (plane_call file u scene t c z samples).buffer))))

-- Change request 3: two names compared, with the count of units that it took.
pub record NameChecks : Type 0 where
  -- yes and no are the ones by which names are looked up
  pub as_before : (a b : List ℕ) → (compared a b).same ≡ same (lossy a) (lossy b)
  -- the rules tell this of two names, and nothing else
  pub comparison_is : (a b : List ℕ) (t : Bool) (n : ℕ) → NamesTell a b t n ↔ (((compared a b).same ≡ t) × ((compared a b).units ≡ n))
  -- a name with no surrogate may be taken as it is
  pub plain_name : (a b : List ℕ) → ((k : ℕ) → get_or a k 0 < 0xD800) → compared a b ≡ comparison a (lossy b)
  -- what is looked at are the units compared and at most one more; no other unit counts
  pub looked_most : (a : List ℕ) (c k : ℕ) → Looked a c k → k ≤ c
  pub no_further : (a b a' b' : List ℕ) → length a' ≡ length a → length b' ≡ length b
      → ((k : ℕ) → Looked a (compared a b).units k → get_or a' k 0 ≡ get_or a k 0)
      → ((k : ℕ) → Looked b (compared a b).units k → get_or b' k 0 ≡ get_or b k 0) → compared a' b' ≡ compared a b

-- ---- change request 4: a double counts as a whole number only where it is one

-- What a double that counts as absent means, field by field, in a tree with the entries es.
pub record CountsAsAbsent (s : List ℕ) (es : List Entry) : Type 0 where
  -- 11
  pub size_missing : (i : ℕ) (name : List ℕ) (limit : ℕ) (x : Float) → Field s es 0 (ascii "SLxImageAttributes") (level i) → SizeField name limit
      → Field s es (suc i) name (double x) → NotUnsigned limit x → attributes s es ≡ refused why.missing
  -- 12, where none of those five is missing
  pub compression_unstated : (i : ℕ) (a : Attributes) (x : Float) → Sized s es i a
      → Field s es (suc i) (ascii "eCompression") (double x) → NotSigned x → attributes s es ≡ refused why.compression
  -- the level is no loop and its children are none; it states no z step of its own, and the search goes on below it
  pub type_stops : (i : ℕ) (x : Float) → Field s es (suc i) (ascii "eType") (double x) → NotSigned x → Stops s es i
  pub type_no_step : (i : ℕ) (x : Float) → Field s es (suc i) (ascii "eType") (double x) → NotSigned x → NoStep s es i
  -- uiCount counts 0, and pPlanes.uiCount gives way to it
  pub count_zero : (p : ℕ) (x : Float) → Field s es (suc p) (ascii "uiCount") (double x) → NotUnsigned (2 ^ 64) x → UiCount s es p 0
  pub planes_give_way : (p q : ℕ) (x : Float) → Field s es (suc p) (ascii "pPlanes") (level q) → Field s es (suc q) (ascii "uiCount") (double x)
      → NotUnsigned (2 ^ 64) x → (n : ℕ) → SpectralCount s es p n ↔ UiCount s es p n
  -- an element of pItemValid is not valid
  pub not_valid : (j : ℕ) (x : Float) → ValueOf s es j (double x) → NotUnsigned (2 ^ 64) x → (is : List ℕ) (n : ℕ) → Valid s es (j ∷ is) n ↔ Valid s es is n
  -- a plane's record has no colour, and it covers one component
  pub no_color : (i : ℕ) (x : Float) → Field s es (suc i) (ascii "uiColor") (double x) → NotUnsigned (2 ^ 32) x → Colored s es i 0 0 0 0
  pub covers_one : (i : ℕ) (x : Float) → Field s es (suc i) (ascii "uiCompCount") (double x) → NotUnsigned (2 ^ 64) x → Covers s es i 1

pub record WholeNumbers : Type 0 where
  -- a value is read as the whole number that it is by the rules, and as no other
  pub unsigned_is : (v : Value) (n : ℕ) → ReadsUnsigned v n ↔ (unsigned v ≡ some n)
  pub signed_is : (v : Value) (z : ℤ) → ReadsSigned v z ↔ (signed v ≡ some z)
  -- doubles that count as absent: with a fraction, NaN, infinite or out of range, and no others
  pub unsigned_absent : (x : Float) → NotUnsigned (2 ^ 64) x ↔ (unsigned (double x) ≡ none)
  pub u32_absent : (x : Float) → NotUnsigned (2 ^ 32) x ↔ (below32 (unsigned (double x)) ≡ none)
  pub signed_absent : (x : Float) → NotSigned x ↔ (signed (double x) ≡ none)
  -- where the ranges end, by the bits of doubles: −0 is 0, 2^64 − 2048 is the last of a u64, 2^63 − 1024 and −2^63 are the ends of an i64
  pub minus_zero : (unsigned (double (of_bits binary64 0x8000000000000000)) ≡ some 0) × (signed (double (of_bits binary64 0x8000000000000000)) ≡ some (pos 0))
  pub last_u64 : unsigned (double (of_bits binary64 0x43EFFFFFFFFFFFFF)) ≡ some (2 ^ 64 - 2048)
  pub past_u64 : unsigned (double (of_bits binary64 0x43F0000000000000)) ≡ none
  pub last_i64 : signed (double (of_bits binary64 0x43DFFFFFFFFFFFFF)) ≡ some (pos (2 ^ 63 - 1024))
  pub past_i64 : signed (double (of_bits binary64 0x43E0000000000000)) ≡ none
  pub least_i64 : signed (double (of_bits binary64 0xC3E0000000000000)) ≡ some (neg_ℤ (pos (2 ^ 63)))
  pub below_i64 : signed (double (of_bits binary64 0xC3E0000000000001)) ≡ none
  -- 2.9 and 1.5 have a fraction, and so has the smallest double above 0
  pub fractions : (signed (double (of_bits binary64 0x4007333333333333)) ≡ none) × (signed (double (of_bits binary64 0x3FF8000000000000)) ≡ none)
  pub smallest : (unsigned (double (of_bits binary64 1)) ≡ none) × (signed (double (of_bits binary64 1)) ≡ none)
  -- flags and stored whole numbers are read as they were, and doubles as doubles
  pub flags_stay : (b : Bool) → (unsigned (flag b) ≡ some (one_if b)) × (signed (flag b) ≡ some (pos (one_if b)))
  pub wholes_stay : (n : ℕ) → (n < 2 ^ 64 → unsigned (whole (pos n)) ≡ some n) × (n < 2 ^ 63 → signed (whole (pos n)) ≡ some (pos n))
  pub below_stay : (n : ℕ) → (unsigned (whole (negsuc n)) ≡ none) × (n < 2 ^ 63 → signed (whole (negsuc n)) ≡ some (negsuc n))
  pub doubles_stay : (x : Float) → float (double x) ≡ some x
  -- a file that has such a double for a number that opening needs is refused, with 11 or 12, and where the outermost eType is one there is no loop
  pub open_whole : (file table : List ℕ) → WholeNeeded file (room_in (length table)) (open_call file table).number
  pub open_typed : (file table : List ℕ) → (open_call file table).number ≡ 0 → WholeTyped file (open_call file table).summary
  -- in any tree of any bytes
  pub in_fields : (s : List ℕ) (r : Range) (es : List Entry) → Tree s r es → CountsAsAbsent s es

-- ---- change request 5: the size of a pixel in picometres

pub record Picometres : Type 0 where
  -- of a double m × 2^e: no whole number is nearer to m × 2^e × 1,000,000, and where another is as near, the one that is given is even
  pub nearest : (m : ℕ) (e : ℤ) (n : ℕ) → picometres (fin false m e) ≡ some n
      → (k : ℕ) → distance (m * up e * 1_000_000) (down e) n ≤ distance (m * up e * 1_000_000) (down e) k
  pub ties_to_even : (m : ℕ) (e : ℤ) (n : ℕ) → picometres (fin false m e) ≡ some n
      → (k : ℕ) → distance (m * up e * 1_000_000) (down e) k ≡ distance (m * up e * 1_000_000) (down e) n → (k ≡ n → ⊥) → n % 2 ≡ 0
  -- there is such a number, and one alone; it is given where u64 holds it, and no other is
  pub rounded_once : (a b : ℕ) → 0 < b → (n : ℕ) × Rounds a b n × ((m : ℕ) → Rounds a b m → n ≡ m)
  pub held : (m : ℕ) (e : ℤ) (n : ℕ) → Rounds (m * up e * 1_000_000) (down e) n → n < 2 ^ 64 → picometres (fin false m e) ≡ some n
  pub not_held : (m : ℕ) (e : ℤ) (n : ℕ) → Rounds (m * up e * 1_000_000) (down e) n → 2 ^ 64 ≤ n → picometres (fin false m e) ≡ none
  -- a value of any kind, whole numbers as they are stored: read as a double first it is above 0 where the rules say so, and has the picometres of the rules
  pub above_is : (v : Value) → AboveZero v ↔ ((x : Float) × (above_zero (float v) ≡ some x))
  pub size_is : (v : Value) (n : ℕ) → (InPicometres v n × (n < 2 ^ 64)) ↔ ((x : Float) × (above_zero (float v) ≡ some x) × (picometres x ≡ some n))
  pub size_only : (v : Value) (n m : ℕ) → InPicometres v n → InPicometres v m → n ≡ m
  -- a size that is no smaller has no fewer picometres
  pub monotone : (v w : Value) (a b c d n m : ℕ) → Positive v a b → Positive w c d → a * d ≤ c * b → InPicometres v n → InPicometres w m → n ≤ m
  -- a size that a whole number of picometres has exactly has that number, and so has a whole number of micrometres
  pub exact : (v : Value) (size unit n : ℕ) → Positive v size unit → size * 1_000_000 ≡ n * unit → InPicometres v n
  pub whole_micrometres : (n : ℕ) → 0 < n → InPicometres (whole (pos n)) (n * 1_000_000)
  -- by bits: 1.0 and 0.1; 2^-7 and 3 × 2^-7 lie halfway; the last double below half a picometre and the next; one that a product of doubles gets wrong
  pub plain : (picometres (of_bits binary64 0x3FF0000000000000) ≡ some 1_000_000) × (picometres (of_bits binary64 0x3FB999999999999A) ≡ some 100_000)
  pub halfway : (picometres (of_bits binary64 0x3F80000000000000) ≡ some 7812) × (picometres (of_bits binary64 0x3F98000000000000) ≡ some 23438)
  pub half_one : (picometres (of_bits binary64 0x3EA0C6F7A0B5ED8D) ≡ some 0) × (picometres (of_bits binary64 0x3EA0C6F7A0B5ED8E) ≡ some 1)
  pub product_rounds : picometres (of_bits binary64 0x41DD481499755D4C) ≡ some 1_965_052_517_833_819
  -- the smallest double, the last that a u64 holds, the next, the largest and the infinity
  pub smallest : picometres (of_bits binary64 1) ≡ some 0
  pub last_u64 : picometres (of_bits binary64 0x42B0C6F7A0B5ED8D) ≡ some 18_446_744_073_709_550_781
  pub past_u64 : picometres (of_bits binary64 0x42B0C6F7A0B5ED8E) ≡ none
  pub largest : (picometres (of_bits binary64 0x7FEFFFFFFFFFFFFF) ≡ none) × (picometres (of_bits binary64 0x7FF0000000000000) ≡ none)
  -- a NaN, minus infinity, −0 and −1 are not above 0, and plus infinity is
  pub not_above : All (λ bits. AboveZero (double (of_bits binary64 bits)) → ⊥)
      (0x7FF8000000000000 ∷ 0xFFF0000000000000 ∷ 0x8000000000000000 ∷ 0xBFF0000000000000 ∷ [])
  pub plus_infinity : Endless (double (of_bits binary64 0x7FF0000000000000))
  -- the call, for any bytes
  pub number : (file : List ℕ) (u : Summary) (table : List ℕ)
      → FirstAt (PicometresRefusal file u (room_in (length table))) picometres_order (picometres_call file u table).number
  pub number_only : (file : List ℕ) (u : Summary) (room n m : ℕ) → FirstAt (PicometresRefusal file u room) picometres_order n
      → FirstAt (PicometresRefusal file u room) picometres_order m → n ≡ m
  pub accepted : (file : List ℕ) (u : Summary) (table : List ℕ)
      → AcceptedUnless (AtSome (PicometresRefusal file u (room_in (length table)))) (picometres_call file u table).number
  pub table_zero : (file : List ℕ) (u : Summary) (table : List ℕ) → (picometres_call file u table).table ≡ zeros (length table)
  pub refused_zero : (file : List ℕ) (u : Summary) (table : List ℕ)
      → Refuses (picometres_call file u table).number → (picometres_call file u table).picometres ≡ 0
  pub size : (file : List ℕ) (u : Summary) (table : List ℕ) → (picometres_call file u table).number ≡ 0
      → SizeIs file u (picometres_call file u table).picometres
  -- no bytes have two sizes
  pub size_once : (file : List ℕ) (u : Summary) (n m : ℕ) → SizeIs file u n → SizeIs file u m → n ≡ m
  -- beside an opening with a table as long
  pub opened_size : (file table : List ℕ) → (open_call file table).number ≡ 0
      → SizeTold file (open_call file table).summary (picometres_call file (open_call file table).summary table)

-- ---- change request 6: a chunk is taken under its own name alone

pub record ChunkNames : Type 0 where
  -- a chunk's name begins with the name of one frame alone
  pub one_frame : (n m : ℕ) (a b name : List ℕ) → FrameName n a → FrameName m b → Begins a name → Begins b name → n ≡ m
  -- so no two points have their planes from one chunk: where both are accepted and the map has both frames at one offset, it is one point
  pub never_neighbour : (file : List ℕ) (u : Summary) (scene t c z scene' t' c' z' : ℕ) (samples samples' : List ℕ)
      → (plane_call file u scene t c z samples).number ≡ 0 → (plane_call file u scene' t' c' z' samples').number ≡ 0
      → (o : ℕ) → FrameEntry file u (seq_index (loops_of u) scene t z) o → FrameEntry file u (seq_index (loops_of u) scene' t' z') o
      → (scene ≡ scene') × (t ≡ t') × (z ≡ z')
  -- in a chunk the order is 4, 29, 4; a longer name passes; the map chunk's own wrong name is 4
  pub chunk_number : (name s : List ℕ) (o : ℕ) → FirstAt (ChunkRefusal name s o) chunk_order (number_of (chunk_data why.chunk_name name s o))
  pub longer_passes : (name more s : List ℕ) (o : ℕ) (r : Range) → Chunk (name ++ more) s o r → Chunk name s o r
  pub map_name_4 : (file table : List ℕ) → le_at 4 file 0 ≡ chunk_mark → 40 ≤ length file → part file (length file - 40) 32 ≡ end_mark
      → Misnamed map_name file (le_at 8 file (length file - 8)) → (open_call file table).number ≡ why.chunk
  -- 29 is said exactly where the map leads from a name astray
  pub plane_named : (file : List ℕ) (u : Summary) (scene t c z : ℕ) (samples : List ℕ)
      → FrameNamed file u scene t c z (plane_call file u scene t c z samples).number
  pub sheet_named : (file : List ℕ) (u : Summary) (scene t c z : ℕ) (lent : List ℕ)
      → FrameNamed file u scene t c z (sheet_call file u scene t c z lent).number
  pub tree_named_is : (file : List ℕ) (u : Summary) (name table : List ℕ) → TreeNamed file u name (tree_call file u name table).number
  pub picometres_named : (file : List ℕ) (u : Summary) (table : List ℕ)
      → TreeNamed file u (ascii "ImageCalibrationLV|0!") (picometres_call file u table).number
  pub open_named : (file table : List ℕ) → NeededNamed file (open_call file table).number
  -- there a calibration is not stated, and channel records are empty; channels and register never say 29
  pub calibration_missing : (file table : List ℕ) → (open_call file table).number ≡ 0 → CalibrationNamed file (open_call file table).summary
  pub channels_missing : (file : List ℕ) (u : Summary) (table : List ℕ) (row : List Channel)
      → ChannelsNamed file u (length row) (channels_call file u table row).row
  pub channels_never : (file : List ℕ) (u : Summary) (table : List ℕ) (row : List Channel) → (channels_call file u table row).number ≡ why.chunk_name → ⊥
  pub register_never : (file : List ℕ) (u : Summary) (buf : List ℕ) → (register_call file u buf).number ≡ why.chunk_name → ⊥
