-- Sentences that the demands and the calls' own contracts are made of, each under a name.
use Rattle.std.specs.Prelude.{ℕ, suc, ◌+◌, ◌^◌, ◌≤◌, ◌<◌, ◌≡◌, ◌↔◌, List, [], length, take, drop, Float}
use Rattle.std.proofs.Math.Option.{none, some}
use Rattle.format.specs.Bytes.{zeros, ascii}
use Rattle.format.specs.Chunks.{data_in}
use Rattle.format.specs.Map.{MapEntry}
use Rattle.format.specs.Values.{Value, double, level}
use Rattle.format.specs.Numbers.{float, narrow}
use Rattle.format.specs.Calibration.{above_zero}
use Rattle.format.specs.Picometres.{picometres}
use Rattle.format.specs.Attributes.{plane_bytes}
use Rattle.format.specs.Frames.{seq_index}
use Rattle.format.specs.Summary.{shape_of, loops_of}
use Rattle.format.specs.Refusals as why
use Rattle.format.specs.Sheets.{sheet}
use Rattle.format.specs.Calls.Plane.{plane_call}
use Rattle.format.specs.Calls.Picometres.{SizeOutcome}
use Rattle.format.specs.Grammar.Map.{Listed, Mapped}
use Rattle.format.specs.Grammar.Sheets.{SheetOf}
use Rattle.format.specs.Grammar.Trees.{Tree}
use Rattle.format.specs.Grammar.Values.{Field}
use Rattle.format.specs.Grammar.Numbers.{NotUnsigned, NotSigned}
use Rattle.format.specs.Grammar.File.{Joined}
use Rattle.format.specs.Grammar.Table.{Enough}
use Rattle.format.specs.Refused.Chunk.{Misnamed}
use Rattle.format.specs.Refused.Open.{Needed, attributes, needed, TreeAt, TooMany, SizesAt, ExperimentAt}
use Rattle.format.specs.Refused.Plane.{Within, FrameEntry, FrameData, PlaneRefusal, Copied}
use Rattle.format.specs.Refused.Channels.{Emptied}
use Rattle.format.specs.Refused.Summary.{Sound, Uncalibrated}
use Rattle.format.specs.Refused.Tree.{NameEntry, NameData, Tabled}
use Rattle.format.specs.Refused.Picometres.{SizeAt}
use Rattle.format.specs.declared.Range.{Range}
use Rattle.format.specs.declared.Entry.{Entry}
use Rattle.format.specs.declared.Loop.{Loop}
use Rattle.format.specs.declared.Attributes.{Attributes}
use Rattle.format.specs.declared.Channel.{Channel}
use Rattle.format.specs.declared.Summary.{Summary}

-- ---- refused and accepted

-- a call whose number is n is refused
abbrev pub Refuses : ℕ → Type 0
Refuses n = n ≡ 0 → ⊥

-- none of these refusals holds
abbrev pub None : (ℕ → Type 0) → Type 0
None Refusal = (n : ℕ) → Refusal n → ⊥

-- a call whose number is n is accepted where none of these refusals holds, and only there
abbrev pub AcceptedUnless : (ℕ → Type 0) → ℕ → Type 0
AcceptedUnless Refusal n = (n ≡ 0) ↔ None Refusal

-- some stage of a call refuses with the number
abbrev pub AtSome : {A : Type 0} → (A → ℕ → Type 0) → ℕ → Type 0
AtSome {A = A} P n = (a : A) × P a n

-- ---- opening

-- Demand 3: an opening whose number is n accepts where the grammar joins the file to a summary and a table of `room` entries is enough, and only there
abbrev pub OpensExactly : List ℕ → ℕ → ℕ → Type 0
OpensExactly file room n = (n ≡ 0) ↔ ((u : Summary) × Joined file u × Enough file room)

-- Demand 3: two points in range that have the same frame number are one point
abbrev pub Different : List Loop → Type 0
Different ls =
    (scene t z scene' t' z' : ℕ) → Within ls scene t z → Within ls scene' t' z' → seq_index ls scene t z ≡ seq_index ls scene' t' z'
    → (scene ≡ scene') × (t ≡ t') × (z ≡ z')

-- ---- what an accepted call leaves

-- a plane, in the samples: those of component c in the data of the frame that the point's number names; later bytes as before
abbrev pub PlaneCopied : List ℕ → Summary → ℕ → ℕ → ℕ → ℕ → List ℕ → List ℕ → Type 0
PlaneCopied file u scene t c z before after =
    (r : Range) × FrameData file u (seq_index (loops_of u) scene t z) r × Copied u c (data_in file r) before after

-- a sheet, in the lent bytes: that of the samples which the same plane leaves in a buffer of their length; later bytes as before
pub record SheetWritten (file : List ℕ) (u : Summary) (scene t c z : ℕ) (before after : List ℕ) : Type 0 where
  pub samples : List ℕ
  pub plane : PlaneCopied file u scene t c z (zeros (plane_bytes (shape_of u))) samples
  pub sheet : SheetOf (take (186 + plane_bytes (shape_of u)) after) u.width u.height u.bits samples
  pub later : drop (186 + plane_bytes (shape_of u)) after ≡ drop (186 + plane_bytes (shape_of u)) before
  pub length_kept : length after ≡ length before

-- the lent bytes begin with the sheet of the plane that the plane call gives on the same arguments, whatever samples are lent to that
abbrev pub PlaneOn : List ℕ → Summary → ℕ → ℕ → ℕ → ℕ → List ℕ → Type 0
PlaneOn file u scene t c z after =
    (samples : List ℕ) → plane_bytes (shape_of u) ≤ length samples
    → ((plane_call file u scene t c z samples).number ≡ 0)
    × (take (186 + plane_bytes (shape_of u)) after
    ≡ sheet u.width u.height u.bits (take (plane_bytes (shape_of u)) (plane_call file u scene t c z samples).buffer))

-- a reading whose number is n gives 27 exactly where s is the sheet of no plane
abbrev pub TurnedAway : List ℕ → ℕ → Type 0
TurnedAway s n = (n ≡ why.sheet_layout) ↔ ((w h b : ℕ) (samples : List ℕ) → SheetOf s w h b samples → ⊥)

-- width, height and bits are 0
abbrev pub ZeroSizes : ℕ → ℕ → ℕ → Type 0
ZeroSizes w h b = (w ≡ 0) × ((h ≡ 0) × (b ≡ 0))

-- a sheet's samples, sizes and bits, where it is read: the samples in the lent bytes, later bytes as before
pub record SheetTaken (s : List ℕ) (w h b : ℕ) (before after : List ℕ) : Type 0 where
  pub samples : List ℕ
  pub sheet : SheetOf s w h b samples
  pub front : take (length samples) after ≡ samples
  pub later : drop (length samples) after ≡ drop (length samples) before
  pub length_kept : length after ≡ length before

-- a tree, in a table of n bytes: the entries of the records of the chunk that the map has under the name, and zeros behind them
abbrev pub TreeEntered : List ℕ → Summary → List ℕ → ℕ → List ℕ → Type 0
TreeEntered file u name n after =
    (r : Range) × (es : List Entry) × NameData file u name r × Tree file r es × Tabled es n after

-- ---- a plane read from the file alone

-- a reading whose number is n accepts where the grammar joins the file to a summary, the table is enough, and with that summary no refusal of the plane holds;
-- and only there
abbrev pub ReadsExactly : List ℕ → ℕ → ℕ → ℕ → ℕ → ℕ → List ℕ → ℕ → Type 0
ReadsExactly file room scene t c z samples n =
    (n ≡ 0) ↔ ((u : Summary) × Joined file u × Enough file room × None (AtSome (PlaneRefusal file u scene t c z samples)))

-- ---- change request 4: whole numbers

-- the five numbers without which no file opens, and from where on a whole number is out of the range of each
pub data SizeField : List ℕ → ℕ → Type 0 where
  width : SizeField (ascii "uiWidth") (2 ^ 64)
  row_bytes : SizeField (ascii "uiWidthBytes") (2 ^ 64)
  height : SizeField (ascii "uiHeight") (2 ^ 64)
  components : SizeField (ascii "uiComp") (2 ^ 64)
  bits : SizeField (ascii "uiBpcInMemory") (2 ^ 32)

-- x counts as absent in the attributes' field of this name
pub data NotStated : List ℕ → Float → Type 0 where
  size : {name : List ℕ} {limit : ℕ} {x : Float} → SizeField name limit → NotUnsigned limit x → NotStated name x
  compression : {x : Float} → NotSigned x → NotStated (ascii "eCompression") x

-- An opening whose number is n, with a table of `room` entries, of a file whose attributes have such a double: it is refused. With a table that is long enough
-- for their tree a size gives 11, and eCompression 12 where all sizes are stated.
pub record WholeNeeded (file : List ℕ) (room n : ℕ) : Type 0 where
  pub not_opened : (es : List Entry) (i : ℕ) (name : List ℕ) (x : Float) → TreeAt file (needed attributes) es
      → Field file es 0 (ascii "SLxImageAttributes") (level i) → Field file es (suc i) name (double x) → NotStated name x → Refuses n
  pub gives_11 : (es : List Entry) (i : ℕ) (name : List ℕ) (limit : ℕ) (x : Float) → TreeAt file (needed attributes) es
      → Field file es 0 (ascii "SLxImageAttributes") (level i) → SizeField name limit → Field file es (suc i) name (double x) → NotUnsigned limit x
      → (TooMany file (needed attributes) room → ⊥) → n ≡ why.missing
  pub gives_12 : (es : List Entry) (i : ℕ) (a : Attributes) (x : Float) → SizesAt file es i a → Field file es (suc i) (ascii "eCompression") (double x)
      → NotSigned x → (TooMany file (needed attributes) room → ⊥) → n ≡ why.compression

-- the summary u has no loop where the outermost eType of the file is a double that counts as absent
abbrev pub WholeTyped : List ℕ → Summary → Type 0
WholeTyped file u =
    (es : List Entry) (i : ℕ) (x : Float) → ExperimentAt file es i → Field file es (suc i) (ascii "eType") (double x) → NotSigned x → loops_of u ≡ []

-- ---- change request 5: picometres

-- the summary u states the size of the file in f32, and x is that size, as it is read from the value of the field
pub record StatedSize (file : List ℕ) (u : Summary) (x : Float) : Type 0 where
  pub value : Value
  pub there : SizeAt file u value
  pub read : above_zero (float value) ≡ some x
  pub state : u.calibration ≡ 1
  pub in_f32 : u.x ≡ narrow x

-- What a picometres call says of a file beside the summary u that opening gave: where u states a size, its picometres, or 28 where a u64 does not hold them;
-- where u states none, the call is refused, and not with 28.
pub data SizeTold (file : List ℕ) (u : Summary) (said : SizeOutcome) : Type 0 where
  stated : {x : Float} → StatedSize file u x → said.number ≡ 0 → picometres x ≡ some said.picometres → SizeTold file u said
  over : {x : Float} → StatedSize file u x → said.number ≡ why.size_range → picometres x ≡ none → SizeTold file u said
  unstated : (u.calibration ≡ 1 → ⊥) → Refuses said.number → (said.number ≡ why.size_range → ⊥) → SizeTold file u said

-- ---- change request 6: the names of chunks

-- the summary's map leads from a name to a chunk of another one
abbrev pub NameAstray : List ℕ → Summary → List ℕ → Type 0
NameAstray file u name = (o : ℕ) × NameEntry file u name o × Misnamed name file o

-- and so does the file's own map
abbrev pub EntryAstray : List ℕ → List ℕ → Type 0
EntryAstray file name = (r : Range) × (es : List MapEntry) × (o : ℕ) × Mapped file r es × Listed (data_in file r) name es o × Misnamed name file o

-- the map leads from the name of a point's frame to such a chunk, and the point and the summary are fit for a plane
pub record FrameAstray (file : List ℕ) (u : Summary) (scene t c z : ℕ) : Type 0 where
  pub sound : Sound file u
  pub in_range : Within (loops_of u) scene t z
  pub component : c < u.components
  pub ceiling_kept : plane_bytes (shape_of u) ≤ 4_294_967_296
  pub offset : ℕ
  pub entry : FrameEntry file u (seq_index (loops_of u) scene t z) offset
  pub misnamed : Misnamed entry.name file offset

-- a call for a point's frame, and one for a tree, whose number is n: 29 exactly there
abbrev pub FrameNamed : List ℕ → Summary → ℕ → ℕ → ℕ → ℕ → ℕ → Type 0
FrameNamed file u scene t c z n = (n ≡ why.chunk_name) ↔ FrameAstray file u scene t c z

abbrev pub TreeNamed : List ℕ → Summary → List ℕ → ℕ → Type 0
TreeNamed file u name n = (n ≡ why.chunk_name) ↔ (Sound file u × NameAstray file u name)

-- An opening whose number is n: it is refused where the map leads from a needed name astray, with 29 where that is the attributes', and it says 29 nowhere
-- else.
pub record NeededNamed (file : List ℕ) (n : ℕ) : Type 0 where
  pub not_opened : (w : Needed) → EntryAstray file (needed w) → Refuses n
  pub attributes_29 : EntryAstray file (needed attributes) → n ≡ why.chunk_name
  pub no_other : n ≡ why.chunk_name → (w : Needed) × EntryAstray file (needed w)

-- the summary states nothing of the calibration where the map leads from its name astray
abbrev pub CalibrationNamed : List ℕ → Summary → Type 0
CalibrationNamed file u = EntryAstray file (ascii "ImageCalibrationLV|0!") → Uncalibrated u

-- a row of n channel records is empty where the map leads from the channels' name astray
abbrev pub ChannelsNamed : List ℕ → Summary → ℕ → List Channel → Type 0
ChannelsNamed file u n out = NameAstray file u (ascii "ImageMetadataSeqLV|0!") → Emptied n out
