-- The refusals of the code and their numbers, and what an Option or a Result of it stands for.
use Rattle.std.specs.Prelude.{ℕ}
use Rattle.std.specs.Prelude as std
use Rattle.std.proofs.Math.Option.{Option, none, some}
use Rattle.format.specs.Answer.{Answer, given, refused}
use Rattle.format.specs.Refusals as why
use Rattle.format.specs.declared.refusal.Refusal.{Refusal}
use Rattle.format.specs.declared.refusal.Refusal.TheVariants as is

-- the number of a refusal
abbrev pub number : Refusal → ℕ
number is.Foreign = why.foreign
number is.Legacy = why.legacy
number is.Tail = why.tail
number is.Chunk = why.chunk
number is.Map = why.map
number is.Cut = why.cut
number is.Kind = why.kind
number is.Packed = why.packed
number is.Deep = why.deep
number is.Level = why.level
number is.Missing = why.missing
number is.Compression = why.compression
number is.Bits = why.bits
number is.FrameShape = why.frame_shape
number is.LoopKind = why.loop_kind
number is.LoopCount = why.loop_count
number is.AxisTwice = why.axis_twice
number is.Table = why.table
number is.ChannelRow = why.channel_row
number is.Summary = why.summary
number is.Index = why.index
number is.Ceiling = why.ceiling
number is.NoFrame = why.no_frame
number is.FrameShort = why.frame_short
number is.Buffer = why.buffer
number is.SheetLong = why.sheet_long
number is.SheetLayout = why.sheet_layout
number is.SizeRange = why.size_range
number is.ChunkName = why.chunk_name

-- a value, or none
abbrev pub maybe : {A : Type 0} → std.Option A → Option A
maybe (std.Some x) = some x
maybe std.None = none

-- a value, or the refusal with its number
abbrev pub answer : {A : Type 0} → std.Result A Refusal → Answer A
answer (std.Ok x) = given x
answer (std.Err e) = refused (number e)

-- the number of a call: 0 where it is accepted
abbrev pub said : {A : Type 0} → std.Result A Refusal → ℕ
said (std.Ok x) = 0
said (std.Err e) = number e
