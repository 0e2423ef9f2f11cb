-- Document 01, Why a file is turned away: the numbers, named by their trade words. Those of a change request say which.
use Rattle.std.specs.Prelude.{ℕ}

-- foreign: there are no four bytes, or the first four are neither a chunk's mark nor those of legacy
abbrev pub foreign : ℕ
foreign = 1

-- legacy: the first four bytes are those of the older format, 0x0C000000
abbrev pub legacy : ℕ
legacy = 2

-- tail: the file is too short for a locator, or the locator has another mark
abbrev pub tail : ℕ
tail = 3

-- chunk: a chunk's header, name or data does not lie wholly in the file, its mark is wrong, or the map's own chunk has another name
abbrev pub chunk : ℕ
chunk = 4

-- map: the map's data ends before an end mark or inside an entry, or more than 2,000,000 entries come before the end mark
abbrev pub map : ℕ
map = 5

-- cut: a record needs a byte behind the end of the level that it stands in
abbrev pub cut : ℕ
cut = 6

-- kind: a record has a type that is not known
abbrev pub kind : ℕ
kind = 7

-- packed: a record has the type of compressed ones, which are not read
abbrev pub packed : ℕ
packed = 8

-- deep: a level, with or without children, has 64 levels around it
abbrev pub deep : ℕ
deep = 9

-- level: a level declares more than 10,000,000 items, or a length that does not cover its own header
abbrev pub level : ℕ
level = 10

-- missing: the map has no entry of the name, or a tree lacks the level or the number that is needed
abbrev pub missing : ℕ
missing = 11

-- compression: eCompression is absent, or another number than 2
abbrev pub compression : ℕ
compression = 12

-- bits: samples have another number of bits than 8, 16 and 32
abbrev pub bits : ℕ
bits = 13

-- frame shape: the sizes do not fit together (Attributes)
abbrev pub frame_shape : ℕ
frame_shape = 14

-- loop kind: a loop is of a type that is not read, or a custom loop was appended (Loops)
abbrev pub loop_kind : ℕ
loop_kind = 15

-- loop count: a loop has more than 1,000,000 values
abbrev pub loop_count : ℕ
loop_count = 16

-- axis twice: two appended loops run over the same axis
abbrev pub axis_twice : ℕ
axis_twice = 17

-- table: type and name of a record pass, and the lent table has no entry left for it
abbrev pub table : ℕ
table = 18

-- channel row: the lent row has fewer records than the summary has components
abbrev pub channel_row : ℕ
channel_row = 19

-- summary: the summary cannot be used (Summary)
abbrev pub summary : ℕ
summary = 20

-- index: scene, t or z is not below the count of its axis, or c not below the components
abbrev pub index : ℕ
index = 21

-- ceiling: a plane has more than 4,294,967,296 bytes
abbrev pub ceiling : ℕ
ceiling = 22

-- no frame: the map has no entry of the frame's name
abbrev pub no_frame : ℕ
no_frame = 23

-- frame short: the frame's data has fewer than 8 bytes, or fewer than stride × height behind them; also where that product is past 2^64 − 1
abbrev pub frame_short : ℕ
frame_short = 24

-- buffer: the lent buffer is shorter than what would be written
abbrev pub buffer : ℕ
buffer = 25

-- sheet long: a plane whose sheet has more than 4,294,967,295 bytes (change request 2)
abbrev pub sheet_long : ℕ
sheet_long = 26

-- sheet layout: lent bytes that are no plane's sheet (change request 2)
abbrev pub sheet_layout : ℕ
sheet_layout = 27

-- size range: a pixel size of more than 2^64 − 1 picometres, or infinite (change request 5)
abbrev pub size_range : ℕ
size_range = 28

-- chunk name: a chunk that the map has under a name with which its own does not begin (change request 6)
abbrev pub chunk_name : ℕ
chunk_name = 29
