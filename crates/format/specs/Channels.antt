-- Document 01, Calibration and channels: what the planes of the tree in ImageMetadataSeqLV|0! say of the components, of which a plane may cover several.
use Rattle.std.specs.Prelude.{ℕ, ◌-◌, ◌/◌, ◌%◌, min, cond, List, [], ◌∷◌, ◌++◌, map, take, replicate, eqb}
use Rattle.std.proofs.Math.Option.{Option, none, some, or_else}
use Rattle.format.specs.Bytes.{ascii}
use Rattle.format.specs.Values.{Value, flag, whole, double, text, bytes, level, list, field, field_in, as_level, bind}
use Rattle.format.specs.Numbers.{unsigned, below32}
use Rattle.format.specs.Loops.{child_levels}
use Rattle.format.specs.declared.Entry.{Entry}
use Rattle.format.specs.declared.Channel.{Channel}

-- the record of a component of which nothing is told
unfoldable pub empty_channel : Channel
empty_channel = record { named = 0; name = 0; units = 0; colored = 0; red = 0; green = 0; blue = 0 }

-- the name that sDescription is, where it is a text of one unit or more: state 1, where it begins, its units; else three zeros
unfoldable pub with_text : Option Value → (ℕ → ℕ → ℕ → Channel) → Channel
with_text none k = k 0 0 0
with_text (some (flag b)) k = k 0 0 0
with_text (some (whole z)) k = k 0 0 0
with_text (some (double b)) k = k 0 0 0
with_text (some (text i n)) k = cond (eqb n 0) (k 0 0 0) (k 1 i n)
with_text (some (bytes i n)) k = k 0 0 0
with_text (some (level i)) k = k 0 0 0
with_text (some (list l)) k = k 0 0 0

-- the colour that uiColor is: state 1, the lowest byte as red, the next as green, the third as blue; four zeros where it cannot be read
unfoldable pub with_color : Option ℕ → ℕ → ℕ → ℕ → Channel
with_color none s i n = record { named = s; name = i; units = n; colored = 0; red = 0; green = 0; blue = 0 }
with_color (some v) s i n =
    record { named = s; name = i; units = n; colored = 1; red = v % 256; green = v / 256 % 256; blue = v / 65536 % 256 }

-- the record of the plane whose level is the entry i
unfoldable pub channel_of : List ℕ → List Entry → ℕ → Channel
unfolding with_text with_color ascii
channel_of s es i =
    with_text (field_in s es i (ascii "sDescription")) (with_color (below32 (bind (field_in s es i (ascii "uiColor")) unsigned)))

-- how many components a plane covers, by its uiCompCount: 1 where that is 0 or absent
unfoldable pub covers_of : Option ℕ → ℕ
covers_of none = 1
covers_of (some n) = cond (eqb n 0) 1 n

-- the record of a plane, and how many components it covers
pub record PlaneRecord : Type 0 where
  pub channel : Channel
  pub covers : ℕ

-- those of the plane whose level is the entry i
unfoldable pub plane_record : List ℕ → List Entry → ℕ → PlaneRecord
unfolding channel_of covers_of ascii
plane_record s es i = record { channel = channel_of s es i; covers = covers_of (bind (field_in s es i (ascii "uiCompCount")) unsigned) }

-- The records of the first m components: each plane's as often as it covers one of them, plane after plane. No more than m are made, whatever a plane says.
unfoldable pub covered : ℕ → List PlaneRecord → List Channel
covered m [] = []
covered m (p ∷ ps) = replicate (min p.covers m) p.channel ++ covered (m - p.covers) ps

-- the level whose children are the planes: sPlaneNew, or sPlane where that is no level
unfoldable pub planes_level : List ℕ → List Entry → Option ℕ
unfolding or_else ascii
planes_level s es =
    bind (as_level (field s es 0 (ascii "SLxPictureMetadata"))) λ i.
    bind (as_level (field_in s es i (ascii "sPicturePlanes"))) λ j.
    or_else (as_level (field_in s es j (ascii "sPlaneNew"))) (as_level (field_in s es j (ascii "sPlane")))

-- the planes: its child levels
unfoldable pub plane_levels : List ℕ → List Entry → Option ℕ → List ℕ
plane_levels s es none = []
plane_levels s es (some i) = child_levels s es (some (level i))

unfoldable pub plane_records : List ℕ → List Entry → List PlaneRecord
unfolding plane_record plane_levels
plane_records s es = map (plane_record s es) (plane_levels s es (planes_level s es))

-- a row of n records: these, and empty ones behind them
unfoldable pub fitted : ℕ → List Channel → List Channel
fitted n cs = take n (cs ++ replicate n empty_channel)
