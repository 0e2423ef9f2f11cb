-- Document 01, The grammar: the channel records that a tree states, as rules. i is the number of the entry of a plane's level.
use Rattle.std.specs.Prelude.{ℕ, suc, ◌+◌, ◌*◌, ◌^◌, ◌≤◌, ◌<◌, ◌≡◌, List, [], ◌∷◌, ◌++◌}
use Rattle.format.specs.Bytes.{ascii}
use Rattle.format.specs.Values.{text, level}
use Rattle.format.specs.Grammar.Values.{Field, LevelsIn}
use Rattle.format.specs.Grammar.Numbers.{Unsigned}
use Rattle.format.specs.declared.Entry.{Entry}
use Rattle.format.specs.declared.Channel.{Channel}

-- an empty record: all seven numbers are 0
pub record Empty (c : Channel) : Type 0 where
  pub not_named : c.named ≡ 0
  pub no_place : c.name ≡ 0
  pub no_units : c.units ≡ 0
  pub not_colored : c.colored ≡ 0
  pub no_red : c.red ≡ 0
  pub no_green : c.green ≡ 0
  pub no_blue : c.blue ≡ 0

-- v is four bytes, the lowest first: red, green, blue, and one that is in no record
pub record ColorBytes (v red green blue : ℕ) : Type 0 where
  pub top : ℕ
  pub sum : v ≡ red + 256 * green + 65536 * blue + 16777216 * top
  pub red_byte : red < 256
  pub green_byte : green < 256
  pub blue_byte : blue < 256
  pub top_byte : top < 256

module _ (s : List ℕ) (es : List Entry) where
  -- ---- one record

  -- the name: sDescription, where it is a text of one unit or more, its place and units; else three zeros
  pub data Described (i : ℕ) : ℕ → ℕ → ℕ → Type 0 where
    name : {place units : ℕ} → Field s es (suc i) (ascii "sDescription") (text place units) → 0 < units → Described i 1 place units
    no_name : ((place units : ℕ) → Field s es (suc i) (ascii "sDescription") (text place units) → 0 < units → ⊥) → Described i 0 0 0

  -- the colour: uiColor, where it reads as a number of four bytes; else four zeros
  pub data Colored (i : ℕ) : ℕ → ℕ → ℕ → ℕ → Type 0 where
    color : {v red green blue : ℕ} → Unsigned s es i (ascii "uiColor") v → v < 2 ^ 32 → ColorBytes v red green blue → Colored i 1 red green blue
    no_color : ((v : ℕ) → Unsigned s es i (ascii "uiColor") v → v < 2 ^ 32 → ⊥) → Colored i 0 0 0 0

  -- the record of the plane i
  pub record Record (i : ℕ) (c : Channel) : Type 0 where
    pub described : Described i c.named c.name c.units
    pub colors : Colored i c.colored c.red c.green c.blue

  -- ---- the components that it covers

  -- how many: what its uiCompCount reads as; 1 where it reads as 0, or as no number
  pub data Covers (i : ℕ) : ℕ → Type 0 where
    many : {n : ℕ} → Unsigned s es i (ascii "uiCompCount") n → 0 < n → Covers i n
    zero : Unsigned s es i (ascii "uiCompCount") 0 → Covers i 1
    unsaid : ((n : ℕ) → Unsigned s es i (ascii "uiCompCount") n → ⊥) → Covers i 1

  -- how many these planes cover together
  pub data Together : List ℕ → ℕ → Type 0 where
    none : Together [] 0
    more : {i n m : ℕ} {is : List ℕ} → Covers i n → Together is m → Together (i ∷ is) (n + m)

  -- Component k, counted from 0, falls to the plane i of these: the planes before it cover no more than k components, and with its own they are more than k.
  pub record FallsTo (is : List ℕ) (k i : ℕ) : Type 0 where
    pub before : List ℕ
    pub after : List ℕ
    pub in_order : is ≡ before ++ (i ∷ after)
    pub passed : ℕ
    pub passed_by : Together before passed
    pub own : ℕ
    pub own_by : Covers i own
    pub not_before : passed ≤ k
    pub not_after : k < passed + own

  -- ---- the planes

  -- the level j is sPicturePlanes in SLxPictureMetadata
  pub record PicturePlanes (j : ℕ) : Type 0 where
    pub metadata : ℕ
    pub metadata_there : Field s es 0 (ascii "SLxPictureMetadata") (level metadata)
    pub planes_there : Field s es (suc metadata) (ascii "sPicturePlanes") (level j)

  -- The entry of the level whose children are the planes: sPlaneNew, an empty one too, or sPlane where sPlaneNew is no level.
  pub data PlanesAt : ℕ → Type 0 where
    new : {i j : ℕ} → PicturePlanes j → Field s es (suc j) (ascii "sPlaneNew") (level i) → PlanesAt i
    old : {i j : ℕ} → PicturePlanes j → ((k : ℕ) → Field s es (suc j) (ascii "sPlaneNew") (level k) → ⊥) → Field s es (suc j) (ascii "sPlane") (level i)
        → PlanesAt i

  -- the planes: the children of that level that are levels, in order, and none without such a level
  pub data Planes : List ℕ → Type 0 where
    planes : {i : ℕ} {is : List ℕ} → PlanesAt i → LevelsIn s es (level i) is → Planes is
    no_planes_is : ((i : ℕ) → PlanesAt i → ⊥) → Planes []
