-- The channels call: its refusals in their order, and what it leaves in the row.
use Rattle.std.specs.Prelude.{ℕ, ◌<◌, ◌≤◌, ◌≡◌, List, [], ◌∷◌, length}
use Rattle.std.proofs.Math.Option.{some}
use Rattle.std.proofs.Math.ListN.{get_elem?}
use Rattle.format.specs.Bytes.{ascii}
use Rattle.format.specs.Map.{MapEntry}
use Rattle.format.specs.Summary.{map_of}
use Rattle.format.specs.Grammar.Map.{MapOf}
use Rattle.format.specs.Grammar.Trees.{Tree}
use Rattle.format.specs.Grammar.Channels.{Empty, Record, FallsTo, Planes}
use Rattle.format.specs.Refused.Summary.{Sound}
use Rattle.format.specs.Refused.Tree.{NameData, TableShort}
use Rattle.format.specs.Refusals as why
use Rattle.format.specs.declared.Range.{Range}
use Rattle.format.specs.declared.Entry.{Entry}
use Rattle.format.specs.declared.Channel.{Channel}
use Rattle.format.specs.declared.Summary.{Summary}

-- when each refusal of the channels holds; the table has `room` whole entries, and the row n records
pub data ChannelsRefusal (s : List ℕ) (u : Summary) (room n : ℕ) : ℕ → Type 0 where
  summary : (Sound s u → ⊥) → ChannelsRefusal s u room n why.summary
  map : ((es : List MapEntry) → MapOf (map_of s u) es → ⊥) → ChannelsRefusal s u room n why.map
  row : n < u.components → ChannelsRefusal s u room n why.channel_row
  table : TableShort s u (ascii "ImageMetadataSeqLV|0!") room → ChannelsRefusal s u room n why.table

abbrev pub channels_order : List ℕ
channels_order = why.summary ∷ why.map ∷ why.channel_row ∷ why.table ∷ []

-- `is` are the planes of the summary's file, in a tree of the entries es
pub record PlanesIn (s : List ℕ) (u : Summary) (es : List Entry) (is : List ℕ) : Type 0 where
  pub place : Range
  pub chunk : NameData s u (ascii "ImageMetadataSeqLV|0!") place
  pub tree : Tree s place es
  pub planes : Planes s es is

-- the chunk is missing, or it or its tree is at fault
abbrev pub NoTree : List ℕ → Summary → Type 0
NoTree s u = (r : Range) (es : List Entry) → NameData s u (ascii "ImageMetadataSeqLV|0!") r → Tree s r es → ⊥

-- Record k of a row: where there is a component k, that of the plane to which it falls. An empty one where it falls to no plane, without a tree, and behind the
-- components.
pub data RecordAt (s : List ℕ) (u : Summary) (k : ℕ) (c : Channel) : Type 0 where
  of_plane : {es : List Entry} {is : List ℕ} {i : ℕ} → PlanesIn s u es is → k < u.components → FallsTo s es is k i → Record s es i c → RecordAt s u k c
  of_none : {es : List Entry} {is : List ℕ} → PlanesIn s u es is → ((i : ℕ) → FallsTo s es is k i → ⊥) → Empty c → RecordAt s u k c
  unstated : NoTree s u → Empty c → RecordAt s u k c
  surplus : u.components ≤ k → Empty c → RecordAt s u k c

-- `out` is what an accepted call leaves in a row of n records
pub record Recorded (s : List ℕ) (u : Summary) (n : ℕ) (out : List Channel) : Type 0 where
  pub each : (i : ℕ) (c : Channel) → get_elem? out i ≡ some c → RecordAt s u i c
  pub length_kept : length out ≡ n

-- what a refused one leaves: empty records
pub record Emptied (n : ℕ) (out : List Channel) : Type 0 where
  pub each : (i : ℕ) (c : Channel) → get_elem? out i ≡ some c → Empty c
  pub length_kept : length out ≡ n
