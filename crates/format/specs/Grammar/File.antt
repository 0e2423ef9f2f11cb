-- Document 01, The grammar: a file and its summary.
use Rattle.std.specs.Prelude.{ℕ, ◌≤◌, ◌<◌, ◌≡◌, List, [], ◌∷◌, length, Float}
use Rattle.std.proofs.Math.Option.{Option, some}
use Rattle.std.proofs.Math.ListN.{get_elem?}
use Rattle.format.specs.Bytes.{ascii, most64}
use Rattle.format.specs.Chunks.{data_in}
use Rattle.format.specs.declared.Range.{Range}
use Rattle.format.specs.Map.{MapEntry}
use Rattle.format.specs.Values.{level}
use Rattle.format.specs.declared.Attributes.{Attributes}
use Rattle.format.specs.Attributes.{plane_bytes}
use Rattle.format.specs.declared.Calibration.{Calibration}
use Rattle.format.specs.Summary.{loops_of}
use Rattle.format.specs.declared.Entry.{Entry}
use Rattle.format.specs.declared.Axis.TheVariants.{T}
use Rattle.format.specs.declared.Loop.{Loop}
use Rattle.format.specs.declared.Summary.{Summary}
use Rattle.format.specs.Grammar.Map.{Mapped, Named}
use Rattle.format.specs.Grammar.Trees.{Tree}
use Rattle.format.specs.Grammar.Values.{Field}
use Rattle.format.specs.Grammar.Attributes.{AttributesOf}
use Rattle.format.specs.Grammar.Loops.{LoopsOf}
use Rattle.format.specs.Grammar.Calibration.{Steps, Calibrated}

-- u is the summary of a map's data m, attributes a, loops ls and a calibration c, field by field. Of its three places for loops, those that are not used
-- have the axis T and the count 0.
pub record SummaryOf (m : Range) (a : Attributes) (ls : List Loop) (c : Calibration) (u : Summary) : Type 0 where
  pub width : u.width ≡ a.width
  pub stride : u.stride ≡ a.stride
  pub height : u.height ≡ a.height
  pub components : u.components ≡ a.components
  pub bits : u.bits ≡ a.bits
  pub map : u.map ≡ m
  pub depth : u.depth ≡ length ls
  pub loops_used : loops_of u ≡ ls
  pub loops_places : length u.loops ≡ 3
  pub loops_unused : (i : ℕ) → length ls ≤ i → i < 3 → get_elem? u.loops i ≡ some (record { axis = T; count = 0 })
  pub calibration : u.calibration ≡ c.state
  pub x : u.x ≡ c.size
  pub y : u.y ≡ c.size
  pub class : u.class ≡ c.class
  pub z : u.z ≡ c.z

-- A file is joined to the summary u: its map, its attributes and its experiment are formed by their rules, the plane is not too large, and u says just what
-- these and the calibration give.
pub record Joined (s : List ℕ) (u : Summary) : Type 0 where
  pub map_place : Range
  pub map_entries_is : List MapEntry
  pub mapped : Mapped s map_place map_entries_is
  pub attributes_place : Range
  pub attributes_named : Named s (data_in s map_place) map_entries_is (ascii "ImageAttributesLV!") attributes_place
  pub attributes_tree : List Entry
  pub attributes_formed : Tree s attributes_place attributes_tree
  pub attributes : Attributes
  pub attributes_of_is : AttributesOf s attributes_tree attributes
  pub experiment_place : Range
  pub experiment_named : Named s (data_in s map_place) map_entries_is (ascii "ImageMetadataLV!") experiment_place
  pub experiment_tree : List Entry
  pub experiment_formed : Tree s experiment_place experiment_tree
  pub experiment_level : ℕ
  pub experiment_there : Field s experiment_tree 0 (ascii "SLxExperiment") (level experiment_level)
  pub loops : List Loop
  pub loops_of_is : LoopsOf s experiment_tree experiment_level loops
  pub plane_most : plane_bytes attributes ≤ most64
  pub step : Option Float
  pub step_found : Steps s experiment_tree (experiment_level ∷ []) step
  pub size : Calibration
  pub calibrated : Calibrated s (data_in s map_place) map_entries_is step size
  pub summary : SummaryOf map_place attributes loops size u
