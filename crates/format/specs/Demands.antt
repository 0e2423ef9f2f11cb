-- The customer's demands, as far as they speak of what the calls answer, in one place: statements only, of whatever is lent to a call.
use Rattle.std.specs.Prelude.{ℕ, ◌/◌, ◌≤◌, ◌<◌, ◌≡◌, List, length}
use Rattle.format.specs.Bytes.{zeros}
use Rattle.format.specs.Trees.{room_in}
use Rattle.format.specs.Frames.{count_of, seq_index, frames}
use Rattle.format.specs.Summary.{loops_of}
use Rattle.format.specs.Calls.Open.{open_call}
use Rattle.format.specs.Calls.Plane.{plane_call}
use Rattle.format.specs.Calls.Tree.{tree_call}
use Rattle.format.specs.Calls.Channels.{channels_call}
use Rattle.format.specs.Calls.Register.{register_call}
use Rattle.format.specs.Calls.Border.{border_call}
use Rattle.format.specs.Grammar.Trees.{PassedIn}
use Rattle.format.specs.Grammar.Frames.{FrameNumber, AxisCount, FrameCount, FrameName}
use Rattle.format.specs.Grammar.File.{Joined}
use Rattle.format.specs.Grammar.Table.{TreeRead}
use Rattle.format.specs.Refusals as why
use Rattle.format.specs.Refused.Order.{First, FirstAt}
use Rattle.format.specs.Refused.Summary.{Sound, Blank}
use Rattle.format.specs.Refused.Plane.{Within, PlaneRefusal, plane_order}
use Rattle.format.specs.Refused.Tree.{TreeRefusal, tree_order}
use Rattle.format.specs.Refused.Channels.{ChannelsRefusal, channels_order, Recorded, Emptied}
use Rattle.format.specs.Refused.Open.{TooMany, OpenRefusal, open_order}
use Rattle.format.specs.Refused.Border.{BorderRefusal, border_order, BorderFirst}
use Rattle.format.specs.Refused.Register.{RegisterRefusal, register_order, Registered}
use Rattle.format.specs.Sentences.{Refuses, AcceptedUnless, AtSome, OpensExactly, Different, PlaneCopied, TreeEntered}
use Rattle.format.specs.declared.Range.{Range}
use Rattle.format.specs.declared.Axis.{Axis}
use Rattle.format.specs.declared.Loop.{Loop}
use Rattle.format.specs.declared.Channel.{Channel}
use Rattle.format.specs.declared.Summary.{Summary}

-- Demand 1: what every call returns, and what it leaves in all that was lent. A refused one returns the first number that holds in its order; samples and
-- register are then as they were, and table and channel records are zero.
pub record FirstDemand : Type 0 where
  pub open_table : (file table : List ℕ) → (open_call file table).table ≡ zeros (length table)
  pub open_refused : (file table : List ℕ) → Refuses (open_call file table).number → Blank (open_call file table).summary
  pub open_number : (file table : List ℕ) → FirstAt (OpenRefusal file (room_in (length table))) open_order (open_call file table).number
  pub open_number_only : (file : List ℕ) (room n m : ℕ) → FirstAt (OpenRefusal file room) open_order n → FirstAt (OpenRefusal file room) open_order m → n ≡ m
  -- 18 is the number only where more records of a tree that opening reads pass than the table has entries
  pub open_table_full : (file table : List ℕ) → (open_call file table).number ≡ why.table
      → (name : List ℕ) × TreeRead name × TooMany file name (room_in (length table))
  pub plane_number : (file : List ℕ) (u : Summary) (scene t c z : ℕ) (samples : List ℕ)
      → FirstAt (PlaneRefusal file u scene t c z samples) plane_order (plane_call file u scene t c z samples).number
  pub plane_number_only : (file : List ℕ) (u : Summary) (scene t c z : ℕ) (samples : List ℕ) (n m : ℕ)
      → FirstAt (PlaneRefusal file u scene t c z samples) plane_order n → FirstAt (PlaneRefusal file u scene t c z samples) plane_order m → n ≡ m
  pub plane_refused : (file : List ℕ) (u : Summary) (scene t c z : ℕ) (samples : List ℕ)
      → Refuses (plane_call file u scene t c z samples).number → (plane_call file u scene t c z samples).buffer ≡ samples
  pub tree_number : (file : List ℕ) (u : Summary) (name table : List ℕ)
      → FirstAt (TreeRefusal file u name (room_in (length table))) tree_order (tree_call file u name table).number
  pub tree_number_only : (file : List ℕ) (u : Summary) (name : List ℕ) (room n m : ℕ)
      → FirstAt (TreeRefusal file u name room) tree_order n → FirstAt (TreeRefusal file u name room) tree_order m → n ≡ m
  pub tree_refused : (file : List ℕ) (u : Summary) (name table : List ℕ)
      → Refuses (tree_call file u name table).number → (tree_call file u name table).buffer ≡ zeros (length table)
  -- the table of an accepted tree has an entry for each record, in their order, and zeros behind these
  pub tree_table : (file : List ℕ) (u : Summary) (name table : List ℕ) → (tree_call file u name table).number ≡ 0
      → TreeEntered file u name (length table) (tree_call file u name table).buffer
  pub channels_number : (file : List ℕ) (u : Summary) (table : List ℕ) (row : List Channel)
      → First (ChannelsRefusal file u (room_in (length table)) (length row)) channels_order (channels_call file u table row).number
  pub channels_table : (file : List ℕ) (u : Summary) (table : List ℕ) (row : List Channel) → (channels_call file u table row).table ≡ zeros (length table)
  pub channels_refused : (file : List ℕ) (u : Summary) (table : List ℕ) (row : List Channel)
      → Refuses (channels_call file u table row).number → Emptied (length row) (channels_call file u table row).row
  -- each component has the record of the plane that covers it, or an empty one, and no other row is what the rules say
  pub channels_records : (file : List ℕ) (u : Summary) (table : List ℕ) (row : List Channel)
      → (channels_call file u table row).number ≡ 0 → Recorded file u (length row) (channels_call file u table row).row
  pub channels_once : (file : List ℕ) (u : Summary) (n : ℕ) (out out' : List Channel) → Recorded file u n out → Recorded file u n out' → out ≡ out'
  pub register_number : (file : List ℕ) (u : Summary) (buf : List ℕ) → First (RegisterRefusal file u buf) register_order (register_call file u buf).number
  pub register_refused : (file : List ℕ) (u : Summary) (buf : List ℕ) → Refuses (register_call file u buf).number → (register_call file u buf).buffer ≡ buf
  -- the register's records, and no more and no fewer of them than there are frames
  pub register_frames : (file : List ℕ) (u : Summary) (buf : List ℕ)
      → (register_call file u buf).number ≡ 0 → Registered file u buf (register_call file u buf).buffer
  pub border_number : (file table : List ℕ) (scene t c z : ℕ) (samples : List ℕ)
      → BorderFirst file table scene t c z samples (border_call file table scene t c z samples).number
  pub border_number_only : (file : List ℕ) (room scene t c z : ℕ) (samples : List ℕ) (n m : ℕ)
      → FirstAt (BorderRefusal file room scene t c z samples) border_order n
      → FirstAt (BorderRefusal file room scene t c z samples) border_order m → n ≡ m
  pub border_table : (file table : List ℕ) (scene t c z : ℕ) (samples : List ℕ) → (border_call file table scene t c z samples).table ≡ zeros (length table)
  pub border_refused : (file table : List ℕ) (scene t c z : ℕ) (samples : List ℕ)
      → Refuses (border_call file table scene t c z samples).number → (border_call file table scene t c z samples).samples ≡ samples

-- Demand 3, sentence by sentence.
pub record ThirdDemand : Type 0 where
  -- an accepted plane leaves in the buffer, row by row and byte for byte, the samples of component c from the chunk of the frame that the point's number names:
  -- for any summary
  pub plane_sample : (file : List ℕ) (u : Summary) (scene t c z : ℕ) (samples : List ℕ) → (plane_call file u scene t c z samples).number ≡ 0
      → PlaneCopied file u scene t c z samples (plane_call file u scene t c z samples).buffer
  -- different points in range have different frame numbers: for any summary that 20 does not refuse
  pub frames_different : (file : List ℕ) (u : Summary) → Sound file u → Different (loops_of u)
  -- the frame number, the count of an axis and the count of frames that these sentences speak of are those of the rules
  pub number_is : (ls : List Loop) (scene t z : ℕ) → FrameNumber ls scene t z (seq_index ls scene t z)
  pub axis_count_is : (a : Axis) (ls : List Loop) → AxisCount a ls (count_of a ls)
  pub frame_count_is : (ls : List Loop) → FrameCount ls (frames ls)
  -- different n have chunks of different names, and the n of a triple in range is one of the register's
  pub names_different : (n m : ℕ) (name : List ℕ) → FrameName n name → FrameName m name → n ≡ m
  pub number_below : (file : List ℕ) (u : Summary) (scene t z : ℕ) → Sound file u → Within (loops_of u) scene t z
      → seq_index (loops_of u) scene t z < frames (loops_of u)
  -- a plane is accepted where no refusal of its call holds, and only there: for any summary
  pub plane_accepted : (file : List ℕ) (u : Summary) (scene t c z : ℕ) (samples : List ℕ)
      → AcceptedUnless (AtSome (PlaneRefusal file u scene t c z samples)) (plane_call file u scene t c z samples).number
  -- and of these 20 never holds of a summary that an opening returned
  pub opened_sound : (file table : List ℕ) → (open_call file table).number ≡ 0 → Sound file (open_call file table).summary
  -- a file opens where the grammar, which knows of no reader, joins it to a summary and the lent table is enough, and only there
  pub opens_exactly : (file table : List ℕ) → OpensExactly file (room_in (length table)) (open_call file table).number
  -- a file is joined to one summary at most
  pub joined_unique : (file : List ℕ) (u v : Summary) → Joined file u → Joined file v → u ≡ v
  -- an accepted opening returns that one
  pub returns_theirs : (file table : List ℕ) → (open_call file table).number ≡ 0 → Joined file (open_call file table).summary
  -- no more records of a tree pass than half its bytes, so that a table with an entry for every two of them is always enough (document 01, Trees)
  pub half_suffices : (file : List ℕ) (r : Range) (n : ℕ) → PassedIn file r n → n ≤ r.len / 2
