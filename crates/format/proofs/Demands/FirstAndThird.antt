-- The first and the third demand hold of the definitions. Assumes nothing.
use Prim.Native.Nat.{ℕ}
use mathlib.Core.Path.{◌≡◌, refl}
use mathlib.Core.List.{List}
use native.Mathlib.Omega.{arith}
use lib.ListN.{length}
use Rattle.format.specs.Answer.{Answer, given, refused, number_of}
use Rattle.format.specs.Trees.{room_in}
use Rattle.format.specs.Summary.{loops_of, zero_summary}
use Rattle.format.specs.Calls.Open.{opened, open_call, summary_or_zero}
use Rattle.format.specs.Calls.Border.{border_call, plane_after}
use Rattle.format.specs.Grammar.File.{Joined}
use Rattle.format.specs.Grammar.Table.{Enough}
use Rattle.format.specs.Refused.Summary.{Blank}
use Rattle.format.specs.Sentences.{Refuses, OpensExactly}
use Rattle.format.specs.Demands.{FirstDemand, ThirdDemand}
use Rattle.format.specs.declared.Summary.{Summary}
use Rattle.format.proofs.Ground.Answers.{Numbered, NotZero, refusal}
use Rattle.format.proofs.Files.Joined.{joined_unique, opened_iff_joined}
use Rattle.format.proofs.Calls.Open.{open_number, open_number_only, open_table_full}
use Rattle.format.proofs.Calls.Border.{border_number, border_number_only}
use Rattle.format.proofs.Calls.OpenNotZero.{opened_some}
use Rattle.format.proofs.Files.SoundSummary.{joined_sound}
use Rattle.format.proofs.Frames.Places.{seq_different}
use Rattle.format.proofs.Frames.Names.{frame_number_unique}
use Rattle.format.proofs.Frames.Triples.{seq_below}
use Rattle.format.proofs.Frames.Counts.{frame_number, axis_count, frame_count}
use Rattle.format.proofs.Ground.Stages.{first_once}
use Rattle.format.proofs.Calls.Plane.{plane_sample, plane_refused, plane_number, plane_number_only, plane_accepted}
use Rattle.format.proofs.Calls.Tree.{tree_table, tree_refused, tree_number, tree_stage_once}
use Rattle.format.proofs.Calls.Channels.{channels_table, channels_number}
use Rattle.format.proofs.Calls.ChannelRecords.{channels_emptied, channels_records, recorded_once}
use Rattle.format.proofs.Calls.Register.{register_frames, register_refused, register_number}
use Rattle.format.proofs.Trees.MostEntries.{suffices}
use Rattle.format.proofs.Trees.ByRules.{read_passed}

-- ---- opening

zero_blank : Blank zero_summary
unfolding zero_summary
zero_blank =
    record {
      loops = refl;
      depth = refl;
      width = refl;
      stride = refl;
      height = refl;
      components = refl;
      bits = refl;
      map_start = refl;
      map_len = refl;
      uncalibrated = record { calibration = refl; x = refl; y = refl; class = refl; z = refl };
    }

module _ (file : List ℕ) (room : ℕ) where
  -- a number of 0 comes with a summary
  pub opened_given : number_of (opened file room) ≡ 0 → opened file room ≡ given (summary_or_zero (opened file room))
  unfolding number_of summary_or_zero
  opened_given e = go (opened file room) (opened_some file room) e
    where
      go : (x : Answer Summary) → Numbered NotZero x → number_of x ≡ 0 → x ≡ given (summary_or_zero x)
      go (refused n) (refusal h) e = absurd (omega arith)
      go (given u) h e = refl

  refused_blank : Refuses (number_of (opened file room)) → Blank (summary_or_zero (opened file room))
  unfolding number_of summary_or_zero
  refused_blank f = go (opened file room) f
    where
      go : (x : Answer Summary) → Refuses (number_of x) → Blank (summary_or_zero x)
      go (refused n) f = zero_blank
      go (given u) f = absurd (f refl)

  theirs : number_of (opened file room) ≡ 0 → Joined file (summary_or_zero (opened file room)) × Enough file room
  theirs e = (opened_iff_joined file room (summary_or_zero (opened file room))).0 (opened_given e)

  exactly : OpensExactly file room (number_of (opened file room))
  unfolding number_of
  exactly = (λ e. let (j, f) = theirs e in (summary_or_zero (opened file room), j, f), back)
    where
      back : ((u : Summary) × Joined file u × Enough file room) → number_of (opened file room) ≡ 0
      back (u, j, f) = rw ((opened_iff_joined file room u).1 (j, f)) refl

-- ---- the border

border_kept : (file : List ℕ) (scene t c z : ℕ) (samples : List ℕ) (x : Answer Summary)
    → Refuses (plane_after file scene t c z samples x).number → (plane_after file scene t c z samples x).buffer ≡ samples
unfolding plane_after
border_kept file scene t c z samples (refused n) f = refl
border_kept file scene t c z samples (given u) f = plane_refused file u scene t c z samples f

pub first : FirstDemand
unfolding open_call border_call
first = record {
  open_table = λ file table. refl;
  open_refused = λ file table. refused_blank file (room_in (length table));
  open_number = open_number;
  open_number_only = open_number_only;
  open_table_full = open_table_full;
  plane_number = plane_number;
  plane_number_only = plane_number_only;
  plane_refused = plane_refused;
  tree_number = tree_number;
  tree_number_only = λ file u name room n m x y. first_once (tree_stage_once file u name room) x y;
  tree_refused = tree_refused;
  tree_table = tree_table;
  channels_number = channels_number;
  channels_table = channels_table;
  channels_refused = channels_emptied;
  channels_records = channels_records;
  channels_once = recorded_once;
  register_number = register_number;
  register_refused = register_refused;
  register_frames = register_frames;
  border_number = border_number;
  border_number_only = border_number_only;
  border_table = λ file table scene t c z samples. refl;
  border_refused = λ file table scene t c z samples. border_kept file scene t c z samples (opened file (room_in (length table)));
}

pub third : ThirdDemand
unfolding open_call
third = record {
  plane_sample = plane_sample;
  frames_different = λ file u g scene t z scene' t' z' w w' q. seq_different (loops_of u) scene t z scene' t' z' g.loops_distinct w w' q;
  number_is = frame_number;
  axis_count_is = axis_count;
  frame_count_is = frame_count;
  names_different = λ n m name x y. frame_number_unique x y;
  number_below = λ file u scene t z g w. seq_below (loops_of u) scene t z g.loops_distinct w;
  plane_accepted = plane_accepted;
  opened_sound = λ file table e. joined_sound file (summary_or_zero (opened file (room_in (length table)))) (theirs file (room_in (length table)) e).0;
  opens_exactly = λ file table. exactly file (room_in (length table));
  joined_unique = joined_unique;
  returns_theirs = λ file table e. (theirs file (room_in (length table)) e).0;
  half_suffices = λ file r n x. let a = read_passed file r n x in let b = suffices file r in omega arith;
}
