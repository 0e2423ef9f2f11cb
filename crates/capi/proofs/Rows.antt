-- A row of channel records in lent bytes: what the call makes of it. Assumes nothing.
use Prim.Native.Nat.{ℕ, zero, suc, ◌+◌, ◌*◌, ◌/◌, ◌%◌}
use mathlib.Core.Path.{◌≡◌, refl, sym, ap, ◌∙◌}
use mathlib.Core.List.{List, ◌++◌}
use native.Mathlib.Omega.{arith}
use lib.ListN.{length, replicate, length-append, length-replicate, replicate-append-replicate}
use lib.Seq.{drop-append_seam}
use Rattle.format.proofs.Ground.Bytes.{le_bytes_length}
use Rattle.format.proofs.Calls.Channels.{channels_accepted, channels_refused}
use Rattle.format.proofs.Calls.ChannelRecords.{channels_records}
use Rattle.format.proofs.Demands.FirstAndThird.{first}
use Rattle.format.specs.Bytes.{le_bytes, over, zeros, each}
use Rattle.format.specs.Trees.{room_in}
use Rattle.format.specs.Channels.{empty_channel, fitted}
use Rattle.format.specs.Calls.Channels.{records_of, channels_call}
use Rattle.format.specs.Sentences.{Refuses, AcceptedUnless}
use Rattle.format.specs.Refused.Order.{First}
use Rattle.format.specs.Refused.Channels.{ChannelsRefusal, channels_order}
use Rattle.format.specs.declared.Channel.{Channel}
use Rattle.format.specs.declared.Summary.{Summary}
use Rattle.std.specs.Prelude.{Result}
use Rattle.std.specs.Result.{result_unwrap_or}
use Rattle.format.specs.Given.{said}
use Rattle.format.specs.declared.refusal.Refusal.{Refusal}
use Rattle.channels.specs.Ahead.{ahead, no_planes}
use Rattle.channels.specs.Ready.{Ready}
use Rattle.channels.specs.declared.planes.Planes.{Planes}
use Rattle.layout.specs.Layout.{channel_bytes, channel_row_bytes}
use Rattle.capi.specs.RowBytes.{RowRecorded}
use Rattle.capi.specs.OnBytes.{channel_row}

pub channel_length : (c : Channel) → length (channel_bytes c) ≡ 56
unfolding channel_bytes
channel_length c = simp (length-append, le_bytes_length)

-- ---- the call

-- The row that was cleared has the records of the prepared call.
pub row_call : (file table t : List ℕ) (u : Summary) (n count : ℕ) (p : Result Planes Refusal) (row b : List ℕ) → count ≡ n / 56
    → Ready file t count u.components (records_of file u (room_in (length table)) count) p → b ≡ zeros n
    → row ≡ over (channel_row_bytes (fitted count (ahead file t (result_unwrap_or p no_planes)))) b
    → (said p ≡ (channel_row file u table n).number) × (row ≡ (channel_row file u table n).buffer)
unfolding channel_row channels_call
row_call file table t u n count p row b q r z e =
    let l = length-replicate (n / 56) empty_channel in
    (rw (l, ← q) r.number, rw (l, ← q, r.row) (e ∙ ap (over (channel_row_bytes (fitted count (ahead file t (result_unwrap_or p no_planes))))) z))

-- the refusals of the call, of as many records as fit in n bytes
module _ (file table : List ℕ) (u : Summary) (n : ℕ) where
  abbrev R : ℕ → Type 0
  R = ChannelsRefusal file u (room_in (length table)) (n / 56)

  pub row_first : First R channels_order (channel_row file u table n).number
  unfolding channel_row
  row_first = rw length-replicate at (first.channels_number file u table (replicate (n / 56) empty_channel))

  pub row_accepted : AcceptedUnless R (channel_row file u table n).number
  unfolding channel_row
  row_accepted = rw length-replicate at (channels_accepted file u table (replicate (n / 56) empty_channel))

-- ---- records of zeros

zeros_join : (a b : ℕ) → zeros a ++ zeros b ≡ zeros (a + b)
unfolding zeros
zeros_join a b = replicate-append-replicate a b 0

empty_bytes : channel_bytes empty_channel ≡ zeros 56
unfolding channel_bytes le_bytes empty_channel zeros
empty_bytes = refl

empty_row : (n : ℕ) → channel_row_bytes (replicate n empty_channel) ≡ zeros (56 * n)
unfolding each
empty_row zero = unfold zeros in refl
empty_row (suc n) =
    let e : 56 + 56 * n ≡ 56 * suc n = omega arith in
    rw (empty_bytes, empty_row n) (zeros_join 56 (56 * n) ∙ ap zeros e)

over_zeros : (a b : ℕ) → over (zeros a) (zeros (a + b)) ≡ zeros (a + b)
unfolding over
over_zeros a b = rw (← zeros_join a b, drop-append_seam)

-- A refused call leaves zeros.
pub row_refused : (file table : List ℕ) (u : Summary) (n : ℕ) → Refuses (channel_row file u table n).number → (channel_row file u table n).buffer ≡ zeros n
unfolding channel_row
row_refused file table u n r =
    let e : 56 * (n / 56) + n % 56 ≡ n = omega arith in
    let o = over_zeros (56 * (n / 56)) (n % 56) in
    rw (channels_refused file u table (replicate (n / 56) empty_channel) r, length-replicate, empty_row) (rw e at o)

-- ---- the records that the rules say

-- An accepted call leaves their bytes.
pub row_recorded : (file table : List ℕ) (u : Summary) (n : ℕ) {k : ℕ} {out : List ℕ} → k ≡ (channel_row file u table n).number
    → out ≡ (channel_row file u table n).buffer → k ≡ 0 → RowRecorded file u n out
unfolding channel_row
row_recorded file table u n e f z =
    let row = replicate (n / 56) empty_channel in
    let x = rw length-replicate at (channels_records file u table row (sym e ∙ z)) in
    record { records = (channels_call file u table row).row; recorded = x; laid = f }
