-- What the number and the records of a channels call promise. Assumes nothing.
use Prim.Native.Nat.{ℕ}
use mathlib.Core.Path.{◌≡◌, refl, sym, ap, ◌∙◌}
use mathlib.Core.List.{List}
use native.Mathlib.Decide.{ℕ_discrete}
use lib.ListN.{length, get_or, replicate, length-replicate}
use Rattle.std.specs.Prelude.{Result, Ok, Err, IfOk, IsOkAnd, MatchResult}
use Rattle.std.specs.Result.{result_unwrap_or}
use Rattle.format.specs.Answer.{Answer, number_of}
use Rattle.format.specs.Bytes.{zeros}
use Rattle.format.specs.Given.{said}
use Rattle.format.specs.Trees.{room_in}
use Rattle.format.specs.Channels.{empty_channel, PlaneRecord, fitted}
use Rattle.format.specs.Calls.Channels.{records_of, row_by, channels_call}
use Rattle.format.specs.Sentences.{Refuses, AcceptedUnless, NameAstray, ChannelsNamed}
use Rattle.format.specs.Refused.Order.{First}
use Rattle.format.specs.Refused.Channels.{ChannelsRefusal, channels_order, RecordAt, Recorded, Emptied}
use Rattle.format.specs.Grammar.Channels.{Empty}
use Rattle.format.specs.declared.Channel.{Channel}
use Rattle.format.specs.declared.refusal.Refusal.{Refusal}
use Rattle.format.specs.declared.Summary.{Summary}
use Rattle.format.proofs.Calls.Channels.{planes_name, channels_number, channels_accepted, channels_refused}
use Rattle.format.proofs.Calls.ChannelRecords.{is_empty, channels_record, channels_records, channels_emptied}
use Rattle.format.proofs.Demands.Misnamed.{astray_empty, channels_named}
use Rattle.channels.specs.Ahead.{ahead, no_planes}
use Rattle.channels.specs.Ready.{Ready}
use Rattle.channels.specs.declared.planes.Planes.{Planes}
use Rattle.channels.proofs.Rows.{blank, none_row}

module _ (s : List ℕ) (u : Summary) (bytes : List ℕ) (n : ℕ) where
  abbrev R : ℕ → Type 0
  R = ChannelsRefusal s u (room_in (length bytes)) n

  -- what a call makes of a row of n records
  abbrev answer : Answer (List PlaneRecord)
  answer = records_of s u (room_in (length bytes)) n

  number_of_is : (cs : List Channel) → length cs ≡ n → number_of answer ≡ (channels_call s u bytes cs).number
  unfolding channels_call
  number_of_is cs e = rw (← e) refl

  row_of : (cs : List Channel) → length cs ≡ n → row_by n u.components answer ≡ (channels_call s u bytes cs).row
  unfolding channels_call
  row_of cs e = rw (← e) refl

  -- ---- the sentences, of the number of a call

  first : First R channels_order (number_of answer)
  unfolding channels_call
  first = rw length-replicate at (channels_number s u bytes (replicate n empty_channel))

  accepted : AcceptedUnless R (number_of answer)
  unfolding channels_call
  accepted = rw length-replicate at (channels_accepted s u bytes (replicate n empty_channel))

  -- record i of the row
  abbrev at_row : ℕ → Channel
  at_row i = get_or (row_by n u.components answer) i empty_channel

  empty : (i : ℕ) → Refuses (number_of answer) → Empty (at_row i)
  unfolding channels_call
  empty i f = rw ((rw length-replicate at (channels_refused s u bytes (replicate n empty_channel))) f, blank n i) is_empty

  recorded : (i : ℕ) → number_of answer ≡ 0 → RecordAt s u i (at_row i)
  unfolding channels_call
  recorded i e = (rw length-replicate at (channels_record s u bytes (replicate n empty_channel))) e i

  astray : (i : ℕ) → NameAstray s u planes_name → Empty (at_row i)
  astray i x = by (ℕ_discrete (number_of answer) 0)
    where
      by : Dec (number_of answer ≡ 0) → Empty (at_row i)
      by (yes e) = astray_empty s u x i (at_row i) (recorded i e)
      by (no f) = empty i f

  -- ---- one record

  abbrev pub Promised : ℕ → Result Channel Refusal → List ℕ → Type 0
  Promised i r out =
      ((cs : List Channel) → length cs ≡ n → said r ≡ (channels_call s u bytes cs).number)
      × ((cs : List Channel) → length cs ≡ n → result_unwrap_or r empty_channel ≡ get_or (channels_call s u bytes cs).row i empty_channel)
      × (out ≡ zeros (length bytes)) × First R channels_order (said r) × AcceptedUnless R (said r)
      × (Refuses (said r) → Empty (result_unwrap_or r empty_channel)) × IfOk r (RecordAt s u i)
      × (NameAstray s u planes_name → Empty (result_unwrap_or r empty_channel))

  on_ok : (i : ℕ) (r : Result Channel Refusal) → (said r ≡ 0 → RecordAt s u i (result_unwrap_or r empty_channel)) → IfOk r (RecordAt s u i)
  on_ok i (Ok c) f = f refl
  on_ok i (Err x) f = tt

  -- record i of the walk p, or a refusal
  one_of : (t : List ℕ) {P : Planes → Channel → Type 0} (i : ℕ) (p : Result Planes Refusal) (r : Result Channel Refusal)
      → MatchResult p (λ w. IsOkAnd r (P w)) (λ x. r ≡ Err x) → ((w : Planes) (c : Channel) → P w c → c ≡ get_or (fitted n (ahead s t w)) i empty_channel)
      → (said r ≡ said p) × (result_unwrap_or r empty_channel ≡ get_or (fitted n (ahead s t (result_unwrap_or p no_planes))) i empty_channel)
  one_of t i (Ok w) (Ok c) m f = (refl, f w c m)
  one_of t i (Ok w) (Err x) m f = absurd m
  one_of t i (Err x) r m f = rw m (refl, none_row s t n i)

  pub one_record : {t : List ℕ} {P : Planes → Channel → Type 0} (i : ℕ) (p : Result Planes Refusal) (r : Result Channel Refusal) {out : List ℕ}
      → Ready s t n u.components answer p → MatchResult p (λ w. IsOkAnd r (P w)) (λ x. r ≡ Err x)
      → ((w : Planes) (c : Channel) → P w c → c ≡ get_or (fitted n (ahead s t w)) i empty_channel) → out ≡ zeros (length bytes) → Promised i r out
  one_record i p r y m f z =
      let (k, e) = one_of _ i p r m f in
      let x : said r ≡ number_of answer = k ∙ y.number in
      let q : result_unwrap_or r empty_channel ≡ at_row i = rw y.row e in (
        λ cs h. x ∙ number_of_is cs h,
        λ cs h. q ∙ ap (λ (l : List Channel). get_or l i empty_channel) (row_of cs h),
        z,
        rw x first,
        rw x accepted,
        λ g. rw q (empty i λ v. g (x ∙ v)),
        on_ok i r λ v. rw q (recorded i (sym x ∙ v)),
        λ v. rw q (astray i v),
      )

-- ---- a whole row

module _ (s : List ℕ) (u : Summary) (bytes : List ℕ) (row : List Channel) where
  abbrev Whole : ℕ → Type 0
  Whole = ChannelsRefusal s u (room_in (length bytes)) (length row)

  -- the call's number, table and row, and the sentences that follow
  abbrev pub Filled : ℕ → List ℕ → List Channel → Type 0
  Filled k ts zs =
      (k ≡ (channels_call s u bytes row).number) × (ts ≡ (channels_call s u bytes row).table)
      × (zs ≡ (channels_call s u bytes row).row) × (ts ≡ zeros (length bytes))
      × First Whole channels_order k × AcceptedUnless Whole k × (Refuses k → Emptied (length row) zs)
      × (k ≡ 0 → Recorded s u (length row) zs) × ChannelsNamed s u (length row) zs

  pub whole_row : {t : List ℕ} {p : Result Planes Refusal} {k : ℕ} {ts : List ℕ} {zs : List Channel}
      → Ready s t (length row) u.components (records_of s u (room_in (length bytes)) (length row)) p
      → k ≡ said p → ts ≡ zeros (length bytes) → zs ≡ fitted (length row) (ahead s t (result_unwrap_or p no_planes)) → Filled k ts zs
  unfolding channels_call
  whole_row r q z e =
      let x = q ∙ r.number in
      let f = e ∙ sym r.row in (
        x,
        z,
        f,
        z,
        rw x (channels_number s u bytes row),
        rw x (channels_accepted s u bytes row),
        λ g. rw f (channels_emptied s u bytes row (λ y. g (x ∙ y))),
        λ y. rw f (channels_records s u bytes row (sym x ∙ y)),
        λ y. rw f (channels_named s u bytes row y),
      )
