-- A channels call's number is the first of its refusals in order, and what a refused one leaves. Assumes nothing.
use Prim.Native.Nat.{ℕ, ◌<◌}
use mathlib.Core.Path.{◌≡◌, refl, sym, ◌∙◌}
use mathlib.Core.Logic.{◌↔◌}
use mathlib.Core.Bool.{Bool, true, false, cond}
use mathlib.Core.List.{List, [], ◌∷◌}
use native.Mathlib.Omega.{arith}
use lib.Dec.{eqb}
use lib.ListN.{length, replicate, length-replicate}
use lib.Seq.{take_all}
use borrow.Author.Tests.{eqb-true, eqb-false}
use Rattle.format.proofs.Ground.Answers.{refused≢given}
use Rattle.format.proofs.Ground.Orders.{Decides, stops, gives, goes, decides_if, decides_less, decides_one, decides_then, decides_first}
use Rattle.format.proofs.Ground.Orders.{nonzero, accepted_iff}
use Rattle.format.proofs.Ground.Stages.{decides_from}
use Rattle.format.proofs.Map.Entries.{map_read, read_map, map_numbered}
use Rattle.format.proofs.Files.SummaryTest.{sound_read, unsound}
use Rattle.format.proofs.Calls.Tree.{named_decides, read_short, says_18}
use Rattle.format.specs.Answer.{Answer, refused, given, number_of}
use Rattle.format.specs.Bytes.{ascii, zeros}
use Rattle.format.specs.Refusals as why
use Rattle.format.specs.Map.{MapEntry, map_entries}
use Rattle.format.specs.Trees.{room_in, named_tree}
use Rattle.format.specs.Channels.{empty_channel, PlaneRecord, fitted}
use Rattle.format.specs.Summary.{bad_summary, map_of}
use Rattle.format.specs.Calls.Channels.{records_by, records_of, row_by, channels_call}
use Rattle.format.specs.Grammar.Lists.{In, here, behind}
use Rattle.format.specs.Grammar.Map.{MapOf}
use Rattle.format.specs.Refused.Order.{First}
use Rattle.format.specs.Refused.Summary.{Sound}
use Rattle.format.specs.Refused.Tree.{TableShort}
use Rattle.format.specs.Refused.Channels.{ChannelsRefusal, summary, map, row, table, channels_order}
use Rattle.format.specs.declared.Entry.{Entry}
use Rattle.format.specs.declared.Channel.{Channel}
use Rattle.format.specs.declared.Summary.{Summary}

-- the name of the chunk that the planes are in
abbrev pub planes_name : List ℕ
planes_name = ascii "ImageMetadataSeqLV|0!"

module _ (s : List ℕ) (u : Summary) (room n : ℕ) where
  abbrev R : ℕ → Type 0
  R = ChannelsRefusal s u room n

  says_summary : R why.summary → Sound s u → ⊥
  says_summary (summary f) = f

  says_map : R why.map → (es : List MapEntry) → MapOf (map_of s u) es → ⊥
  says_map (map f) = f

  says_row : R why.channel_row → n < u.components
  says_row (row h) = h

  says_short : R why.table → TableShort s u planes_name room
  says_short (table t) = t

  in_order : (k : ℕ) → R k → In k channels_order
  in_order k (summary f) = here
  in_order k (map f) = behind here
  in_order k (row h) = behind (behind here)
  in_order k (table t) = behind (behind (behind here))

  -- of the tree's refusals only 18 stops the channels
  records_decide : (es : List MapEntry) → map_entries (map_of s u) ≡ given es
      → Decides R (why.table ∷ []) (records_by s (named_tree s (map_of s u) es room planes_name))
  unfolding records_by
  records_decide es e = go (named_tree s (map_of s u) es room planes_name) refl
    where
      short : R why.table → named_tree s (map_of s u) es room planes_name ≡ refused why.table
      short w = read_short s u planes_name room es e (says_short w)

      go : (x : Answer (List Entry)) → named_tree s (map_of s u) es room planes_name ≡ x → Decides R (why.table ∷ []) (records_by s x)
      go (given ts) q = goes (λ w. refused≢given (sym (short w) ∙ q)) gives
      go (refused k) q = by (eqb k why.table) refl
        where
          by : (b : Bool) → eqb k why.table ≡ b → Decides R {A = List PlaneRecord} (why.table ∷ []) (cond b (refused why.table) (given []))
          by true h =
              let (a, x) = decides_from (named_decides s u planes_name room es e) q in
              stops (table (says_18 s u planes_name room a k x (eqb-true _ _ h)))
          by false h = goes (λ w. let z = sym q ∙ short w in let e₂ : k ≡ why.table = cc in eqb-false _ _ h e₂) gives

  pub channels_decides : Decides R channels_order (records_of s u room n)
  unfolding records_of
  channels_decides =
      decides_if (bad_summary s u) why.summary _ (λ q. summary (unsound s u q)) (λ q w. says_summary w (sound_read s u q)) λ q₁.
      decides_then {ns = why.map ∷ []} (map_entries (map_of s u)) _
      (decides_one why.map _ (map_numbered (map_of s u) (λ m. m ≡ why.map) refl) (λ f. map λ es x. f es (read_map _ es x))
      (λ es q w. says_map w es (map_read _ es q))) λ es e.
      decides_less n u.components why.channel_row _ row says_row (records_decide es e)

module _ (s : List ℕ) (u : Summary) (bytes : List ℕ) (channels : List Channel) where
  -- The channels call's number is the first of its refusals in order.
  pub channels_number : First (ChannelsRefusal s u (room_in (length bytes)) (length channels)) channels_order (channels_call s u bytes channels).number
  unfolding channels_call
  channels_number = decides_first (channels_decides s u (room_in (length bytes)) (length channels))

  -- It is 0 exactly when none of them holds.
  pub channels_accepted : ((channels_call s u bytes channels).number ≡ 0) ↔ ((k : ℕ) → ChannelsRefusal s u (room_in (length bytes)) (length channels) k → ⊥)
  channels_accepted = accepted_iff (nonzero channels_order refl) (in_order s u (room_in (length bytes)) (length channels)) channels_number

  -- Where it is not 0, every record is empty.
  pub channels_refused : ((channels_call s u bytes channels).number ≡ 0 → ⊥) → (channels_call s u bytes channels).row
      ≡ replicate (length channels) empty_channel
  unfolding channels_call row_by fitted number_of
  channels_refused f = go (records_of s u (room_in (length bytes)) (length channels)) f
    where
      go : (x : Answer (List PlaneRecord)) → (number_of x ≡ 0 → ⊥) → row_by (length channels) u.components x ≡ replicate (length channels) empty_channel
      go (refused k) f = take_all (length channels) (replicate (length channels) empty_channel) (rw length-replicate (omega arith))
      go (given cs) f = absurd (f refl)

  -- The table is zero afterwards.
  pub channels_table : (channels_call s u bytes channels).table ≡ zeros (length bytes)
  unfolding channels_call
  channels_table = refl
