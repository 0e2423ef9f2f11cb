-- The refusals of a register, test by test, what is left where none holds, and what the call's number and buffer promise. Assumes nothing.
use Prim.Native.Nat.{ℕ, ◌*◌, ◌^◌, ◌≤◌, ◌<◌}
use mathlib.Core.Path.{◌≡◌, refl, sym, ap, ◌∙◌}
use mathlib.Core.Bool.{Bool, true, false, ◌||◌}
use mathlib.Core.List.{List, []}
use native.Mathlib.Omega.{arith}
use lib.Dec.{ltb}
use lib.ListN.{length}
use borrow.Author.Tests.{ltb-false, lt-ltb, le-ltb}
use Rattle.format.specs.Answer.{Answer, given, refused, refuse_if, and_then, number_of}
use Rattle.format.specs.Bytes.{most64, over}
use Rattle.format.specs.Refusals as why
use Rattle.format.specs.Map.{MapEntry, map_entries}
use Rattle.format.specs.Frames.{frames}
use Rattle.format.specs.Summary.{loops_of, map_of, bad_summary}
use Rattle.format.specs.Calls.Register.{register_from, registered, register_by, register_call}
use Rattle.format.specs.Sentences.{Refuses, AcceptedUnless}
use Rattle.format.specs.Refused.Order.{First}
use Rattle.format.specs.Refused.Summary.{Sound}
use Rattle.format.specs.Refused.Register.{RegisterRefusal, register_order, Registered}
use Rattle.format.specs.Given.{number}
use Rattle.format.specs.declared.refusal.Refusal.{Refusal}
use Rattle.format.specs.declared.Summary.{Summary}
use Rattle.format.proofs.Ground.Answers.{Numbered, NotZero, refusal}
use Rattle.format.proofs.Map.Entries.{map_numbered}
use Rattle.format.proofs.Calls.Register.{register_number, register_accepted, register_frames, register_refused}
use Rattle.format.proofs.Files.SummaryTest.{sound_read}
use Rattle.format.proofs.Ground.Tests.{or_none, or_right}
use Rattle.register.specs.Taking.{Taken}

or_second : (a b : Bool) → b ≡ true → (a || b) ≡ true
or_second true b e = refl
or_second false b e = e

-- no refusal has the number 0
number_some : (e : Refusal) → number e ≡ 0 → ⊥
number_some e h = grind arith

-- ---- the refusals

-- the summary and the map are good, and the buffer has room for the records
pub record Ready (s : List ℕ) (u : Summary) (room : ℕ) : Type 0 where
  pub sound : Sound s u
  pub entries : List MapEntry
  pub map : map_entries (map_of s u) ≡ given entries
  pub enough : 24 * frames (loops_of u) ≤ room
  pub all : registered s u room ≡ given entries

module _ (s : List ℕ) (u : Summary) (room : ℕ) where
  abbrev size : ℕ
  size = 24 * frames (loops_of u)

  -- what is left after the summary and the map
  abbrev room_for : List MapEntry → Answer (List MapEntry)
  room_for es = refuse_if (ltb most64 size || ltb room size) why.buffer (given es)

  pub bad_summary_is : bad_summary s u ≡ true → why.summary ≡ number_of (registered s u room)
  unfolding registered refuse_if number_of
  bad_summary_is q = rw q refl

  module _ (q : bad_summary s u ≡ false) where
    after : number_of (and_then (map_entries (map_of s u)) room_for) ≡ number_of (registered s u room)
    unfolding registered refuse_if
    after = rw q refl

    pub bad_map : (e : Refusal) → number e ≡ number_of (map_entries (map_of s u)) → number e ≡ number_of (registered s u room)
    unfolding and_then number_of
    bad_map e p = by (map_entries (map_of s u)) p ∙ after
      where
        by : (a : Answer (List MapEntry)) → number e ≡ number_of a → number e ≡ number_of (and_then a room_for)
        by (refused k) p = p
        by (given es) p = absurd (number_some e p)

    module _ (z : 0 ≡ number_of (map_entries (map_of s u))) where
      read : (P : Answer (List MapEntry) → Type 0) → ((es : List MapEntry) → P (given es)) → P (map_entries (map_of s u))
      unfolding number_of
      read P f = by (map_entries (map_of s u)) (map_numbered (map_of s u) NotZero (omega arith)) z
        where
          by : (a : Answer (List MapEntry)) → Numbered NotZero a → 0 ≡ number_of a → P a
          by (refused k) (refusal h) p = absurd (omega arith)
          by (given es) h p = f es

      pub short : room < size → why.buffer ≡ number_of (registered s u room)
      unfolding and_then number_of refuse_if
      short h =
          read (λ a. why.buffer ≡ number_of (and_then a room_for)) (λ es. rw (or_second (ltb most64 size) (ltb room size) (lt-ltb room size h)) refl) ∙ after

      pub long : size ≤ room → room < 2 ^ 64 → 0 ≡ number_of (registered s u room)
      unfolding and_then number_of refuse_if
      long h l =
          read (λ a. 0 ≡ number_of (and_then a room_for))
          (λ es. rw (or_none (ltb most64 size) (ltb room size) (le-ltb most64 size (omega arith)) (le-ltb room size h)) refl) ∙ after

  -- none holds
  pub ready : number_of (registered s u room) ≡ 0 → Ready s u room
  unfolding registered refuse_if and_then number_of
  ready e = by (bad_summary s u) refl e
    where
      by_room : (es : List MapEntry) → bad_summary s u ≡ false → map_entries (map_of s u) ≡ given es → (b : Bool) → (ltb most64 size || ltb room size) ≡ b
          → number_of (refuse_if b why.buffer (given es)) ≡ 0 → Ready s u room
      by_room es q p true t e = absurd (omega arith)
      by_room es q p false t e =
          record {
            sound = sound_read s u q;
            entries = es;
            map = p;
            enough = ltb-false _ _ (or_right (ltb most64 size) (ltb room size) t);
            all = rw (q, p, t) refl;
          }

      by_map : bad_summary s u ≡ false → (a : Answer (List MapEntry)) → map_entries (map_of s u) ≡ a → Numbered NotZero a → number_of (and_then a room_for) ≡ 0
          → Ready s u room
      by_map q (refused k) p (refusal h) e = absurd (omega arith)
      by_map q (given es) p h e = by_room es q p (ltb most64 size || ltb room size) refl e

      by : (b : Bool) → bad_summary s u ≡ b → number_of (refuse_if b why.summary (and_then (map_entries (map_of s u)) room_for)) ≡ 0 → Ready s u room
      by true q e = absurd (omega arith)
      by false q e = by_map q (map_entries (map_of s u)) refl (map_numbered (map_of s u) NotZero (omega arith)) e

-- ---- what the call promises

module _ (s : List ℕ) (u : Summary) (buf : List ℕ) where
  abbrev R : ℕ → Type 0
  R = RegisterRefusal s u buf

  -- the call's number and buffer, and the sentences that follow
  pub record Promised (n : ℕ) (out : List ℕ) : Type 0 where
    pub number : n ≡ (register_call s u buf).number
    pub buffer : out ≡ (register_call s u buf).buffer
    pub first : First R register_order n
    pub accepted : AcceptedUnless R n
    pub registered : n ≡ 0 → Registered s u buf out
    pub untouched : Refuses n → out ≡ buf

  promised : {n : ℕ} {out : List ℕ} → n ≡ (register_call s u buf).number → out ≡ (register_call s u buf).buffer → Promised n out
  promised e f =
      record {
        number = e;
        buffer = f;
        first = rw e (register_number s u buf);
        accepted = rw e (register_accepted s u buf);
        registered = λ q. rw f (register_frames s u buf (sym e ∙ q));
        untouched = λ g. f ∙ register_refused s u buf (λ q. g (e ∙ q));
      }

  pub refused_register : (e : Refusal) → number e ≡ number_of (registered s u (length buf)) → Promised (number e) buf
  unfolding register_call register_by number_of
  refused_register e p =
      let (q, r) = by (registered s u (length buf)) p in promised q r
    where
      by : (a : Answer (List MapEntry)) → number e ≡ number_of a → (number e ≡ (register_by s u buf a).number) × (buf ≡ (register_by s u buf a).buffer)
      by (refused k) p = (p, refl)
      by (given es) p = absurd (number_some e p)

  made : (g : Ready s u (length buf)) {out : List ℕ} → out ≡ over (register_from (frames (loops_of u)) (map_of s u) g.entries (loops_of u) 0) buf
      → Promised 0 out
  unfolding register_call register_by
  made g e = let q = g.all in promised (rw q refl) (e ∙ rw q refl)

  -- the records of absent frames, and then the map's entries
  pub made_register : Ready s u (length buf) → {count : ℕ} {m mid out : List ℕ} → count ≡ frames (loops_of u) → m ≡ map_of s u
      → ((m : List ℕ) → mid ≡ over (register_from count m [] (loops_of u) 0) buf)
      → ((es : List MapEntry) → map_entries m ≡ given es → Taken m count [] es mid out)
      → Promised 0 out
  made_register g {m = m} ec em f h = made g ((h g.entries (ap map_entries em ∙ g.map)).taken (loops_of u) buf (f m) ∙ rw (ec, em) refl)
