-- A register call's number is the first of its refusals in order, and what an accepted one has written. Assumes nothing.
use Prim.Native.Nat.{ℕ, zero, suc, ◌+◌, ◌*◌, ◌^◌, ◌≤◌, ◌<◌}
use mathlib.Core.Path.{◌≡◌, refl, sym, ap, ap₂, ◌∙◌}
use mathlib.Core.Logic.{◌↔◌, ◌⊎◌, inl, inr}
use mathlib.Core.Bool.{Bool, true, false, ◌||◌, true≢false}
use mathlib.Core.Option.{Option, none, some}
use mathlib.Core.List.{List, [], ◌∷◌, ◌++◌, append_assoc, append-nil}
use native.Mathlib.Nat.{add-zero, zero-add}
use native.Mathlib.Omega.{arith}
use lib.Dec.{ltb}
use lib.ListN.{length, drop, length-append}
use lib.Seq.{sets}
use borrow.Author.Tests.{ltb-true, ltb-false}
use Rattle.format.proofs.Ground.Tests.{or_left, or_right}
use Rattle.format.proofs.Ground.Buffers.{part_first, part_behind, over_later, over_length, sets_behind, sets_second}
use Rattle.format.proofs.Ground.Answers.{none≢some, refuse_if_given, and_then_given}
use Rattle.format.proofs.Ground.Orders.{Decides, gives, decides_if, decides_one, decides_then, decides_first, decides_given, nonzero, accepted_iff}
use Rattle.format.proofs.Map.Entries.{map_read, read_map, map_numbered, offset_last}
use Rattle.format.proofs.Files.SummaryTest.{sound_read, unsound}
use Rattle.format.proofs.Frames.Triples.{number_triple}
use Rattle.format.proofs.Frames.Names.{frames_digits}
use Rattle.format.proofs.Map.LookedUp.{frame_entry, entry_frame}
use Rattle.format.specs.Answer.{Answer, refused, given, number_of}
use Rattle.format.specs.Bytes.{le_bytes, part, over, most64, same}
use Rattle.format.specs.Refusals as why
use Rattle.format.specs.Map.{MapEntry, map_entries, offset_of}
use Rattle.format.specs.Summary.{loops_of, bad_summary, map_of}
use Rattle.format.specs.Frames.{frames, index_at, frame_name}
use Rattle.format.specs.Calls.Register.{place_bytes, frame_record, register_from, registered, register_by, register_call}
use Rattle.format.specs.Grammar.Lists.{In, here, behind}
use Rattle.format.specs.Grammar.Map.{MapOf}
use Rattle.format.specs.Refused.Order.{First}
use Rattle.format.specs.Refused.Summary.{Sound}
use Rattle.format.specs.Refused.Register.{RegisterRefusal, summary, map, short, register_order, State, in_map, absent, FrameRecord, Registered}
use Rattle.format.specs.declared.Axis.TheVariants.{T, Z, P}
use Rattle.format.specs.declared.Loop.{Loop}
use Rattle.format.specs.declared.Summary.{Summary}

-- ---- the number

module _ (s : List ℕ) (u : Summary) (buf : List ℕ) where
  abbrev R : ℕ → Type 0
  R = RegisterRefusal s u buf

  abbrev size : ℕ
  size = 24 * frames (loops_of u)

  says_summary : R why.summary → Sound s u → ⊥
  says_summary (summary f) = f

  says_map : R why.map → (es : List MapEntry) → MapOf (map_of s u) es → ⊥
  says_map (map f) = f

  says_short : R why.buffer → (most64 < size) ⊎ (length buf < size)
  says_short (short h) = h

  -- the two ways of being short
  short_by : (a : Bool) → ltb most64 size ≡ a → (b : Bool) → ltb (length buf) size ≡ b → (a || b) ≡ true → R why.buffer
  short_by true p b q e = short (inl (ltb-true most64 size p))
  short_by false p true q e = short (inr (ltb-true (length buf) size q))
  short_by false p false q e = absurd (true≢false (sym e))

  not_short : (ltb most64 size || ltb (length buf) size) ≡ false → (most64 < size) ⊎ (length buf < size) → ⊥
  not_short e (inl h) = let l = ltb-false most64 size (or_left (ltb most64 size) (ltb (length buf) size) e) in omega arith
  not_short e (inr h) = let l = ltb-false (length buf) size (or_right (ltb most64 size) (ltb (length buf) size) e) in omega arith

  register_decides : Decides R register_order (registered s u (length buf))
  unfolding registered
  register_decides =
      decides_if (bad_summary s u) why.summary _ (λ q. summary (unsound s u q)) (λ q p. says_summary p (sound_read s u q)) λ q₁.
      decides_then {ns = why.map ∷ []} (map_entries (map_of s u)) _
      (decides_one why.map _ (map_numbered (map_of s u) (λ m. m ≡ why.map) refl) (λ f. map λ es x. f es (read_map _ es x))
      (λ es q p. says_map p es (map_read _ es q))) λ es e.
      decides_if (ltb most64 size || ltb (length buf) size) why.buffer _ (short_by (ltb most64 size) refl (ltb (length buf) size) refl)
      (λ q p. not_short q (says_short p)) λ q. gives

  by_number : (x : Answer (List MapEntry)) → (register_by s u buf x).number ≡ number_of x
  unfolding register_by number_of
  by_number (refused n) = refl
  by_number (given es) = refl

  -- The register call's number is the first of its refusals in order.
  pub register_number : First R register_order (register_call s u buf).number
  unfolding register_call
  register_number = rw (by_number (registered s u (length buf))) (decides_first register_decides)

  in_order : (k : ℕ) → R k → In k register_order
  in_order k (summary f) = here
  in_order k (map f) = behind here
  in_order k (short f) = behind (behind here)

  -- It is 0 exactly when none of them holds.
  pub register_accepted : ((register_call s u buf).number ≡ 0) ↔ ((k : ℕ) → RegisterRefusal s u buf k → ⊥)
  register_accepted = accepted_iff (nonzero register_order refl) in_order register_number

-- ---- the records

pub place_length : (o : Option ℕ) → length (place_bytes o) ≡ 12
unfolding place_bytes
place_length none = refl
place_length (some o) = refl

module _ (m : List ℕ) (es : List MapEntry) (ls : List Loop) where
  pub record_length : (n : ℕ) → length (frame_record m es ls n) ≡ 24
  unfolding frame_record
  record_length n = rw place_length refl

  pub register_length : (k n : ℕ) → length (register_from k m es ls n) ≡ 24 * k
  unfolding register_from
  register_length zero n = refl
  register_length (suc k) n = rw (length-append, record_length n, register_length k (suc n)) (omega arith)

  register_step : (k n : ℕ) (t : List ℕ) → register_from (suc k) m es ls n ++ t ≡ frame_record m es ls n ++ (register_from k m es ls (suc n) ++ t)
  unfolding register_from
  register_step k n t = append_assoc (frame_record m es ls n) (register_from k m es ls (suc n)) t

  -- the last of k + 1 records
  pub register_last : (k n : ℕ) → register_from (suc k) m es ls n ≡ register_from k m es ls n ++ frame_record m es ls (n + k)
  unfolding register_from
  register_last zero n = rw (append-nil, add-zero) refl
  register_last (suc k) n =
      let e : suc n + k ≡ n + suc k = omega arith in
      ap (λ (l : List ℕ). frame_record m es ls n ++ l) (register_last k (suc n) ∙ rw e refl)
      ∙ sym (append_assoc (frame_record m es ls n) (register_from k m es ls (suc n)) _)

  -- record i of k, whatever stands behind them
  register_part : (k n i : ℕ) (t : List ℕ) → i < k → part (register_from k m es ls n ++ t) (24 * i) 24 ≡ frame_record m es ls (n + i)
  register_part zero n i t h = absurd (omega arith)
  register_part (suc k) n zero t h =
      rw (register_step k n t, add-zero) (part_first (frame_record m es ls n) (register_from k m es ls (suc n) ++ t) 24 (record_length n))
  register_part (suc k) n (suc i) t h =
      let x = frame_record m es ls n in
      let e₁ : 24 * suc i ≡ length x + 24 * i = rw (record_length n) (omega arith) in
      let e₂ : n + suc i ≡ suc n + i = omega arith in
      rw (register_step k n t, e₁, part_behind x (register_from k m es ls (suc n) ++ t) (24 * i) 24, e₂) (register_part k (suc n) i t (omega arith))

-- ---- one entry more

module _ (m : List ℕ) (es : List MapEntry) (ls : List Loop) (e : MapEntry) where
  abbrev bears : ℕ → Bool
  bears n = same (part m e.name_at e.name_len) (frame_name n)

  record_same : (n : ℕ) → bears n ≡ false → frame_record m (es ++ e ∷ []) ls n ≡ frame_record m es ls n
  unfolding frame_record
  record_same n f = let q : offset_of m (frame_name n) (es ++ e ∷ []) ≡ offset_of m (frame_name n) es = offset_last m (frame_name n) es e ∙ rw f refl in
      rw q refl

  record_stored : (n : ℕ) (t : List ℕ) → offset_of m (frame_name n) (es ++ e ∷ []) ≡ some e.offset
      → sets (frame_record m es ls n ++ t) 12 (place_bytes (some e.offset)) ≡ frame_record m (es ++ e ∷ []) ls n ++ t
  unfolding frame_record
  record_stored n t q =
      let head = le_bytes 4 (index_at P n ls) ++ le_bytes 4 (index_at T n ls) ++ le_bytes 4 (index_at Z n ls) in
      sets_second head (place_bytes (offset_of m (frame_name n) es)) t (place_bytes (some e.offset)) 12 refl
      (place_length (some e.offset) ∙ sym (place_length (offset_of m (frame_name n) es)))
      ∙ ap (λ (o : Option ℕ). (head ++ place_bytes o) ++ t) (sym q)

  -- the entry bears no name of k frames from n on
  pub register_same : (k n : ℕ) → ((i : ℕ) → n ≤ i → i < n + k → bears i ≡ false) → register_from k m (es ++ e ∷ []) ls n ≡ register_from k m es ls n
  unfolding register_from
  register_same zero n f = refl
  register_same (suc k) n f = ap₂ ◌++◌ (record_same n (f n (omega arith) (omega arith))) (register_same k (suc n) λ i a b. f i (omega arith) (omega arith))

  -- it bears the name of frame n + j: state and offset of that frame are stored
  pub register_stored : (k n j : ℕ) (t : List ℕ) → j < k → bears (n + j) ≡ true → ((i : ℕ) → n ≤ i → i < n + k → (i ≡ n + j → ⊥) → bears i ≡ false)
      → sets (register_from k m es ls n ++ t) (24 * j + 12) (place_bytes (some e.offset)) ≡ register_from k m (es ++ e ∷ []) ls n ++ t
  register_stored zero n j t h y f = absurd (omega arith)
  register_stored (suc k) n zero t h y f =
      let q : offset_of m (frame_name n) (es ++ e ∷ []) ≡ some e.offset = offset_last m (frame_name n) es e ∙ rw (rw add-zero at y) refl in
      let r = register_same k (suc n) λ i a b. f i (omega arith) (omega arith) λ c. omega arith in
      rw (register_step m es ls k n t, register_step m (es ++ e ∷ []) ls k n t, r) (record_stored n (register_from k m es ls (suc n) ++ t) q)
  register_stored (suc k) n (suc j) t h y f =
      let x = frame_record m es ls n in
      let R = register_from k m es ls (suc n) in
      let q = record_same n (f n (omega arith) (omega arith) λ c. omega arith) in
      let e₁ : 24 * suc j + 12 ≡ length x + (24 * j + 12) = rw (record_length m es ls n) (omega arith) in
      let e₂ : suc n + j ≡ n + suc j = omega arith in
      rw (register_step m es ls k n t, register_step m (es ++ e ∷ []) ls k n t, e₁, q)
      (sets_behind x (R ++ t) (place_bytes (some e.offset)) (24 * j + 12)
      ∙ ap (λ (l : List ℕ). x ++ l) (register_stored k (suc n) j t (omega arith) (rw e₂ y) λ i a b c. f i (omega arith) (omega arith) λ d. c (omega arith)))

-- es are the map's entries
module _ (s : List ℕ) (u : Summary) (g : Sound s u) (es : List MapEntry) (e : map_entries (map_of s u) ≡ given es) where
  -- frame n's record says its triple and what the map has
  frame_record_is : (n : ℕ) → n < frames (loops_of u) → FrameRecord s u n (frame_record (map_of s u) es (loops_of u) n)
  unfolding frame_record place_bytes
  frame_record_is n h = go (offset_of (map_of s u) (frame_name n) es) refl
    where
      ls : List Loop
      ls = loops_of u

      digits : n < 10 ^ 20
      digits = let k = frames_digits s u g in omega arith

      written : (state offset : ℕ) → State s u n state offset
          → FrameRecord s u n (le_bytes 4 (index_at P n ls) ++ le_bytes 4 (index_at T n ls) ++ le_bytes 4 (index_at Z n ls)
          ++ (le_bytes 4 state ++ le_bytes 8 offset))
      written state offset x =
          let (w, q) = number_triple ls n g.loops_counted g.loops_distinct h in
          record {
            scene = index_at P n ls;
            t = index_at T n ls;
            z = index_at Z n ls;
            state = state;
            offset = offset;
            in_range = w;
            number = q;
            state_of = x;
            spelled = simp append_assoc;
          }

      go : (o : Option ℕ) → offset_of (map_of s u) (frame_name n) es ≡ o
          → FrameRecord s u n (le_bytes 4 (index_at P n ls) ++ le_bytes 4 (index_at T n ls) ++ le_bytes 4 (index_at Z n ls) ++ place_bytes o)
      go none q = written 1 0 (absent λ o x. none≢some (sym q ∙ entry_frame s u es e n digits o x))
      go (some o) q = written 0 o (in_map (frame_entry s u es e n digits o q))

module _ (s : List ℕ) (u : Summary) (buf : List ℕ) where
  abbrev all : List MapEntry → List ℕ
  all es = register_from (frames (loops_of u)) (map_of s u) es (loops_of u) 0

  written : (es : List MapEntry) → Sound s u → map_entries (map_of s u) ≡ given es → 24 * frames (loops_of u) ≤ length buf
      → Registered s u buf (over (all es) buf)
  unfolding over
  written es g f room =
      let k = frames (loops_of u) in
      let len : length (all es) ≡ 24 * k = register_length (map_of s u) es (loops_of u) k 0 in
      record {
        frame = λ n h. rw (register_part (map_of s u) es (loops_of u) k 0 n (drop (length (all es)) buf) h, zero-add) (frame_record_is s u g es f n h);
        later = λ i h. over_later (all es) buf i (rw len h);
        length_kept = over_length (all es) buf (rw len room);
      }

  by_entries : (es : List MapEntry) → registered s u (length buf) ≡ given es → Registered s u buf (over (all es) buf)
  unfolding registered
  by_entries es q =
      let k = frames (loops_of u) in
      let (f₁, e₁) = refuse_if_given (bad_summary s u) why.summary _ q in
      let (es', f₂, e₂) = and_then_given (map_entries (map_of s u)) _ e₁ in
      let (f₃, e₃) = refuse_if_given (ltb most64 (24 * k) || ltb (length buf) (24 * k)) why.buffer (given es') e₂ in
      let room = ltb-false (length buf) (24 * k) (or_right (ltb most64 (24 * k)) (ltb (length buf) (24 * k)) f₃) in
      written es (sound_read s u f₁) (f₂ ∙ e₃) room

  -- Where the register call gives 0, it has written the record of every frame, and later bytes are as they were.
  pub register_frames : (register_call s u buf).number ≡ 0 → Registered s u buf (register_call s u buf).buffer
  unfolding register_call register_by
  register_frames e =
      let x = registered s u (length buf) in
      let (es, q) = decides_given (nonzero register_order refl) (register_decides s u buf) (sym (by_number s u buf x) ∙ e) in
      by es q
    where
      by : (es : List MapEntry) → registered s u (length buf) ≡ given es → Registered s u buf (register_by s u buf (registered s u (length buf))).buffer
      by es q = rw q (by_entries es q)

  -- Where it does not, the buffer is as it was.
  pub register_refused : ((register_call s u buf).number ≡ 0 → ⊥) → (register_call s u buf).buffer ≡ buf
  unfolding register_call register_by
  register_refused f = go (registered s u (length buf)) f
    where
      go : (x : Answer (List MapEntry)) → ((register_by s u buf x).number ≡ 0 → ⊥) → (register_by s u buf x).buffer ≡ buf
      go (refused n) f = refl
      go (given es) f = absurd (f refl)
