-- A plane call's number is what its first stage that refuses gives, and what an accepted one has written. Assumes nothing.
use Prim.Native.Nat.{ℕ, zero, suc, ◌+◌, ◌-◌, ◌*◌, ◌/◌, ◌%◌, ◌^◌, ◌≤◌, ◌<◌}
use mathlib.Core.Path.{◌≡◌, refl, sym, ◌∙◌}
use mathlib.Core.Bool.{false, ◌||◌, true≢false}
use mathlib.Core.Option.{some}
use mathlib.Core.List.{List, [], ◌∷◌, ◌++◌, map as each}
use native.Mathlib.Nat.{suc-mul, mul-le-mul_right, div-lt_iff_lt-mul, mod-lt, mul-add-div_right, mul-add-mod_self_right, mod-eq_of_lt, div-eq_of_lt}
use native.Mathlib.Nat.{add-zero, zero-mul}
use native.Mathlib.Omega.{arith}
use lib.Dec.{ltb, leb, lit<}
use lib.ListN.{length, get_or, length-append, get_or-append}
use lib.Seq.{get_or-append-add}
use borrow.Author.Tests.{ltb-true, ltb-false, le-ltb, leb-false, lt-leb}
use Rattle.format.proofs.Ground.Tests.{or_left, or_right, or_none}
use Rattle.format.proofs.Ground.Bytes.{part_length, part_at}
use Rattle.format.proofs.Ground.Buffers.{over_at, over_later, over_length}
use Rattle.format.proofs.Ground.Answers.{refuse_if_given, and_then_given, or_refuse_given, given_inj, none≢some}
use Rattle.format.proofs.Ground.Stages.{DecidesAt, gives, goes, tests, needs, stage_one, decides_then, decides_map}
use Rattle.format.proofs.Ground.Stages.{decides_first, decides_given, accepted_at, first_once}
use Rattle.format.proofs.Ground.Lists.{in_left, in_right, in_map}
use Rattle.format.proofs.Map.Chunks.{chunk_read, chunk_decides, chunk_staged}
use Rattle.format.proofs.Map.Entries.{map_read, read_map, map_numbered}
use Rattle.format.proofs.Files.SummaryTest.{sound_read, unsound as unsound-read}
use Rattle.format.proofs.Frames.Names.{seq_digits}
use Rattle.format.proofs.Map.LookedUp.{frame_entry, entry_frame, frame_chunk, frame_refused as refused-frame}
use Rattle.format.specs.Answer.{Answer, refused, given, refuse_if, and_then, or_refuse, number_of}
use Rattle.format.specs.Bytes.{part, most64, over}
use Rattle.format.specs.Refusals as why
use Rattle.format.specs.Chunks.{chunk_data, data_in}
use Rattle.format.specs.Map.{MapEntry, map_entries, offset_of}
use Rattle.format.specs.Attributes.{sample_bytes, plane_bytes}
use Rattle.format.specs.Summary.{shape_of, loops_of, bad_summary, map_of}
use Rattle.format.specs.Frames.{count_of, seq_index, frame_name, sample_place}
use Rattle.format.specs.Calls.Plane.{samples, bad_index, bad_frame, frame_of, frame_for, plane_samples, plane_by, plane_call}
use Rattle.format.specs.Calls.Plane.{most_plane_bytes as most}
use Rattle.format.specs.Grammar.Lists.{In, here, behind}
use Rattle.format.specs.Grammar.Attributes.{Shape}
use Rattle.format.specs.Grammar.Map.{MapOf}
use Rattle.format.specs.Refused.Order.{FirstAt}
use Rattle.format.specs.Refused.Summary.{Sound}
use Rattle.format.specs.Refused.Plane.{Within, FrameEntry, FrameData, FrameLong, Copied}
use Rattle.format.specs.Refused.Chunk.{ChunkStage, chunk_order, ChunkRefusal, no_head, misnamed, no_data}
use Rattle.format.specs.Refused.Plane.{FrameStage, summary, index, ceiling, map, entry, chunk, rows, frame_order}
use Rattle.format.specs.Refused.Plane.{FrameRefusal, unsound, out_of_range, too_large, no_map, no_frame_is, no_chunk, frame_short_is}
use Rattle.format.specs.Refused.Plane.{PlaneStage, frame, buffer, plane_order, PlaneRefusal, frame_refused, buffer_short}
use Rattle.format.specs.Sentences.{AcceptedUnless, AtSome}
use Rattle.format.specs.declared.Range.{Range}
use Rattle.format.specs.declared.Attributes.{Attributes}
use Rattle.format.specs.declared.Axis.TheVariants.{T, Z, P}
use Rattle.format.specs.declared.Summary.{Summary}

-- ---- 21 and 24

pub index_read : (u : Summary) (scene t c z : ℕ) → bad_index u scene t c z ≡ false → Within (loops_of u) scene t z × (c < u.components)
unfolding bad_index
index_read u scene t c z e =
    let ls = loops_of u in
    let t₁ = leb (count_of P ls) scene in
    let t₂ = leb (count_of T ls) t in
    let t₃ = leb u.components c in
    let t₄ = leb (count_of Z ls) z in
    let e₃ = or_left (t₁ || t₂ || t₃) t₄ e in
    let e₂ = or_left (t₁ || t₂) t₃ e₃ in (
      record {
        scene_below = leb-false _ _ (or_left t₁ t₂ e₂);
        t_below = leb-false _ _ (or_right t₁ t₂ e₂);
        z_below = leb-false _ _ (or_right (t₁ || t₂ || t₃) t₄ e);
      },
      leb-false _ _ (or_right (t₁ || t₂) t₃ e₃),
    )

pub read_index : (u : Summary) (scene t c z : ℕ) → Within (loops_of u) scene t z → c < u.components → bad_index u scene t c z ≡ false
unfolding bad_index
read_index u scene t c z w h =
    or_none _ _ (or_none _ _ (or_none _ _ (lt-leb _ _ w.scene_below) (lt-leb _ _ w.t_below)) (lt-leb _ _ h)) (lt-leb _ _ w.z_below)

long_read : (u : Summary) (r : Range) → bad_frame u r.len ≡ false → FrameLong u r
unfolding bad_frame
long_read u r e =
    let t₁ = ltb r.len 8 in
    let t₂ = ltb most64 (u.stride * u.height) in
    let t₃ = ltb (r.len - 8) (u.stride * u.height) in
    let e₂ = or_left (t₁ || t₂) t₃ e in
    record {
      prefix = ltb-false _ _ (or_left t₁ t₂ e₂);
      product = ltb-false _ _ (or_right t₁ t₂ e₂);
      rows = ltb-false _ _ (or_right (t₁ || t₂) t₃ e);
    }

read_long : (u : Summary) (r : Range) → FrameLong u r → bad_frame u r.len ≡ false
unfolding bad_frame
read_long u r l = or_none _ _ (or_none _ _ (le-ltb _ _ l.prefix) (le-ltb _ _ l.product)) (le-ltb _ _ l.rows)

-- ---- the number

module _ (s : List ℕ) (u : Summary) (scene t c z : ℕ) where
  abbrev F : FrameStage → ℕ → Type 0
  F = FrameRefusal s u scene t c z

  -- no number refuses at this stage
  abbrev Passes : FrameStage → Type 0
  Passes a = (n : ℕ) → F a n → ⊥

  abbrev seq : ℕ
  seq = seq_index (loops_of u) scene t z

  summary_passes : Sound s u → Passes summary
  summary_passes g n (unsound f) = f g

  index_passes : Within (loops_of u) scene t z → c < u.components → Passes index
  index_passes w h n (out_of_range f) = f w h

  ceiling_passes : plane_bytes (shape_of u) ≤ most → Passes ceiling
  ceiling_passes h n (too_large l) = omega arith

  map_passes : (es : List MapEntry) → MapOf (map_of s u) es → Passes map
  map_passes es x n (no_map f) = f es x

  entry_passes : (o : ℕ) → FrameEntry s u seq o → Passes entry
  entry_passes o x n (no_frame_is f) = f o x

  -- where the map has the frame's entry at o: its chunk, and the chunk's length
  module _ (es : List MapEntry) (e : map_entries (map_of s u) ≡ given es) (l : seq < 10 ^ 20)
      (o : ℕ) (q : offset_of (map_of s u) (frame_name seq) es ≡ some o) where
    says_chunk : (a : ChunkStage) (n : ℕ) → F (chunk a) n → ChunkRefusal (frame_name seq) s o a n
    says_chunk a n (no_chunk {o = k} x r) = refused-frame s u es e seq l o q k n a x r

    rows_passes : (r : Range) → chunk_data why.chunk_name (frame_name seq) s o ≡ given r → FrameLong u r → Passes rows
    rows_passes r f h n (frame_short_is {r = k} x g) = g (rw (given_inj (sym f ∙ frame_chunk s u es e seq l o k q x)) at h)

    chunk_found : DecidesAt F (each chunk chunk_order ++ rows ∷ [])
        (and_then (chunk_data why.chunk_name (frame_name seq) s o) λ r. refuse_if (bad_frame u r.len) why.frame_short (given r))
    unfolding frame_entry
    chunk_found =
        let x = frame_entry s u es e seq l o q in
        decides_then {front = each chunk chunk_order} (chunk_data why.chunk_name (frame_name seq) s o) _
        (decides_map chunk (λ a n. no_chunk x) says_chunk (chunk_decides (frame_name seq) s o)) λ r f.
        let y : FrameData s u seq r = record { offset = o; entry = x; chunk = chunk_read why.chunk_name (frame_name seq) s o r f } in
        tests (bad_frame u r.len) why.frame_short _ (λ b. frame_short_is y λ h. true≢false (sym b ∙ read_long u r h)) λ b.
        goes (rows_passes r f (long_read u r b)) gives

  entry_decides : (es : List MapEntry) → map_entries (map_of s u) ≡ given es → seq < 10 ^ 20
      → DecidesAt F (entry ∷ each chunk chunk_order ++ rows ∷ [])
      (and_then (or_refuse (offset_of (map_of s u) (frame_name seq) es) why.no_frame) λ o.
      and_then (chunk_data why.chunk_name (frame_name seq) s o) λ r. refuse_if (bad_frame u r.len) why.frame_short (given r))
  entry_decides es e l =
      needs (offset_of (map_of s u) (frame_name seq) es) _ _ (λ q. no_frame_is λ o x. none≢some (sym q ∙ entry_frame s u es e seq l o x)) λ o q.
      goes (entry_passes o (frame_entry s u es e seq l o q)) (chunk_found es e l o q)

  pub frame_decides : DecidesAt F frame_order (frame_of s u scene t c z)
  unfolding frame_of
  frame_decides =
      tests (bad_summary s u) why.summary _ (λ q. unsound (unsound-read s u q)) λ q₁.
      goes (summary_passes (sound_read s u q₁))
      (tests (bad_index u scene t c z) why.index _ (λ q. out_of_range λ w h. true≢false (sym q ∙ read_index u scene t c z w h)) λ q₂.
      let (w, h) = index_read u scene t c z q₂ in
      goes (index_passes w h)
      (tests (ltb most (plane_bytes (shape_of u))) why.ceiling _ (λ q. too_large (ltb-true _ _ q)) λ q₃.
      goes (ceiling_passes (ltb-false _ _ q₃))
      (decides_then {front = map ∷ []} (map_entries (map_of s u)) _
      (stage_one why.map _ (map_numbered (map_of s u) (λ m. m ≡ why.map) refl) (λ f. no_map λ es x. f es (read_map _ es x))
      (λ es q. map_passes es (map_read _ es q))) λ es e.
      entry_decides es e (seq_digits s u scene t z (sound_read s u q₁) w))))

  -- every refusal is of a stage in the order, and has a number
  pub frame_staged : (a : FrameStage) (n : ℕ) → F a n → In a frame_order × (0 < n)
  frame_staged a n (unsound f) = (here, lit< tt)
  frame_staged a n (out_of_range f) = (behind here, lit< tt)
  frame_staged a n (too_large h) = (behind (behind here), lit< tt)
  frame_staged a n (no_map f) = (behind (behind (behind here)), lit< tt)
  frame_staged a n (no_frame_is f) = (behind (behind (behind (behind here))), lit< tt)
  frame_staged a n (no_chunk {o = o} {a = b} x r) =
      let (i, h) = chunk_staged x.name s o b n r in
      (behind (behind (behind (behind (behind (in_left (rows ∷ []) (in_map chunk i)))))), h)
  frame_staged a n (frame_short_is x f) = (behind (behind (behind (behind (behind (in_right (each chunk chunk_order) here))))), lit< tt)

  -- each stage has one number
  pub frame_stage_once : (a : FrameStage) (n m : ℕ) → F a n → F a m → n ≡ m
  frame_stage_once a n m (unsound f) (unsound g) = refl
  frame_stage_once a n m (out_of_range f) (out_of_range g) = refl
  frame_stage_once a n m (too_large h) (too_large k) = refl
  frame_stage_once a n m (no_map f) (no_map g) = refl
  frame_stage_once a n m (no_frame_is f) (no_frame_is g) = refl
  frame_stage_once a n m (no_chunk x (no_head f)) (no_chunk y (no_head g)) = refl
  frame_stage_once a n m (no_chunk x (misnamed h)) (no_chunk y (misnamed k)) = refl
  frame_stage_once a n m (no_chunk x (no_data h f)) (no_chunk y (no_data k g)) = refl
  frame_stage_once a n m (frame_short_is x f) (frame_short_is y g) = refl

module _ (s : List ℕ) (u : Summary) (scene t c z : ℕ) (buf : List ℕ) where
  abbrev R : PlaneStage → ℕ → Type 0
  R = PlaneRefusal s u scene t c z buf

  says_frame : (a : FrameStage) (n : ℕ) → R (frame a) n → FrameRefusal s u scene t c z a n
  says_frame a n (frame_refused f) = f

  buffer_passes : plane_bytes (shape_of u) ≤ length buf → (n : ℕ) → R buffer n → ⊥
  buffer_passes h n (buffer_short l) = omega arith

  plane_decides : DecidesAt R plane_order (frame_for s u scene t c z (length buf))
  unfolding frame_for
  plane_decides =
      decides_then {front = each frame frame_order} (frame_of s u scene t c z) _
      (decides_map frame (λ a n. frame_refused) says_frame (frame_decides s u scene t c z)) λ r e.
      tests (ltb (length buf) (plane_bytes (shape_of u))) why.buffer _ (λ q. buffer_short (ltb-true _ _ q)) λ q.
      goes (buffer_passes (ltb-false _ _ q)) gives

  pub by_number : (x : Answer Range) → (plane_by s u c buf x).number ≡ number_of x
  unfolding plane_by number_of
  by_number (refused n) = refl
  by_number (given r) = refl

  -- The plane call's number is what its first stage that refuses gives.
  pub plane_number : FirstAt R plane_order (plane_call s u scene t c z buf).number
  unfolding plane_call
  plane_number = rw (by_number (frame_for s u scene t c z (length buf))) (decides_first plane_decides)

  pub plane_stage_once : (a : PlaneStage) (n m : ℕ) → R a n → R a m → n ≡ m
  plane_stage_once a n m (frame_refused {a = b} f) (frame_refused g) = frame_stage_once s u scene t c z b n m f g
  plane_stage_once a n m (buffer_short h) (buffer_short k) = refl

  -- No other number is.
  pub plane_number_only : (n m : ℕ) → FirstAt R plane_order n → FirstAt R plane_order m → n ≡ m
  plane_number_only n m x y = first_once plane_stage_once x y

  staged : (a : PlaneStage) (n : ℕ) → R a n → In a plane_order × (0 < n)
  staged a n (frame_refused {a = b} f) = let (i, h) = frame_staged s u scene t c z b n f in (in_left (buffer ∷ []) (in_map frame i), h)
  staged a n (buffer_short h) = (in_right (each frame frame_order) here, lit< tt)

  -- It is 0 exactly when no stage refuses.
  pub plane_accepted : AcceptedUnless (AtSome R) (plane_call s u scene t c z buf).number
  plane_accepted = accepted_at staged plane_number

-- ---- the samples

module _ (s : List ℕ) (a : Attributes) (start c : ℕ) where
  abbrev size : ℕ
  size = sample_bytes a.bits

  abbrev place : ℕ → ℕ
  place j = sample_place a start c (j / a.width) (j % a.width)

  -- n samples from sample j on are whole
  Whole : ℕ → ℕ → Type 0
  Whole n j = (i : ℕ) → i < n → place (j + i) + size ≤ length s

  whole_first : (n j : ℕ) → Whole (suc n) j → place j + size ≤ length s
  unfolding Whole
  whole_first n j h = rw add-zero at (h 0 (omega arith))

  whole_rest : (n j : ℕ) → Whole (suc n) j → Whole n (suc j)
  unfolding Whole
  whole_rest n j h i l = let e : suc j + i ≡ j + suc i = omega arith in rw e (h (suc i) (omega arith))

  samples_length : (n j : ℕ) → Whole n j → length (samples n s a start c j) ≡ n * size
  unfolding samples
  samples_length zero j h = sym (zero-mul size)
  samples_length (suc n) j h =
      let e₁ = part_length s (place j) size (whole_first n j h) in
      let e₂ = samples_length n (suc j) (whole_rest n j h) in
      rw (length-append, e₁, e₂) (omega arith)

  samples_at : (n j i k : ℕ) → Whole n j → i < n → k < size → get_or (samples n s a start c j) (i * size + k) 0 ≡ get_or s (place (j + i) + k) 0
  unfolding samples
  samples_at zero j i k h l m = absurd (omega arith)
  samples_at (suc n) j zero k h l m =
      let e : 0 * size + k ≡ k = omega arith in
      let e₁ = part_length s (place j) size (whole_first n j h) in
      let l : k < length (part s (place j) size) = rw e₁ m in
      rw (e, get_or-append (part s (place j) size) (samples n s a start c (suc j)) 0 k l, add-zero) (part_at s (place j) size k m)
  samples_at (suc n) j (suc i) k h l m =
      let x = part s (place j) size in
      let e₁ : length x ≡ size = part_length s (place j) size (whole_first n j h) in
      let e : suc i * size + k ≡ length x + (i * size + k) = rw e₁ (omega arith) in
      let e₂ : suc j + i ≡ j + suc i = omega arith in
      rw (e, get_or-append-add x (samples n s a start c (suc j)) (i * size + k) 0, ← e₂) (samples_at n (suc j) i k (whole_rest n j h) (omega arith) m)

-- a sample of the frame lies in its data
sample_within : (a : Attributes) (len c y x : ℕ) → Shape a → 8 ≤ len → a.stride * a.height ≤ len - 8 → c < a.components → y < a.height → x < a.width
    → sample_place a 0 c y x + sample_bytes a.bits ≤ len
sample_within a len c y x g h₂ h₃ hc hy hx =
    let size = sample_bytes a.bits in
    let k₁ : suc y * a.stride ≤ a.height * a.stride = mul-le-mul_right a.stride hy in
    let k₂ : suc x * a.components ≤ a.width * a.components = mul-le-mul_right a.components hx in
    let k₃ : suc (x * a.components + c) ≤ a.width * a.components = omega arith in
    let k₄ : suc (x * a.components + c) * size ≤ a.width * a.components * size = mul-le-mul_right size k₃ in
    let k₅ : a.width * a.components * size ≤ a.stride = g.row_fits in
    let k₆ : (x * a.components + c) * size + size ≤ a.width * a.components * size = rw suc-mul at k₄ in
    omega arith

-- what a frame that is given has
pub record Found (s : List ℕ) (u : Summary) (scene t c z : ℕ) (r : Range) : Type 0 where
  pub sound : Sound s u
  pub in_range : Within (loops_of u) scene t z
  pub component : c < u.components
  pub ceiling_kept : plane_bytes (shape_of u) ≤ most
  pub frame_data : FrameData s u (seq_index (loops_of u) scene t z) r
  pub frame_long : FrameLong u r

module _ (s : List ℕ) (u : Summary) (scene t c z : ℕ) (r : Range) where
  pub frame_found : frame_of s u scene t c z ≡ given r → Found s u scene t c z r
  unfolding frame_of frame_entry
  frame_found e₀ =
      let n = seq_index (loops_of u) scene t z in
      let (f₂, e₃) = refuse_if_given (bad_summary s u) why.summary _ e₀ in
      let (f₃, e₄) = refuse_if_given (bad_index u scene t c z) why.index _ e₃ in
      let (f₄, e₅) = refuse_if_given (ltb most (plane_bytes (shape_of u))) why.ceiling _ e₄ in
      let (es, f₅, e₆) = and_then_given (map_entries (map_of s u)) _ e₅ in
      let (o, f₆, e₇) = and_then_given (or_refuse (offset_of (map_of s u) (frame_name n) es) why.no_frame) _ e₆ in
      let (q, f₇, e₈) = and_then_given (chunk_data why.chunk_name (frame_name n) s o) _ e₇ in
      let (f₈, e₉) = refuse_if_given (bad_frame u q.len) why.frame_short (given q) e₈ in
      let j : q ≡ r = given_inj e₉ in
      let g = sound_read s u f₂ in
      let (w, h) = index_read u scene t c z f₃ in
      record {
        sound = g;
        in_range = w;
        component = h;
        ceiling_kept = ltb-false _ _ f₄;
        frame_data = record {
          offset = o;
          entry = frame_entry s u es f₅ n (seq_digits s u scene t z g w) o (or_refuse_given _ why.no_frame f₆);
          chunk = chunk_read why.chunk_name (frame_name n) s o r (rw j at f₇);
        };
        frame_long = rw j at (long_read u q f₈);
      }

  module _ (f : Found s u scene t c z r) where
    some_width : 0 < u.width
    some_width = f.sound.shape.width_some

    in_data : (y x : ℕ) → y < u.height → x < u.width → sample_place (shape_of u) 0 c y x + sample_bytes u.bits ≤ r.len
    in_data y x hy hx = sample_within (shape_of u) r.len c y x f.sound.shape f.frame_long.prefix f.frame_long.rows f.component hy hx

    in_file : r.start + r.len ≤ length s
    in_file = let k = f.frame_data.chunk in omega (arith, k.data_within, k.data_start, k.data_len)

    whole : (i : ℕ) → i < u.width * u.height
        → sample_place (shape_of u) r.start c ((0 + i) / u.width) ((0 + i) % u.width) + sample_bytes u.bits ≤ length s
    whole i h =
        let h₂ : 0 + i < u.height * u.width = omega arith in
        let k = in_data ((0 + i) / u.width) ((0 + i) % u.width) ((div-lt_iff_lt-mul some_width).1 h₂) (mod-lt (0 + i) some_width) in
        omega (arith, in_file)

    -- all of its samples are there
    pub plane_length : length (plane_samples s u c r) ≡ plane_bytes (shape_of u)
    unfolding plane_samples Whole
    plane_length = samples_length s (shape_of u) r.start c (u.width * u.height) 0 whole

    plane_at_is : (y x k : ℕ) → y < u.height → x < u.width → k < sample_bytes u.bits
        → get_or (plane_samples s u c r) ((y * u.width + x) * sample_bytes u.bits + k) 0
        ≡ get_or (data_in s r) (8 + y * u.stride + (x * u.components + c) * sample_bytes u.bits + k) 0
    unfolding plane_samples Whole
    plane_at_is y x k hy hx hk =
        let a = shape_of u in
        let i = y * u.width + x in
        let size = sample_bytes u.bits in
        let k₁ : suc y * u.width ≤ u.height * u.width = mul-le-mul_right u.width hy in
        let below : i < u.width * u.height = omega arith in
        let e₀ : 0 + i ≡ i = omega arith in
        let e₁ : i / u.width ≡ y = mul-add-div_right some_width y x ∙ rw (div-eq_of_lt hx) (add-zero y) in
        let e₂ : i % u.width ≡ x = mul-add-mod_self_right y u.width x ∙ mod-eq_of_lt hx in
        let j = 8 + y * u.stride + (x * u.components + c) * size + k in
        let k₄ = in_data y x hy hx in
        let k₅ : j < r.len = omega arith in
        let e₃ : r.start + j ≡ sample_place a r.start c y x + k = omega arith in
        let e₄ : get_or s (sample_place a r.start c ((0 + i) / u.width) ((0 + i) % u.width) + k) 0 ≡ get_or s (r.start + j) 0 = rw (e₀, e₁, e₂, ← e₃) refl in
        samples_at s a r.start c (u.width * u.height) 0 i k whole below hk ∙ (e₄ ∙ sym (part_at s r.start r.len j k₅))

    -- and a buffer that has room for them gets them
    pub samples_copied : (buf : List ℕ) → plane_bytes (shape_of u) ≤ length buf → Copied u c (data_in s r) buf (over (plane_samples s u c r) buf)
    samples_copied buf room =
        record {
          sample = λ y x k hy hx hk.
              let k₁ : suc y * u.width ≤ u.height * u.width = mul-le-mul_right u.width hy in
              let below : y * u.width + x < u.width * u.height = omega arith in
              let k₂ : suc (y * u.width + x) * sample_bytes u.bits ≤ plane_bytes (shape_of u) = mul-le-mul_right (sample_bytes u.bits) below in
              over_at (plane_samples s u c r) buf _ (rw plane_length (omega arith)) ∙ plane_at_is y x k hy hx hk;
          later = λ i h. over_later (plane_samples s u c r) buf i (rw plane_length h);
          length_kept = over_length (plane_samples s u c r) buf (rw plane_length room);
        }

-- what an accepted call has found
pub record Ready (s : List ℕ) (u : Summary) (scene t c z : ℕ) (buf : List ℕ) (r : Range) : Type 0 where
  pub frame_found : Found s u scene t c z r
  pub room : plane_bytes (shape_of u) ≤ length buf

module _ (s : List ℕ) (u : Summary) (scene t c z : ℕ) (buf : List ℕ) where
  pub ready : (r : Range) → frame_for s u scene t c z (length buf) ≡ given r → Ready s u scene t c z buf r
  unfolding frame_for
  ready r e =
      let (r', e₀, e₁) = and_then_given (frame_of s u scene t c z) _ e in
      let (f₁, e₂) = refuse_if_given (ltb (length buf) (plane_bytes (shape_of u))) why.buffer (given r') e₁ in
      let k : r' ≡ r = given_inj e₂ in
      record { frame_found = frame_found s u scene t c z r (rw k at e₀); room = ltb-false _ _ f₁ }

  plane_given : (plane_call s u scene t c z buf).number ≡ 0 → (r : Range) × (frame_for s u scene t c z (length buf) ≡ given r)
  unfolding plane_call plane_by
  plane_given e =
      let x = frame_for s u scene t c z (length buf) in
      decides_given (λ a n w. (staged s u scene t c z buf a n w).1) (plane_decides s u scene t c z buf) (sym (by_number s u scene t c z buf x) ∙ e)

  pub plane_found : (plane_call s u scene t c z buf).number ≡ 0 → (r : Range) × Found s u scene t c z r
  plane_found e = let (r, q) = plane_given e in (r, (ready r q).frame_found)

  -- Where the plane call gives 0, every sample's bytes are those of its frame's chunk, and later bytes are as they were.
  pub plane_sample : (plane_call s u scene t c z buf).number ≡ 0
      → (r : Range) × FrameData s u (seq_index (loops_of u) scene t z) r × Copied u c (data_in s r) buf (plane_call s u scene t c z buf).buffer
  unfolding plane_call plane_by
  plane_sample e = let (r, q) = plane_given e in by r q
    where
      by : (r : Range) → frame_for s u scene t c z (length buf) ≡ given r
          → (r : Range) × FrameData s u (seq_index (loops_of u) scene t z) r
          × Copied u c (data_in s r) buf (plane_by s u c buf (frame_for s u scene t c z (length buf))).buffer
      by r q =
          let f = ready r q in
          (r, f.frame_found.frame_data, rw q (samples_copied s u scene t c z r f.frame_found buf f.room))

  -- Where it does not, the buffer is as it was.
  pub plane_refused : ((plane_call s u scene t c z buf).number ≡ 0 → ⊥) → (plane_call s u scene t c z buf).buffer ≡ buf
  unfolding plane_call plane_by
  plane_refused f = go (frame_for s u scene t c z (length buf)) f
    where
      go : (x : Answer Range) → ((plane_by s u c buf x).number ≡ 0 → ⊥) → (plane_by s u c buf x).buffer ≡ buf
      go (refused n) f = refl
      go (given r) f = absurd (f refl)
