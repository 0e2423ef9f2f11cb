-- 29 is said where the map leads from a name astray, and nowhere else; what opening and channels make of such a chunk. Assumes nothing.
use Prim.Native.Nat.{ℕ, ◌+◌, ◌-◌, ◌≤◌}
use mathlib.Core.Path.{◌≡◌, refl, sym, ap, ◌∙◌}
use mathlib.Core.Bool.{Bool, true, false}
use mathlib.Core.Option.{some_inj}
use mathlib.Core.List.{List}
use native.Mathlib.Decide.{ℕ_discrete}
use native.Mathlib.Omega.{arith}
use lib.Dec.{ltb}
use lib.ListN.{length}
use borrow.Author.Tests.{ltb-false, le-ltb}
use Rattle.format.proofs.Ground.Answers.{refused≢given, refused_inj, refuse_if_past, and_then_past, and_then_own, or_refuse_given, or_refuse_numbered}
use Rattle.format.proofs.Ground.Answers.{number_refused, not_refused, go_on, stops, found, Numbered, refusal, answer}
use Rattle.format.proofs.Ground.Orders.{not_in, first_in}
use Rattle.format.proofs.Ground.Stages.{decides_from}
use Rattle.format.proofs.Frames.Places.{seq_different}
use Rattle.format.proofs.Frames.Names.{frame_name_is, frame_name_unique, begins_once, seq_digits}
use Rattle.format.proofs.Map.Chunks.{begins_true, wrong_name, chunk_decides}
use Rattle.format.proofs.Ground.Tests.{true_same}
use Rattle.format.proofs.Map.Entries.{read_map, map_numbered, read_listed, range_chunk}
use Rattle.format.proofs.Map.NamedTrees.{read_range, read_mapped, mapped_unique}
use Rattle.format.proofs.Files.SummaryTest.{sound_read, read_sound}
use Rattle.format.proofs.Map.LookedUp.{frame_entry, entry_frame, read_entry, entry_once}
use Rattle.format.proofs.Calls.Plane as plane
use Rattle.format.proofs.Calls.Sheet as sheet
use Rattle.format.proofs.Calls.Tree as tree
use Rattle.format.proofs.Calls.Plane.{index_read, read_index, Found, plane_found}
use Rattle.format.proofs.Calls.Tree.{tree_decides, says_29}
use Rattle.format.proofs.Calls.Channels.{planes_name}
use Rattle.format.proofs.Stated.Calibration.{calibration_name}
use Rattle.format.proofs.Calls.Open.{open_astray}
use Rattle.format.proofs.Demands.FirstAndThird.{first, third}
use Rattle.format.specs.Answer.{Answer, refused, given, refuse_if, and_then, or_refuse, number_of}
use Rattle.format.specs.Bytes.{ascii, part, begins, le_at}
use Rattle.format.specs.Refusals as why
use Rattle.format.specs.Chunks.{chunk_mark, chunk_data, data_in}
use Rattle.format.specs.Map.{MapEntry, end_mark, map_name, map_range, map_entries, offset_of, named_chunk}
use Rattle.format.specs.Trees.{room_in, named_tree}
use Rattle.format.specs.Attributes.{plane_bytes}
use Rattle.format.specs.Frames.{seq_index, frame_name}
use Rattle.format.specs.Calibration.{pixel_size}
use Rattle.format.specs.Picometres.{picometres}
use Rattle.format.specs.Sheets.{sheet_bytes, most_sheet_bytes}
use Rattle.format.specs.Summary.{shape_of, loops_of, map_of, bad_summary}
use Rattle.format.specs.Calls.Open.{opened, open_call}
use Rattle.format.specs.Calls.Plane.{most_plane_bytes, bad_index, bad_frame, frame_of, frame_for, plane_call}
use Rattle.format.specs.Calls.Sheet.{sheet_for, sheet_call}
use Rattle.format.specs.Calls.Tree.{tree_named, tree_call}
use Rattle.format.specs.Calls.Picometres.{picometres_in, picometres_of, picometres_call}
use Rattle.format.specs.Calls.Channels.{channels_call}
use Rattle.format.specs.Calls.Register.{register_call}
use Rattle.format.specs.Grammar.Chunks.{Begins, own_name_at}
use Rattle.format.specs.Grammar.Map.{Listed, Mapped, Named}
use Rattle.format.specs.Grammar.Channels.{Empty}
use Rattle.format.specs.Grammar.Calibration.{CalibrationAt, Calibrated, sized, unsized, ends_packed, faulty, missing}
use Rattle.format.specs.Grammar.File.{SummaryOf, Joined}
use Rattle.format.specs.Refused.Summary.{Sound, Uncalibrated}
use Rattle.format.specs.Refused.Chunk.{ChunkStage, Misnamed, ChunkRefusal, no_head, misnamed, no_data}
use Rattle.format.specs.Refused.Plane.{FrameEntry}
use Rattle.format.specs.Refused.Channels.{channels_order, RecordAt, of_plane, of_none, unstated, surplus, Emptied}
use Rattle.format.specs.Refused.Register.{register_order}
use Rattle.format.specs.Refused.Open.{Needed, attributes, experiment, needed}
use Rattle.format.specs.Sentences.{NameAstray, EntryAstray, FrameAstray, FrameNamed, TreeNamed, NeededNamed, CalibrationNamed, ChannelsNamed}
use Rattle.format.specs.declared.Range.{Range}
use Rattle.format.specs.declared.Entry.{Entry}
use Rattle.format.specs.declared.Calibration.{Calibration}
use Rattle.format.specs.declared.Channel.{Channel}
use Rattle.format.specs.declared.Summary.{Summary}

-- ---- a chunk

module _ (name s : List ℕ) (o : ℕ) where
  -- a chunk of another name has the refusal of a wrong name, whatever its data is
  pub astray_refused : (w : ℕ) → Misnamed name s o → chunk_data w name s o ≡ refused w
  astray_refused w x = go (begins name (part s (o + 16) (le_at 4 s (o + 4)))) refl
    where
      go : (b : Bool) → begins name (part s (o + 16) (le_at 4 s (o + 4))) ≡ b → chunk_data w name s o ≡ refused w
      go true e = absurd (x.another (begins_true _ _ e))
      go false e = sym (wrong_name w name s o x.headed.header_within x.headed.mark refl x.headed.name_within e)

  astray_said : (a : ChunkStage) (n : ℕ) → ChunkRefusal name s o a n → n ≡ why.chunk_name → Misnamed name s o
  astray_said a n (no_head f) e = absurd (omega arith)
  astray_said a n (misnamed x) e = x
  astray_said a n (no_data h f) e = absurd (omega arith)

  -- and 29 is of such a chunk
  pub refused_astray : chunk_data why.chunk_name name s o ≡ refused why.chunk_name → Misnamed name s o
  refused_astray e = let (a, x) = decides_from (chunk_decides name s o) e in astray_said a why.chunk_name x refl

-- ---- the frame of a point

module _ (s : List ℕ) (u : Summary) (scene t c z : ℕ) where
  abbrev seq : ℕ
  seq = seq_index (loops_of u) scene t z

  abbrev name : List ℕ
  name = frame_name seq

  -- behind the chunk no refusal is 29
  frame_own : (r : Range) → refuse_if (bad_frame u r.len) why.frame_short (given r) ≡ refused why.chunk_name → ⊥
  frame_own r e = let (f, g) = refuse_if_past (bad_frame u r.len) why.frame_short (given r) (λ q. omega arith) e in refused≢given (sym g)

  frame_astray : frame_of s u scene t c z ≡ refused why.chunk_name → FrameAstray s u scene t c z
  unfolding frame_of frame_entry
  frame_astray e =
      let (f₁, e₁) = refuse_if_past (bad_summary s u) why.summary _ (λ q. omega arith) e in
      let (f₂, e₂) = refuse_if_past (bad_index u scene t c z) why.index _ (λ q. omega arith) e₁ in
      let (f₃, e₃) = refuse_if_past (ltb most_plane_bytes (plane_bytes (shape_of u))) why.ceiling _ (λ q. omega arith) e₂ in
      let five = map_numbered (map_of s u) (λ n. n ≡ why.map) refl in
      let (es, f₄, e₄) = and_then_past {P = λ n. n ≡ why.map} (map_entries (map_of s u)) _ five (λ q. omega arith) e₃ in
      let at = or_refuse (offset_of (map_of s u) name es) why.no_frame in
      let (o, f₅, e₅) = and_then_past {P = λ n. n ≡ why.no_frame} at _ (or_refuse_numbered _ why.no_frame refl) (λ q. omega arith) e₄ in
      let g = sound_read s u f₁ in
      let (w, h) = index_read u scene t c z f₂ in
      record {
        sound = g;
        in_range = w;
        component = h;
        ceiling_kept = ltb-false _ _ f₃;
        offset = o;
        entry = frame_entry s u es f₄ seq (seq_digits s u scene t z g w) o (or_refuse_given _ why.no_frame f₅);
        misnamed = refused_astray name s o (and_then_own (chunk_data why.chunk_name name s o) _ frame_own e₅);
      }

  astray_frame : FrameAstray s u scene t c z → frame_of s u scene t c z ≡ refused why.chunk_name
  unfolding frame_of
  astray_frame x =
      let es = x.entry.entries in
      let e = read_map (map_of s u) es x.entry.map_of_is in
      let l = seq_digits s u scene t z x.sound x.in_range in
      let k : x.entry.name ≡ name = frame_name_unique x.entry.name_of (frame_name_is seq l) in
      let at = entry_frame s u es e seq l x.offset x.entry in
      not_refused (bad_summary s u) why.summary _ _ (read_sound s u x.sound)
      (not_refused (bad_index u scene t c z) why.index _ _ (read_index u scene t c z x.in_range x.component)
      (not_refused (ltb most_plane_bytes (plane_bytes (shape_of u))) why.ceiling _ _ (le-ltb _ _ x.ceiling_kept)
      (go_on (map_entries (map_of s u)) _ es e
      (go_on (or_refuse (offset_of (map_of s u) name es) why.no_frame) _ x.offset (found _ why.no_frame x.offset at)
      (stops (chunk_data why.chunk_name name s x.offset) _ (astray_refused name s x.offset why.chunk_name (rw k at x.misnamed)))))))

  -- a call that goes on with the frame's data, and gives no 29 of its own
  named_behind : {B : Type 0} (k : Range → Answer B) → ((r : Range) → k r ≡ refused why.chunk_name → ⊥)
      → FrameNamed s u scene t c z (number_of (and_then (frame_of s u scene t c z) k))
  unfolding number_of
  named_behind k own = (
    λ e. frame_astray (and_then_own (frame_of s u scene t c z) k own (number_refused (and_then (frame_of s u scene t c z) k) (λ q. omega arith) e)),
    λ x. ap number_of (stops (frame_of s u scene t c z) k (astray_frame x)),
  )

  -- the plane call, and the call that writes a sheet
  pub plane_named : (samples : List ℕ) → FrameNamed s u scene t c z (plane_call s u scene t c z samples).number
  unfolding plane_call frame_for
  plane_named samples = rw (plane.by_number s u scene t c z samples (frame_for s u scene t c z (length samples))) (named_behind _ own)
    where
      own : (r : Range) → refuse_if (ltb (length samples) (plane_bytes (shape_of u))) why.buffer (given r) ≡ refused why.chunk_name → ⊥
      own r e = let (f, g) = refuse_if_past (ltb (length samples) (plane_bytes (shape_of u))) why.buffer (given r) (λ q. omega arith) e in refused≢given (sym g)

  pub sheet_named : (lent : List ℕ) → FrameNamed s u scene t c z (sheet_call s u scene t c z lent).number
  unfolding sheet_call sheet_for
  sheet_named lent = rw (sheet.by_number s u scene t c z lent (sheet_for s u scene t c z (length lent))) (named_behind _ own)
    where
      size : ℕ
      size = sheet_bytes u.width u.height u.bits

      own : (r : Range) → refuse_if (ltb most_sheet_bytes size) why.sheet_long (refuse_if (ltb (length lent) size) why.buffer (given r))
          ≡ refused why.chunk_name
          → ⊥
      own r e =
          let (f, g) = refuse_if_past (ltb most_sheet_bytes size) why.sheet_long _ (λ q. omega arith) e in
          let (h, k) = refuse_if_past (ltb (length lent) size) why.buffer (given r) (λ q. omega arith) g in
          refused≢given (sym k)

-- ---- two points never have one chunk

module _ (s : List ℕ) (u : Summary) where
  -- the chunk of an accepted frame bears its name
  bears : {scene t c z : ℕ} {r : Range} → Found s u scene t c z r → (o : ℕ) → FrameEntry s u (seq_index (loops_of u) scene t z) o
      → Begins (frame_name (seq_index (loops_of u) scene t z)) (own_name_at s o)
  bears {scene} {t} {z = z} f o x =
      let n = seq_index (loops_of u) scene t z in
      let es = x.entries in
      let e = read_map (map_of s u) es x.map_of_is in
      let l = seq_digits s u scene t z f.sound f.in_range in
      let y = f.frame_data in
      let k : y.offset ≡ o = some_inj.0 (sym (entry_frame s u es e n l y.offset y.entry) ∙ entry_frame s u es e n l o x) in
      rw (frame_name_unique y.entry.name_of (frame_name_is n l), k) at y.chunk.name_begins

  pub never_neighbour : (scene t c z scene' t' c' z' : ℕ) (samples samples' : List ℕ)
      → (plane_call s u scene t c z samples).number ≡ 0 → (plane_call s u scene' t' c' z' samples').number ≡ 0
      → (o : ℕ) → FrameEntry s u (seq_index (loops_of u) scene t z) o → FrameEntry s u (seq_index (loops_of u) scene' t' z') o
      → (scene ≡ scene') × (t ≡ t') × (z ≡ z')
  never_neighbour scene t c z scene' t' c' z' samples samples' e e' o x x' =
      let (r, f) = plane_found s u scene t c z samples e in
      let (r', f') = plane_found s u scene' t' c' z' samples' e' in
      let n = seq_digits s u scene t z f.sound f.in_range in
      let n' = seq_digits s u scene' t' z' f'.sound f'.in_range in
      let q = begins_once (frame_name_is _ n) (frame_name_is _ n') (bears f o x) (bears f' o x') in
      seq_different (loops_of u) scene t z scene' t' z' f.sound.loops_distinct f.in_range f'.in_range q

-- ---- trees

module _ (s : List ℕ) (u : Summary) (name : List ℕ) where
  tree_astray : (room : ℕ) → tree_named s u name room ≡ refused why.chunk_name → Sound s u × NameAstray s u name
  unfolding tree_named
  tree_astray room e =
      let (f, g) = refuse_if_past (bad_summary s u) why.summary _ (λ q. omega arith) e in
      let (a, x) = decides_from (tree_decides s u name room) e in
      (sound_read s u f, says_29 s u name room a why.chunk_name x refl)

  astray_tree : (room : ℕ) → Sound s u → NameAstray s u name → tree_named s u name room ≡ refused why.chunk_name
  unfolding tree_named named_tree named_chunk
  astray_tree room g (o, x, m) =
      let es = x.entries in
      let e = read_map (map_of s u) es x.map_of_is in
      not_refused (bad_summary s u) why.summary _ _ (read_sound s u g)
      (go_on (map_entries (map_of s u)) _ es e
      (stops (named_chunk s (map_of s u) es name) _
      (go_on (or_refuse (offset_of (map_of s u) name es) why.missing) _ o (found _ why.missing o (read_entry s u es e name o x))
      (astray_refused name s o why.chunk_name m))))

  pub tree_named_is : (table : List ℕ) → TreeNamed s u name (tree_call s u name table).number
  unfolding tree_call
  tree_named_is table = rw (tree.by_number (length table) (tree_named s u name room)) (told, back)
    where
      room : ℕ
      room = room_in (length table)

      told : number_of (tree_named s u name room) ≡ why.chunk_name → Sound s u × NameAstray s u name
      told e = tree_astray room (number_refused (tree_named s u name room) (λ q. omega arith) e)

      back : Sound s u × NameAstray s u name → number_of (tree_named s u name room) ≡ why.chunk_name
      back (g, x) = rw (astray_tree room g x) (unfold number_of in refl)

pub picometres_named : (s : List ℕ) (u : Summary) (table : List ℕ) → TreeNamed s u (ascii "ImageCalibrationLV|0!") (picometres_call s u table).number
unfolding picometres_call picometres_of picometres_in number_of
picometres_named s u table = (
  λ e. tree_astray s u calibration_name room (and_then_own (tree_named s u calibration_name room) _ own (refusal_of e)),
  λ (g, x). ap number_of (stops (tree_named s u calibration_name room) _ (astray_tree s u calibration_name room g x)),
)
  where
    room : ℕ
    room = room_in (length table)

    refusal_of : number_of (picometres_of s u room) ≡ why.chunk_name → picometres_of s u room ≡ refused why.chunk_name
    refusal_of e = number_refused (picometres_of s u room) (λ q. omega arith) e

    own : (es : List Entry) → picometres_in s es ≡ refused why.chunk_name → ⊥
    own es e =
        let size = or_refuse (pixel_size s es) why.missing in
        let (x, f, g) = and_then_past {P = λ n. n ≡ why.missing} size _ (or_refuse_numbered _ why.missing refl) (λ q. omega arith) e in
        no_size (or_refuse (picometres x) why.size_range) (or_refuse_numbered _ why.size_range refl) g
      where
        no_size : (y : Answer ℕ) → Numbered (λ m. m ≡ why.size_range) y → y ≡ refused why.chunk_name → ⊥
        no_size y (refusal h) g = let q = refused_inj g in omega arith
        no_size y answer g = refused≢given (sym g)

-- ---- opening

-- a chunk that a file's map has under a name does not bear another one
not_astray : (s name : List ℕ) (r q : Range) (es : List MapEntry) → Mapped s r es → Named s (data_in s r) es name q → EntryAstray s name → ⊥
not_astray s name r q es mp x (r', es', o, mp', l, m) =
    let (p, e) = mapped_unique s r' r es' es mp' mp in
    let l₂ : Listed (data_in s r) name es o = rw (p, e) at l in
    let k : x.offset ≡ o = some_inj.0 (sym (read_listed (data_in s r) name es x.offset x.listed) ∙ read_listed (data_in s r) name es o l₂) in
    m.another (rw k at x.chunk.name_begins)

module _ (s : List ℕ) (u : Summary) (j : Joined s u) where
  needed_named : (w : Needed) → EntryAstray s (needed w) → ⊥
  unfolding ascii
  needed_named attributes x = not_astray s (needed attributes) j.map_place j.attributes_place j.map_entries_is j.mapped j.attributes_named x
  needed_named experiment x = not_astray s (needed experiment) j.map_place j.experiment_place j.map_entries_is j.mapped j.experiment_named x

  pub calibration_named : CalibrationNamed s u
  calibration_named x = go j.size j.calibrated j.summary
    where
      no_chunk : (q : Range) → CalibrationAt s (data_in s j.map_place) j.map_entries_is q → ⊥
      no_chunk q y = not_astray s calibration_name j.map_place q j.map_entries_is j.mapped y x

      go : (c : Calibration) → Calibrated s (data_in s j.map_place) j.map_entries_is j.step c → SummaryOf j.map_place j.attributes j.loops c u
          → Uncalibrated u
      go c (sized {r = q} y t p k) h = absurd (no_chunk q y)
      go c (unsized {r = q} y t p) h = record { calibration = h.calibration; x = h.x; y = h.y; class = h.class; z = h.z }
      go c (ends_packed {r = q} y t) h = absurd (no_chunk q y)
      go c (faulty {r = q} y t p) h = absurd (no_chunk q y)
      go c (missing f) h = record { calibration = h.calibration; x = h.x; y = h.y; class = h.class; z = h.z }

module _ (s table : List ℕ) where
  -- the attributes come first
  attributes_refused : EntryAstray s (needed attributes) → opened s (room_in (length table)) ≡ refused why.chunk_name
  unfolding opened named_tree named_chunk ascii
  attributes_refused (r, es, o, mp, l, m) =
      let at = read_listed (data_in s r) (needed attributes) es o l in
      go_on (map_range s) _ r (read_range s r es mp)
      (go_on (map_entries (data_in s r)) _ es (read_mapped s r es mp)
      (stops (named_tree s (data_in s r) es (room_in (length table)) (needed attributes)) _
      (stops (named_chunk s (data_in s r) es (needed attributes)) _
      (go_on (or_refuse (offset_of (data_in s r) (needed attributes) es) why.missing) _ o (found _ why.missing o at)
      (astray_refused (needed attributes) s o why.chunk_name m)))))

  pub open_named : NeededNamed s (open_call s table).number
  unfolding open_call number_of
  open_named =
      record {
        not_opened = λ w x e. needed_named s (open_call s table).summary (third.returns_theirs s table e) w x;
        attributes_29 = λ x. ap number_of (attributes_refused x);
        no_other = open_astray s table;
      }

  -- the map chunk's own name
  pub map_name_4 : le_at 4 s 0 ≡ chunk_mark → 40 ≤ length s → part s (length s - 40) 32 ≡ end_mark → Misnamed map_name s (le_at 8 s (length s - 8))
      → (open_call s table).number ≡ why.chunk
  unfolding open_call opened number_of
  map_name_4 first long tail x = ap number_of (stops (map_range s) _ refused_map)
    where
      refused_map : map_range s ≡ refused why.chunk
      refused_map =
          sym (range_chunk s (omega arith) (λ e. omega (arith, first, e)) first long (true_same _ _ tail) refl
          (sym (astray_refused map_name s (le_at 8 s (length s - 8)) why.chunk x)))

-- ---- channels and register

module _ (s : List ℕ) (u : Summary) where
  -- a record of a chunk of another name is empty
  pub astray_empty : NameAstray s u planes_name → (k : ℕ) (c : Channel) → RecordAt s u k c → Empty c
  astray_empty (o, e, m) k c (of_plane p h f r) =
      let y = p.chunk in
      absurd (m.another (rw (entry_once s u planes_name y.offset o y.entry e) at y.chunk.name_begins))
  astray_empty x k c (of_none p f e) = e
  astray_empty x k c (unstated f e) = e
  astray_empty x k c (surplus h e) = e

  pub channels_named : (table : List ℕ) (row : List Channel) → ChannelsNamed s u (length row) (channels_call s u table row).row
  channels_named table row x = by (ℕ_discrete (channels_call s u table row).number 0)
    where
      by : Dec ((channels_call s u table row).number ≡ 0) → Emptied (length row) (channels_call s u table row).row
      by (yes e) =
          let r = first.channels_records s u table row e in
          record { each = λ i c q. astray_empty x i c (r.each i c q); length_kept = r.length_kept }
      by (no f) = first.channels_refused s u table row f

  pub channels_never : (table : List ℕ) (row : List Channel) → (channels_call s u table row).number ≡ why.chunk_name → ⊥
  channels_never table row e = not_in why.chunk_name channels_order refl (rw e at (first_in (first.channels_number s u table row) λ z. omega arith))

  pub register_never : (buf : List ℕ) → (register_call s u buf).number ≡ why.chunk_name → ⊥
  register_never buf e = not_in why.chunk_name register_order refl (rw e at (first_in (first.register_number s u buf) λ z. omega arith))
