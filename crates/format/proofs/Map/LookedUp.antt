-- What a summary's map has under a name, and under a frame's name, is what is looked up there, and has one tree. Assumes nothing.
use Prim.Native.Nat.{ℕ, ◌^◌, ◌<◌}
use mathlib.Core.Path.{◌≡◌, sym, ◌∙◌}
use mathlib.Core.Option.{some, some_inj}
use mathlib.Core.List.{List}
use Rattle.format.proofs.Ground.Answers.{and_then_given, or_refuse_given, given_inj, go_on, found}
use Rattle.format.proofs.Map.Chunks.{chunk_read, read_chunk}
use Rattle.format.proofs.Map.Entries.{map_read, read_map, map_unique, listed_read, read_listed}
use Rattle.format.proofs.Trees.ByRules.{tree_unique}
use Rattle.format.proofs.Frames.Names.{frame_name_is, frame_name_unique}
use Rattle.format.specs.Answer.{given, or_refuse}
use Rattle.format.specs.Chunks.{chunk_data}
use Rattle.format.specs.Map.{MapEntry, map_entries, offset_of, named_chunk}
use Rattle.format.specs.Frames.{frame_name}
use Rattle.format.specs.Summary.{map_of}
use Rattle.format.specs.Grammar.Trees.{Tree}
use Rattle.format.specs.Refused.Chunk.{ChunkStage, ChunkRefusal}
use Rattle.format.specs.Refused.Plane.{FrameEntry, FrameData}
use Rattle.format.specs.Refused.Tree.{NameEntry, NameData}
use Rattle.format.specs.Refusals as why
use Rattle.format.specs.declared.Range.{Range}
use Rattle.format.specs.declared.Entry.{Entry}
use Rattle.format.specs.declared.Summary.{Summary}

-- es are the entries of the map of the summary u
module _ (s : List ℕ) (u : Summary) (es : List MapEntry) (map : map_entries (map_of s u) ≡ given es) where
  -- ---- names

  pub entry_read : (name : List ℕ) (o : ℕ) → offset_of (map_of s u) name es ≡ some o → NameEntry s u name o
  entry_read name o e = record { entries = es; map_of_is = map_read _ es map; listed = listed_read _ name es o e }

  pub read_entry : (name : List ℕ) (o : ℕ) → NameEntry s u name o → offset_of (map_of s u) name es ≡ some o
  read_entry name o x = rw (map_unique _ es x.entries (map_read _ es map) x.map_of_is) (read_listed _ name x.entries o x.listed)

  -- a name's data is that of its one entry
  entry_chunk : (name : List ℕ) (o : ℕ) (r : Range) → offset_of (map_of s u) name es ≡ some o → NameData s u name r
      → chunk_data why.chunk_name name s o ≡ given r
  entry_chunk name o r e x =
      let q = sym (read_entry name x.offset x.entry) ∙ e in
      let k : x.offset ≡ o = cc in
      rw (← k) (read_chunk why.chunk_name name s x.offset r x.chunk)

  pub data_read : (name : List ℕ) (r : Range) → named_chunk s (map_of s u) es name ≡ given r → NameData s u name r
  unfolding named_chunk
  data_read name r e =
      let (o, f₁, e₁) = and_then_given (or_refuse (offset_of (map_of s u) name es) why.missing) _ e in
      record { offset = o; entry = entry_read name o (or_refuse_given _ why.missing f₁); chunk = chunk_read why.chunk_name name s o r e₁ }

  pub read_data : (name : List ℕ) (r : Range) → NameData s u name r → named_chunk s (map_of s u) es name ≡ given r
  unfolding named_chunk
  read_data name r x =
      go_on (or_refuse (offset_of (map_of s u) name es) why.missing) _ x.offset (found _ why.missing x.offset (read_entry name x.offset x.entry))
      (read_chunk why.chunk_name name s x.offset r x.chunk)

  -- ---- frames, whose numbers have at most 20 digits

  module _ (n : ℕ) (short : n < 10 ^ 20) where
    unfoldable pub frame_entry : (o : ℕ) → offset_of (map_of s u) (frame_name n) es ≡ some o → FrameEntry s u n o
    frame_entry o e =
        let x = entry_read (frame_name n) o e in
        record { entries = x.entries; map_of_is = x.map_of_is; name = frame_name n; name_of = frame_name_is n short; listed = x.listed }

    as_name : (o : ℕ) → FrameEntry s u n o → NameEntry s u (frame_name n) o
    as_name o x = rw (frame_name_unique (frame_name_is n short) x.name_of) (record { entries = x.entries; map_of_is = x.map_of_is; listed = x.listed })

    pub entry_frame : (o : ℕ) → FrameEntry s u n o → offset_of (map_of s u) (frame_name n) es ≡ some o
    entry_frame o x = read_entry (frame_name n) o (as_name o x)

    pub frame_chunk : (o : ℕ) (r : Range) → offset_of (map_of s u) (frame_name n) es ≡ some o → FrameData s u n r
        → chunk_data why.chunk_name (frame_name n) s o ≡ given r
    frame_chunk o r e x =
        let k = frame_name_unique x.entry.name_of (frame_name_is n short) in
        entry_chunk (frame_name n) o r e (record { offset = x.offset; entry = as_name x.offset x.entry; chunk = rw k at x.chunk })

    -- what a frame's chunk is refused for
    pub frame_refused : (o : ℕ) → offset_of (map_of s u) (frame_name n) es ≡ some o → (k m : ℕ) (a : ChunkStage) (x : FrameEntry s u n k)
        → ChunkRefusal x.name s k a m → ChunkRefusal (frame_name n) s o a m
    frame_refused o e k m a x c =
        let q = sym (entry_frame k x) ∙ e in
        let i : k ≡ o = cc in
        rw (frame_name_unique x.name_of (frame_name_is n short), i) at c

-- ---- one chunk, one tree

module _ (s : List ℕ) (u : Summary) (name : List ℕ) where
  pub entry_once : (o k : ℕ) → NameEntry s u name o → NameEntry s u name k → o ≡ k
  entry_once o k x y =
      let es = x.entries in
      let map = read_map (map_of s u) es x.map_of_is in
      some_inj.0 (sym (read_entry s u es map name o x) ∙ read_entry s u es map name k y)

  pub data_once : (r q : Range) → NameData s u name r → NameData s u name q → r ≡ q
  data_once r q x y =
      let es = x.entry.entries in
      let map = read_map (map_of s u) es x.entry.map_of_is in
      given_inj (sym (read_data s u es map name r x) ∙ read_data s u es map name q y)

  pub tree_once : {r q : Range} {es fs : List Entry} → NameData s u name r → Tree s r es → NameData s u name q → Tree s q fs → es ≡ fs
  tree_once {r} {q} {es} {fs} x t y z = tree_unique s r es fs t (rw (data_once q r y x) at z)
