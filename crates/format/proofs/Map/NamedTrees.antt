-- The grammar's map, its named chunks and their trees are those that are read. Assumes nothing.
use Prim.Native.Nat.{ℕ, ◌-◌, ◌≤◌}
use mathlib.Core.Path.{◌≡◌, refl, sym, ap, ◌∙◌, subst}
use mathlib.Core.Bool.{false, not}
use mathlib.Core.List.{List}
use native.Mathlib.Omega.{arith}
use lib.Dec.{eqb, ltb}
use lib.ListN.{length}
use borrow.Author.Tests.{ltb-false, le-ltb, le-leb, eqb-true, eq-eqb, not-false}
use Rattle.format.proofs.Ground.Tests.{same_true, true_same}
use Rattle.format.proofs.Ground.Answers.{refuse_if_given, and_then_given, or_refuse_given, given_inj, not_refused, go_on, found, Numbered}
use Rattle.format.proofs.Ground.Answers.{and_then_numbered, or_refuse_numbered}
use Rattle.format.proofs.Trees.PickedReading.{whole_read}
use Rattle.format.proofs.Map.Chunks.{chunk_read, read_chunk, chunk_numbered}
use Rattle.format.proofs.Map.Entries.{map_read, read_map, listed_read, read_listed}
use Rattle.format.proofs.Trees.ByRules.{tree_read, read_tree}
use Rattle.format.proofs.Values.Meaning.{Means}
use Rattle.format.proofs.Values.ByRules.{means}
use Rattle.format.proofs.Trees.Depths.{tree_depths}
use Rattle.format.specs.Answer.{refused, given, and_then, or_refuse}
use Rattle.format.specs.Refusals as why
use Rattle.format.specs.Bytes.{le_at, part, same}
use Rattle.format.specs.declared.Range.{Range}
use Rattle.format.specs.Chunks.{chunk_mark, chunk_data, data_in}
use Rattle.format.specs.Map.{MapEntry, end_mark, map_name, map_entries, offset_of, map_range, named_chunk}
use Rattle.format.specs.Trees.{fault, Read, tree_in, within, whole_tree as whole_tree, named_tree}
use Rattle.format.specs.Grammar.Chunks.{Chunk}
use Rattle.format.specs.Grammar.Map.{Mapped, Named}
use Rattle.format.specs.Grammar.Trees.{Tree}
use Rattle.format.specs.declared.Entry.{Entry}

-- a chunk that is not there has one of these numbers
pub data Missing : ℕ → Type 0 where
  no_entry : Missing why.missing
  no_chunk : Missing why.chunk
  wrong_name : Missing why.chunk_name

-- ---- the map

module _ (s : List ℕ) where
  -- what stands before the map's entries
  pub record Located (r : Range) : Type 0 where
    pub first_mark : le_at 4 s 0 ≡ chunk_mark
    pub locator_within : 40 ≤ length s
    pub locator : part s (length s - 40) 32 ≡ end_mark
    pub map_chunk : Chunk map_name s (le_at 8 s (length s - 8)) r

  pub range_read : (r : Range) → map_range s ≡ given r → Located r
  unfolding map_range
  range_read r e =
      let n = length s in
      let (f₁, e₁) = refuse_if_given (ltb n 4) why.foreign _ e in
      let (f₂, e₂) = refuse_if_given (eqb (le_at 4 s 0) 0x0C000000) why.legacy _ e₁ in
      let (f₃, e₃) = refuse_if_given (not (eqb (le_at 4 s 0) chunk_mark)) why.foreign _ e₂ in
      let (f₄, e₄) = refuse_if_given (ltb n 40) why.tail _ e₃ in
      let (f₅, e₅) = refuse_if_given (not (same (part s (n - 40) 32) end_mark)) why.tail _ e₄ in
      record {
        first_mark = eqb-true (le_at 4 s 0) chunk_mark (not-false _ f₃);
        locator_within = ltb-false n 40 f₄;
        locator = same_true _ _ (not-false _ f₅);
        map_chunk = chunk_read why.chunk map_name s (le_at 8 s (n - 8)) r e₅;
      }

  pub mapped_read : (r : Range) (es : List MapEntry) → map_range s ≡ given r → map_entries (data_in s r) ≡ given es → Mapped s r es
  mapped_read r es e f =
      let x = range_read r e in
      record {
        first_mark = x.first_mark;
        locator_within = x.locator_within;
        locator = x.locator;
        map_chunk = x.map_chunk;
        map_of_is = map_read _ es f;
      }

  pub read_range : (r : Range) (es : List MapEntry) → Mapped s r es → map_range s ≡ given r
  unfolding map_range
  read_range r es x =
      let h = x.locator_within in
      let m : eqb (le_at 4 s 0) 0x0C000000 ≡ false = rw x.first_mark refl in
      not_refused (ltb (length s) 4) why.foreign _ _ (le-ltb (length s) 4 (omega arith))
      (not_refused (eqb (le_at 4 s 0) 0x0C000000) why.legacy _ _ m
      (not_refused (not (eqb (le_at 4 s 0) chunk_mark)) why.foreign _ _ (ap not (eq-eqb _ _ x.first_mark))
      (not_refused (ltb (length s) 40) why.tail _ _ (le-ltb _ _ h)
      (not_refused (not (same (part s (length s - 40) 32) end_mark)) why.tail _ _ (ap not (true_same _ _ x.locator))
      (read_chunk why.chunk map_name s (le_at 8 s (length s - 8)) r x.map_chunk)))))

  pub read_mapped : (r : Range) (es : List MapEntry) → Mapped s r es → map_entries (data_in s r) ≡ given es
  read_mapped r es x = read_map _ es x.map_of_is

  pub mapped_unique : (r q : Range) (es fs : List MapEntry) → Mapped s r es → Mapped s q fs → (r ≡ q) × (es ≡ fs)
  mapped_unique r q es fs x y =
      let p : r ≡ q = given_inj (sym (read_range r es x) ∙ read_range q fs y) in
      let x₂ = read_mapped r es x in
      (p, given_inj (sym (rw p at x₂) ∙ read_mapped q fs y))

-- ---- a named chunk and its tree

module _ (s m : List ℕ) (es : List MapEntry) (name : List ℕ) where
  pub named_read : (r : Range) → named_chunk s m es name ≡ given r → Named s m es name r
  unfolding named_chunk
  named_read r e =
      let (o, f₁, e₁) = and_then_given (or_refuse (offset_of m name es) why.missing) _ e in
      record { offset = o; listed = listed_read m name es o (or_refuse_given _ why.missing f₁); chunk = chunk_read why.chunk_name name s o r e₁ }

  pub read_named : (r : Range) → Named s m es name r → named_chunk s m es name ≡ given r
  unfolding named_chunk
  read_named r x =
      go_on (or_refuse (offset_of m name es) why.missing) _ x.offset (found _ why.missing x.offset (read_listed m name es x.offset x.listed))
      (read_chunk why.chunk_name name s x.offset r x.chunk)

  pub named_numbered : Numbered Missing (named_chunk s m es name)
  unfolding named_chunk
  named_numbered =
      and_then_numbered (or_refuse (offset_of m name es) why.missing) (chunk_data why.chunk_name name s) (or_refuse_numbered _ why.missing no_entry) λ o.
      chunk_numbered why.chunk_name name s o Missing no_chunk wrong_name

  pub named_unique : (r q : Range) → Named s m es name r → Named s m es name q → r ≡ q
  named_unique r q x y = given_inj (sym (read_named r x) ∙ read_named q y)

  pub tree_given : (room : ℕ) (ts : List Entry) → named_tree s m es room name ≡ given ts
      → (r : Range) × Named s m es name r × Tree s r ts × (length (tree_in s r).entries ≤ room)
  unfolding named_tree
  tree_given room ts e =
      let (r, f₁, e₁) = and_then_given (named_chunk s m es name) _ e in
      let (h, p, q) = whole_read room (tree_in s r) ts e₁ in
      let x : Tree s r (tree_in s r).entries = tree_read s r p (ap (λ (z : Read). z.stop) q) in
      (r, named_read r f₁, subst (Tree s r) (ap (λ (z : Read). z.entries) q) x, h)

  pub given_tree : (room : ℕ) (ts : List Entry) (r : Range) → Named s m es name r → Tree s r ts → length (tree_in s r).entries ≤ room
      → named_tree s m es room name ≡ given ts
  unfolding named_tree within whole_tree
  given_tree room ts r x y h =
      go_on (named_chunk s m es name) _ r (read_named r x) (rw (le-leb (length (tree_in s r).entries) room h, read_tree s r ts y) refl)

  pub refused_tree : (room n : ℕ) (r : Range) → Named s m es name r → (tree_in s r).stop ≡ fault n → length (tree_in s r).entries ≤ room
      → named_tree s m es room name ≡ refused n
  unfolding named_tree within whole_tree
  refused_tree room n r x q h = go_on (named_chunk s m es name) _ r (read_named r x) (rw (le-leb (length (tree_in s r).entries) room h, q) refl)

  pub refused_chunk : (room n : ℕ) → named_chunk s m es name ≡ refused n → named_tree s m es room name ≡ refused n
  unfolding named_tree and_then
  refused_chunk room n e = rw e refl

  -- every tree of that name fits the table
  pub all_fit : (room : ℕ) (ts : List Entry) → named_tree s m es room name ≡ given ts → (r : Range) → Named s m es name r → length (tree_in s r).entries ≤ room
  all_fit room ts e r x =
      let (q, y, z, h) = tree_given room ts e in
      rw (named_unique r q x y) h

-- the entries of a tree mean what the rules say
pub tree_means : (s : List ℕ) (r : Range) (ts : List Entry) → Tree s r ts → Means s ts
tree_means s r ts x = let (D, R) = tree_depths s r ts x in means s ts D R
