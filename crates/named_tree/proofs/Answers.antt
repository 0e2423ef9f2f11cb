-- What the answers of a lookup, a chunk and a tree make of the tree under a name. Assumes nothing.
use Prim.Native.Nat.{ℕ, ◌+◌, ◌^◌, ◌≤◌, ◌<◌}
use mathlib.Core.Path.{◌≡◌, refl, sym, ap, ◌∙◌, subst}
use mathlib.Core.Option.{Option, none, some}
use mathlib.Core.List.{List}
use lib.ListN.{length}
use Rattle.format.proofs.Trees.PickedReading.{whole_read}
use Rattle.format.specs.Answer.{Answer, given, refused, and_then, or_refuse}
use Rattle.format.specs.Bytes.{part}
use Rattle.format.specs.Refusals as why
use Rattle.format.specs.Chunks.{chunk_data, data_in}
use Rattle.format.specs.Map.{MapEntry, map_entries, offset_of, named_chunk}
use Rattle.format.specs.Trees.{read, tree_in, within, tree_entries, room_in, named_tree}
use Rattle.std.specs.Prelude as std
use Rattle.std.specs.Prelude.{Result, Ok, Err, IsErrAnd}
use Rattle.std.specs.Option.{ok_or}
use Rattle.std.proofs.lemmas.Result.{err_from_is_err_and}
use Rattle.format.specs.Given.{number, maybe, answer}
use Rattle.format.specs.declared.Range.{Range}
use Rattle.format.specs.declared.refusal.Refusal.{Refusal}
use Rattle.format.specs.declared.Entry.{Entry}
use Rattle.chunk.specs.Answers.{data_of, fault, find_in}
use Rattle.chunk.specs.declared.ChunkFault.{ChunkFault}
use Rattle.chunk.specs.declared.ChunkFault.TheVariants.{Bad, Misnamed}
use Rattle.lookup.proofs.Reading.{holds_read}
use Rattle.lookup.proofs.Rows.{length_firsts}
use Rattle.tree.specs.Table.{entry_in, entries_in}
use Rattle.tree.specs.Steps.{tree_into, parsed_in, Front}
use Rattle.named_tree.specs.Named.{tree_at, tree_under, Readable, Reads}

-- the error that a `?` hands out, where it stays as it is
pub handed : {T E : Type 0} {r : Result T E} {x : E} → IsErrAnd r (λ e. e ≡ x) → r ≡ Err x
handed {r = r} h = let p = err_from_is_err_and r h in rw (p.1, p.2)

-- a value that has to be there, and the refusal where it is not
pub asked : {A : Type 0} (o : std.Option A) (e : Refusal) → answer (ok_or o e) ≡ or_refuse (maybe o) (number e)
unfolding or_refuse
asked std.None e = refl
asked (std.Some x) e = refl

pub lacking : {A : Type 0} (o : std.Option A) {x e : Refusal} → Err x ≡ ok_or o e → (o ≡ std.None) × (x ≡ e)
lacking std.None q = (refl, cc)
lacking (std.Some a) q = cc

-- a refusal leaves the table to the caller
pub refused_reads : {s t : List ℕ} {e : Refusal} {a : Answer (List Entry)} → a ≡ refused (number e) → Reads s t a (Err e)
refused_reads q = record { answer = q; front = rw q tt; holds = tt }

-- ---- the chunk at an offset

module _ (s name : List ℕ) (o n : ℕ) where
  pub no_chunk : {t : List ℕ} (e : ChunkFault) → data_of why.chunk_name (Err e) ≡ chunk_data why.chunk_name name s o
      → Reads s t (tree_at s (room_in n) name o) (Err (fault e))
  unfolding tree_at and_then
  no_chunk Bad q = refused_reads (rw (← q))
  no_chunk Misnamed q = refused_reads (rw (← q))

  chunk_tree : (r : Range) → given r ≡ chunk_data why.chunk_name name s o → tree_at s (room_in n) name o ≡ tree_into (data_in s r) r.start n
  unfolding tree_at and_then tree_in
  chunk_tree r e = rw (← e)

  -- what the tree's answer says, and what its table has
  pub chunk_reads : {r : Range} {d t : List ℕ} {p : Result ℕ Refusal} → length s < 2 ^ 64 → r.start + r.len ≤ length s → given r ≡ chunk_data why.chunk_name name s o
      → d ≡ part s r.start r.len
      → parsed_in t p ≡ tree_into d r.start n → Front t (tree_into d r.start n) → Reads s t (tree_at s (room_in n) name o) p
  chunk_reads {r} {d} {t} {p} small within e q a b =
      let z : tree_into d r.start n ≡ tree_at s (room_in n) name o = ap (λ (x : List ℕ). tree_into x r.start n) q ∙ sym (chunk_tree r e) in
      let b' : Front t (tree_at s (room_in n) name o) = subst (Front t) z b in
      record { answer = sym z ∙ sym a; front = b'; holds = go p (a ∙ z) b' }
    where
      go : (p : Result ℕ Refusal) → parsed_in t p ≡ tree_at s (room_in n) name o → Front t (tree_at s (room_in n) name o) → Readable s t p
      go (Err x) f g = tt
      go (Ok w) f g =
          let es = entries_in t w in
          let (l, at, y) = whole_read (room_in n) (read (data_in s r) r.start) es (sym (chunk_tree r e) ∙ sym f) in
          let k : length es ≡ w = length_firsts w (entry_in t) in
          rw (← k) (holds_read s r es at t small within y (subst (Front t) (sym f) g)).holds

-- ---- what a lookup found

module _ (s : List ℕ) (room : ℕ) (name : List ℕ) where
  pub under_at : (o : ℕ) → tree_under s room name (given (some o)) ≡ tree_at s room name o
  unfolding tree_under and_then or_refuse
  under_at o = refl

  pub under_absent : tree_under s room name (given none) ≡ refused 11
  unfolding tree_under and_then or_refuse
  under_absent = refl

  pub under_refused : (x : ℕ) → tree_under s room name (refused x) ≡ refused x
  unfolding tree_under and_then
  under_refused x = refl

  pub under_listed : (m : List ℕ) (es : List MapEntry) → tree_under s room name (given (offset_of m name es)) ≡ named_tree s m es room name
  unfolding tree_under and_then or_refuse named_tree named_chunk tree_at
  under_listed m es = go (offset_of m name es)
    where
      go : (o : Option ℕ) → tree_under s room name (given o)
          ≡ and_then (and_then (or_refuse o 11) (chunk_data why.chunk_name name s)) λ r. tree_entries (within room (tree_in s r))
      go none = refl
      go (some o) = refl

  -- the map's refusal, or the tree under the name
  pub under_named : (m : List ℕ) → tree_under s room name (find_in m name) ≡ and_then (map_entries m) λ es. named_tree s m es room name
  unfolding find_in and_then
  under_named m = go (map_entries m)
    where
      go : (a : Answer (List MapEntry)) → tree_under s room name (and_then a λ es. given (offset_of m name es)) ≡ and_then a λ es. named_tree s m es room name
      go (refused x) = under_refused x
      go (given es) = under_listed m es
