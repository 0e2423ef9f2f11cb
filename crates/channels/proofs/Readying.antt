-- The refusals of the channels, test by test, and the walk that is ready. Assumes nothing.
use Prim.Native.Nat.{ℕ, ◌<◌, ◌≤◌}
use mathlib.Core.Path.{◌≡◌, refl, sym, ap, ◌∙◌}
use mathlib.Core.Bool.{true, false}
use mathlib.Core.Option.{Option}
use mathlib.Core.List.{List, []}
use lib.Dec.{ltb}
use borrow.Author.Tests.{eq-eqb, ne_eqb, lt-ltb, le-ltb}
use Rattle.std.specs.Prelude.{Result, Ok, Err}
use Rattle.format.specs.Given.{number}
use Rattle.format.specs.declared.refusal.Refusal.{Refusal}
use Rattle.format.specs.Answer.{Answer, given, refused, refuse_if, and_then, number_of}
use Rattle.format.specs.Bytes.{ascii}
use Rattle.format.specs.Refusals as why
use Rattle.format.specs.Map.{MapEntry, map_entries, offset_of}
use Rattle.format.specs.Trees.{named_tree}
use Rattle.format.specs.Channels.{PlaneRecord, covered, plane_records}
use Rattle.format.specs.Summary.{bad_summary, map_of}
use Rattle.format.specs.Calls.Channels.{records_by, records_of, row_by}
use Rattle.format.specs.declared.Entry.{Entry}
use Rattle.format.specs.declared.Summary.{Summary}
use Rattle.chunk.specs.Answers.{find_in}
use Rattle.named_tree.specs.Named.{tree_under}
use Rattle.named_tree.proofs.Answers.{under_listed}
use Rattle.channels.specs.Ahead.{ahead, no_planes}
use Rattle.channels.specs.Ready.{Ready}
use Rattle.channels.specs.declared.planes.Planes.{Planes}
use Rattle.channels.proofs.Rows.{fitted_same, none_at, none_stands, none_left, Before}

-- the chunk with the planes
abbrev pub planes_name : List ℕ
planes_name = ascii "ImageMetadataSeqLV|0!"

-- ---- what is ready

module _ (s t : List ℕ) (n most : ℕ) {a : Answer (List PlaneRecord)} where
  pub ready_given : {p : Planes} (ps : List PlaneRecord) → a ≡ given ps → Before s t p (covered most ps) → Ready s t n most a (Ok p)
  unfolding row_by number_of
  ready_given {p} ps e (g, f) = rw e (record { number = refl; stands = g; row = fitted_same n (covered most ps) (ahead s t p) λ k. sym (f k) })

  pub ready_empty : {p : Planes} → a ≡ given [] → p ≡ no_planes → Ready s t n most a (Ok p)
  ready_empty e q = ready_given [] e (none_left s t most q refl)

  pub ready_refused : (x : Refusal) → a ≡ refused (number x) → Ready s t n most a (Err x)
  unfolding row_by number_of
  ready_refused x e = rw e (record { number = refl; stands = none_stands s t; row = fitted_same n [] (ahead s t no_planes) λ k. sym (none_at s t k) })

-- the same of records that are equal
pub ready_same : {s t : List ℕ} {n most : ℕ} {a c : Answer (List PlaneRecord)} {p : Result Planes Refusal} → a ≡ c → Ready s t n most c p → Ready s t n most a p
ready_same e r = rw e r

-- ---- the refusals in order

module _ (s : List ℕ) {a : Answer (List Entry)} where
  pub by_given : (es : List Entry) → a ≡ given es → records_by s a ≡ given (plane_records s es)
  unfolding records_by
  by_given es e = rw e refl

  -- of a tree's refusals only 18 stops the records
  pub by_table : (k : ℕ) → a ≡ refused k → k ≡ why.table → records_by s a ≡ refused k
  unfolding records_by
  by_table k e h = rw (e, eq-eqb k why.table h) (ap refused (sym h))

  pub by_fault : (k : ℕ) → a ≡ refused k → (k ≡ why.table → ⊥) → records_by s a ≡ given []
  unfolding records_by
  by_fault k e h = rw (e, ne_eqb k why.table h) refl

-- 20, 5 and 19 before the tree's own
module _ (s : List ℕ) (u : Summary) (room n : ℕ) where
  pub bad_summary_is : bad_summary s u ≡ true → records_of s u room n ≡ refused why.summary
  unfolding records_of refuse_if
  bad_summary_is e = rw e refl

  -- the row is judged, and then the tree is read that the map has under the name
  abbrev looked : Answer (Option ℕ) → Answer (List PlaneRecord)
  looked x = and_then x λ o. refuse_if (ltb n u.components) why.channel_row (records_by s (tree_under s room planes_name (given o)))

  module _ (good : bad_summary s u ≡ false) where
    by_lookup : records_of s u room n ≡ looked (find_in (map_of s u) planes_name)
    unfolding records_of refuse_if find_in and_then ascii
    by_lookup = rw good (go (map_entries (map_of s u)))
      where
        go : (x : Answer (List MapEntry))
            → and_then x (λ es. refuse_if (ltb n u.components) why.channel_row (records_by s (named_tree s (map_of s u) es room planes_name)))
            ≡ looked (and_then x λ es. given (offset_of (map_of s u) planes_name es))
        go (refused x) = refl
        go (given es) = rw (under_listed s room planes_name (map_of s u) es) refl

    pub no_map : {x : ℕ} → refused x ≡ find_in (map_of s u) planes_name → records_of s u room n ≡ refused x
    unfolding and_then
    no_map e = by_lookup ∙ rw (← e) refl

    module _ (o : Option ℕ) (e : given o ≡ find_in (map_of s u) planes_name) where
      pub short_row : n < u.components → records_of s u room n ≡ refused why.channel_row
      unfolding and_then refuse_if
      short_row f = by_lookup ∙ rw (← e, lt-ltb n u.components f) refl

      pub read_on : u.components ≤ n → records_of s u room n ≡ records_by s (tree_under s room planes_name (given o))
      unfolding and_then refuse_if
      read_on f = by_lookup ∙ rw (← e, le-ltb n u.components f) refl
