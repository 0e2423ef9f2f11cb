-- The row that an accepted channels call leaves is the one that the rules say, and they say no other; a refused one leaves empty records. Assumes nothing.
use Prim.Native.Nat.{ℕ, zero, suc, ◌≤◌, ◌<◌}
use mathlib.Core.Path.{◌≡◌, refl, sym, ◌∙◌, subst}
use mathlib.Core.Logic.{◌⊎◌, inl, inr, ⊎_elim}
use mathlib.Core.Bool.{Bool, true, false, cond}
use mathlib.Core.Option.{some}
use mathlib.Core.List.{List, [], ◌∷◌, ◌++◌, map}
use native.Mathlib.Omega.{arith}
use lib.Dec.{eqb, ltb, leb}
use lib.ListN.{length, get_or, get_elem?, take, replicate, length-append, length-replicate, get_or-eq_default}
use lib.Seq.{length-take-le}
use borrow.Author.Tests.{eqb-false, ltb-true, ltb-false, leb-true, leb-false}
use Rattle.format.proofs.Ground.Answers.{none≢some, refused≢given, given_inj, refuse_if_given, and_then_given}
use Rattle.format.proofs.Ground.Orders.{decides_given, nonzero}
use Rattle.format.proofs.Trees.ByRules.{passed_read}
use Rattle.format.proofs.Map.LookedUp.{read_data, tree_once}
use Rattle.format.proofs.Map.NamedTrees.{named_read, given_tree, tree_means}
use Rattle.format.proofs.Calls.Tree.{read_short, named_whole}
use Rattle.format.proofs.Values.Meaning.{Means}
use Rattle.format.proofs.Stated.Covered.{covered_length}
use Rattle.format.proofs.Stated.PlaneRecords.{record_read, record_once, planes_read, planes_once, covered_falls, falls_covered}
use Rattle.format.proofs.Calls.Channels.{planes_name, channels_decides, channels_accepted}
use Rattle.format.specs.Answer.{Answer, given, refused, number_of}
use Rattle.format.specs.Refusals as why
use Rattle.format.specs.Map.{MapEntry, map_entries}
use Rattle.format.specs.Trees.{room_in, tree_in, named_tree}
use Rattle.format.specs.Channels.{empty_channel, channel_of, PlaneRecord, plane_record, covered, plane_records, fitted}
use Rattle.format.specs.Summary.{bad_summary, map_of}
use Rattle.format.specs.Calls.Channels.{records_by, records_of, row_by, channels_call}
use Rattle.format.specs.Grammar.Channels.{Empty, Record, FallsTo}
use Rattle.format.specs.Refused.Tree.{TableShort}
use Rattle.format.specs.Refused.Channels.{row as row-short, channels_order, PlanesIn, NoTree}
use Rattle.format.specs.Refused.Channels.{RecordAt, of_plane, of_none, unstated, surplus, Recorded, Emptied}
use Rattle.format.specs.declared.Entry.{Entry}
use Rattle.format.specs.declared.Channel.{Channel}
use Rattle.format.specs.declared.Summary.{Summary}

-- ---- empty records

pub is_empty : Empty empty_channel
unfolding empty_channel
is_empty = record { not_named = refl; no_place = refl; no_units = refl; not_colored = refl; no_red = refl; no_green = refl; no_blue = refl }

pub empty_once : {c d : Channel} → Empty c → Empty d → c ≡ d
empty_once x y = λ t. record {
  named = (x.not_named ∙ sym y.not_named) t;
  name = (x.no_place ∙ sym y.no_place) t;
  units = (x.no_units ∙ sym y.no_units) t;
  colored = (x.not_colored ∙ sym y.not_colored) t;
  red = (x.no_red ∙ sym y.no_red) t;
  green = (x.no_green ∙ sym y.no_green) t;
  blue = (x.no_blue ∙ sym y.no_blue) t;
}

-- ---- rows that are cut or padded

pub fitted_length : (n : ℕ) (cs : List Channel) → length (fitted n cs) ≡ n
unfolding fitted
fitted_length n cs = length-take-le n (cs ++ replicate n empty_channel) (simp (length-append, length-replicate) (omega arith))

-- record i of n is that of the list, or an empty one behind its end
abbrev OneOf : ℕ → List Channel → ℕ → Channel → Type 0
OneOf n cs i c = (i < n) × ((get_elem? cs i ≡ some c) ⊎ ((length cs ≤ i) × Empty c))

cut_at : (n m : ℕ) (cs : List Channel) (i : ℕ) (c : Channel) → get_elem? (take n (cs ++ replicate m empty_channel)) i ≡ some c → OneOf n cs i c
cut_at zero m cs i c e = absurd (none≢some e)
cut_at (suc n) zero [] i c e = absurd (none≢some e)
cut_at (suc n) (suc m) [] zero c e = let z : c ≡ empty_channel = cc in (omega arith, inr (omega arith, rw z is_empty))
cut_at (suc n) (suc m) [] (suc i) c e =
    let (h, x) = cut_at n m [] i c e in
    (omega arith, ⊎_elim (λ q. absurd (none≢some q)) (λ (k, y). inr (omega arith, y)) x)
cut_at (suc n) m (d ∷ cs) zero c e = (omega arith, inl e)
cut_at (suc n) m (d ∷ cs) (suc i) c e = let (h, x) = cut_at n m cs i c e in (omega arith, ⊎_elim (λ q. inl q) (λ (k, y). inr (omega arith, y)) x)

fitted_at : (n : ℕ) (cs : List Channel) (i : ℕ) (c : Channel) → get_elem? (fitted n cs) i ≡ some c → OneOf n cs i c
unfolding fitted
fitted_at n cs i c e = cut_at n n cs i c e

-- ---- the planes

-- what is read of the planes of a summary's file: those of its tree, and none without one
data PlanesRead (s : List ℕ) (u : Summary) : List PlaneRecord → Type 0 where
  read : {es : List Entry} {is : List ℕ} → PlanesIn s u es is → PlanesRead s u (map (plane_record s es) is)
  none_read : NoTree s u → PlanesRead s u []

module _ (s : List ℕ) (u : Summary) where
  module _ (es : List MapEntry) (map_read : map_entries (map_of s u) ≡ given es) (room : ℕ) where
    -- a tree that is read gives its planes' records, and one that is not, 18 excepted, none
    by_tree : (ps : List PlaneRecord) → records_by s (named_tree s (map_of s u) es room planes_name) ≡ given ps → PlanesRead s u ps
    unfolding records_by plane_records
    by_tree ps e = go (named_tree s (map_of s u) es room planes_name) refl e
      where
        go : (x : Answer (List Entry)) → named_tree s (map_of s u) es room planes_name ≡ x → records_by s x ≡ given ps → PlanesRead s u ps
        go (given ts) q e =
            let (r, c, t, h) = named_whole s u planes_name room es map_read ts q in
            subst (PlanesRead s u) (given_inj e) (read (record { place = r; chunk = c; tree = t; planes = planes_read s ts (tree_means s r ts t) }))
        go (refused k) q e = by (eqb k why.table) refl e
          where
            no_tree : (k ≡ why.table → ⊥) → NoTree s u
            no_tree f r ts x t = fits (leb (length (tree_in s r).entries) room) refl
              where
                fits : (b : Bool) → leb (length (tree_in s r).entries) room ≡ b → ⊥
                fits true h =
                    let y = named_read s (map_of s u) es planes_name r (read_data s u es map_read planes_name r x) in
                    refused≢given (sym q ∙ given_tree s (map_of s u) es planes_name room ts r y t (leb-true _ _ h))
                fits false h =
                    let n = length (tree_in s r).entries in
                    let y : TableShort s u planes_name room = record { place = r; chunk = x; count = n; passed = passed_read s r; too_many = leb-false _ _ h }
                    in
                    let z = sym q ∙ read_short s u planes_name room es map_read y in
                    f cc

            by : (b : Bool) → eqb k why.table ≡ b → cond b (refused why.table) (given []) ≡ given ps → PlanesRead s u ps
            by true h e = absurd (refused≢given e)
            by false h e = subst (PlanesRead s u) (given_inj e) (none_read (no_tree (eqb-false k why.table h)))

  given_records : (room n : ℕ) (ps : List PlaneRecord) → records_of s u room n ≡ given ps → PlanesRead s u ps
  unfolding records_of
  given_records room n ps e =
      let (f₁, e₁) = refuse_if_given (bad_summary s u) why.summary _ e in
      let (es, f₂, e₂) = and_then_given (map_entries (map_of s u)) _ e₁ in
      let (f₃, e₃) = refuse_if_given (ltb n u.components) why.channel_row _ e₂ in
      by_tree es f₂ room ps e₃

  means : {es : List Entry} {is : List ℕ} → PlanesIn s u es is → Means s es
  means {es} x = tree_means s x.place es x.tree

  -- a file has one tree of planes
  same_planes : {es fs : List Entry} {is js : List ℕ} → PlanesIn s u es is → PlanesIn s u fs js → (fs ≡ es) × (js ≡ is)
  same_planes {es} {fs} x y =
      let q : fs ≡ es = tree_once s u planes_name y.chunk y.tree x.chunk x.tree in
      (q, planes_once s es (means x) (rw q at y.planes) x.planes)

  -- ---- the row

  at_length : (cs : List Channel) (i : ℕ) (c : Channel) → get_elem? cs i ≡ some c → i < length cs
  at_length [] i c e = absurd (none≢some e)
  at_length (d ∷ cs) zero c e = omega arith
  at_length (d ∷ cs) (suc i) c e = let h = at_length cs i c e in omega arith

  row_at : {ps : List PlaneRecord} → PlanesRead s u ps → (n k : ℕ) (c : Channel)
      → get_elem? (fitted n (covered u.components ps)) k ≡ some c → RecordAt s u k c
  unfolding covered
  row_at (none_read f) n k c e = ⊎_elim (λ q. absurd (none≢some q)) (λ (_, y). unstated f y) (fitted_at n [] k c e).1
  row_at (read {es = es} {is = is} x) n k c e = ⊎_elim taken empty (fitted_at n (covered u.components ps) k c e).1
    where
      ps : List PlaneRecord
      ps = map (plane_record s es) is

      taken : get_elem? (covered u.components ps) k ≡ some c → RecordAt s u k c
      taken q =
          let l = covered_length u.components ps in
          let m = at_length (covered u.components ps) k c q in
          let h : k < u.components = omega arith in
          let (i, f, r) = covered_falls s es (means x) u.components is k c h q in
          of_plane x h f r

      empty : (length (covered u.components ps) ≤ k) × Empty c → RecordAt s u k c
      empty (l, y) = by (ltb k u.components) refl
        where
          by : (b : Bool) → ltb k u.components ≡ b → RecordAt s u k c
          by false h = surplus (ltb-false k u.components h) y
          by true h =
              of_none x (λ i f.
              let m = at_length (covered u.components ps) k _ (falls_covered s es (means x) u.components f (ltb-true k u.components h)) in
              omega arith)
              y

  -- a component that falls to two planes has the same record by both
  same_record : {es : List Entry} {is : List ℕ} {i j k : ℕ} {c d : Channel} → Means s es → FallsTo s es is k i → FallsTo s es is k j
      → Record s es i c → Record s es j d → c ≡ d
  same_record {es} {is} {i} {j} {k} M f g r q =
      let e = sym (falls_covered s es M (suc k) f (omega arith)) ∙ falls_covered s es M (suc k) g (omega arith) in
      let z : channel_of s es i ≡ channel_of s es j = cc in
      record_once s es M i r (record_read s es M i) ∙ z ∙ record_once s es M j (record_read s es M j) q

  -- component k falls to a plane
  abbrev Falls : ℕ → Type 0
  Falls k = (es : List Entry) × (is : List ℕ) × (i : ℕ) × PlanesIn s u es is × (k < u.components) × FallsTo s es is k i

  -- a record is that of a plane, or an empty one where there is no such plane
  data Seen (k : ℕ) (c : Channel) : Type 0 where
    plane : {es : List Entry} {is : List ℕ} {i : ℕ} → PlanesIn s u es is → k < u.components → FallsTo s es is k i → Record s es i c → Seen k c
    empty : (Falls k → ⊥) → Empty c → Seen k c

  seen : {k : ℕ} {c : Channel} → RecordAt s u k c → Seen k c
  seen (of_plane x h f r) = plane x h f r
  seen (of_none x n e) = empty (λ (fs, js, i, y, h, g). let (p, q) = same_planes x y in n i (rw q at (rw p at g))) e
  seen (unstated n e) = empty (λ (fs, js, i, y, h, g). n y.place fs y.chunk y.tree) e
  seen (surplus l e) = empty (λ (fs, js, i, y, h, g). omega arith) e

  pub record_at_once : (k : ℕ) {c d : Channel} → RecordAt s u k c → RecordAt s u k d → c ≡ d
  record_at_once k a b = go (seen a) (seen b)
    where
      go : {c d : Channel} → Seen k c → Seen k d → c ≡ d
      go (plane x h f r) (plane {i = j} y l g q) =
          let (p, e) = same_planes x y in
          same_record (means x) f (rw e at (rw p at g)) r (rw p at q)
      go (plane x h f r) (empty n e) = absurd (n (_, _, _, x, h, f))
      go (empty n e) (plane y l g q) = absurd (n (_, _, _, y, l, g))
      go (empty n e) (empty m f) = empty_once e f

there : (cs : List Channel) (i : ℕ) → i < length cs → get_elem? cs i ≡ some (get_or cs i empty_channel)
there [] i h = absurd (omega arith)
there (c ∷ cs) zero h = refl
there (c ∷ cs) (suc i) h = there cs i (omega arith)

same_rows : (xs ys : List Channel) → length xs ≡ length ys → ((i : ℕ) (c d : Channel) → get_elem? xs i ≡ some c → get_elem? ys i ≡ some d → c ≡ d) → xs ≡ ys
same_rows [] [] l f = refl
same_rows [] (y ∷ ys) l f = absurd (omega arith)
same_rows (x ∷ xs) [] l f = absurd (omega arith)
same_rows (x ∷ xs) (y ∷ ys) l f = λ t. f 0 x y refl refl t ∷ same_rows xs ys (omega arith) (λ i. f (suc i)) t

-- No two rows are what an accepted call leaves.
pub recorded_once : (s : List ℕ) (u : Summary) (n : ℕ) (out out' : List Channel) → Recorded s u n out → Recorded s u n out' → out ≡ out'
recorded_once s u n out out' x y =
    same_rows out out' (x.length_kept ∙ sym y.length_kept) λ i c d e f. record_at_once s u i (x.each i c e) (y.each i d f)

module _ (s : List ℕ) (u : Summary) (bytes : List ℕ) (row : List Channel) where
  -- Where the channels call gives 0, the row has the records that the rules say.
  pub channels_records : (channels_call s u bytes row).number ≡ 0 → Recorded s u (length row) (channels_call s u bytes row).row
  unfolding channels_call row_by
  channels_records e =
      let room = room_in (length bytes) in
      let n = length row in
      let (ps, q) = decides_given (nonzero channels_order refl) (channels_decides s u room n) e in
      rw q (record { each = row_at s u (given_records s u room n ps q) n; length_kept = fitted_length n (covered u.components ps) })

  -- A record that is asked for by itself: behind the row's end it is empty.
  pub channels_record : (channels_call s u bytes row).number ≡ 0 → (i : ℕ) → RecordAt s u i (get_or (channels_call s u bytes row).row i empty_channel)
  channels_record e i = go (channels_call s u bytes row).row (channels_records e)
    where
      -- the row is not short
      enough : length row < u.components → ⊥
      enough h = (channels_accepted s u bytes row).0 e why.channel_row (row-short h)

      go : (out : List Channel) → Recorded s u (length row) out → RecordAt s u i (get_or out i empty_channel)
      go out x = by (ltb i (length out)) refl
        where
          by : (b : Bool) → ltb i (length out) ≡ b → RecordAt s u i (get_or out i empty_channel)
          by true h = x.each i (get_or out i empty_channel) (there out i (ltb-true i (length out) h))
          by false h =
              let k = ltb-false i (length out) h in
              let l = x.length_kept in
              rw (get_or-eq_default out empty_channel k) (surplus (omega (arith, enough)) is_empty)

  -- Where it does not, every record is empty.
  pub channels_emptied : ((channels_call s u bytes row).number ≡ 0 → ⊥) → Emptied (length row) (channels_call s u bytes row).row
  unfolding channels_call row_by number_of
  channels_emptied f = go (records_of s u (room_in (length bytes)) (length row)) f
    where
      blank : (i : ℕ) (c : Channel) → get_elem? (fitted (length row) []) i ≡ some c → Empty c
      blank i c e = ⊎_elim (λ q. absurd (none≢some q)) (λ (_, x). x) (fitted_at (length row) [] i c e).1

      go : (x : Answer (List PlaneRecord)) → (number_of x ≡ 0 → ⊥) → Emptied (length row) (row_by (length row) u.components x)
      go (refused k) f = record { each = blank; length_kept = fitted_length (length row) [] }
      go (given cs) f = absurd (f refl)
