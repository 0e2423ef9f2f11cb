-- Rows that are cut or padded with empty records, and the records that a walk has before it. Assumes nothing.
use Prim.Native.Nat.{ℕ, zero, suc, ◌+◌, ◌-◌, ◌≤◌, ◌<◌, min}
use mathlib.Core.Path.{◌≡◌, refl, sym, ap, ◌∙◌}
use mathlib.Core.List.{List, [], ◌∷◌, ◌++◌}
use native.Mathlib.Decide.{dec_lt}
use native.Mathlib.Omega.{arith}
use lib.ListN.{get_or, replicate, get_or-eq_default}
use lib.Seq.{get_or-take, ext_get_or}
use Rattle.format.specs.Channels.{empty_channel, channel_of, PlaneRecord, plane_record, covered, fitted}
use Rattle.format.specs.declared.Channel.{Channel}
use Rattle.format.proofs.Stated.Covered.{plane_covers, covered_zero}
use Rattle.format.proofs.Calls.ChannelRecords.{fitted_length}
use Rattle.lookup.specs.Table.{entry_in, entries_in, Holds}
use Rattle.lookup.proofs.Reading.{holds_none}
use Rattle.lookup.specs.Walks.{Standing, rest_of}
use Rattle.lookup.specs.declared.Turn.{Turn}
use Rattle.channels.specs.Ahead.{planes_from, ahead, record_of, Stands, Follows, no_planes}
use Rattle.channels.specs.declared.planes.Planes.{Planes}

-- ---- rows

-- what stands behind the records is empty
padded : (n : ℕ) (cs : List Channel) (k : ℕ) → get_or (cs ++ replicate n empty_channel) k empty_channel ≡ get_or cs k empty_channel
padded zero [] k = refl
padded (suc n) [] zero = refl
padded (suc n) [] (suc k) = padded n [] k
padded n (c ∷ cs) zero = refl
padded n (c ∷ cs) (suc k) = padded n cs k

pub blank : (n k : ℕ) → get_or (replicate n empty_channel) k empty_channel ≡ empty_channel
blank n k = padded n [] k

-- record k of a row
pub fitted_at : (n : ℕ) (cs : List Channel) (k : ℕ) → k < n → get_or (fitted n cs) k empty_channel ≡ get_or cs k empty_channel
unfolding fitted
fitted_at n cs k h = get_or-take n (cs ++ replicate n empty_channel) k empty_channel h ∙ padded n cs k

-- rows of the same records are the same
pub fitted_same : (n : ℕ) (xs ys : List Channel) → ((k : ℕ) → get_or xs k empty_channel ≡ get_or ys k empty_channel) → fitted n xs ≡ fitted n ys
fitted_same n xs ys f =
    ext_get_or empty_channel (fitted n xs) (fitted n ys) (fitted_length n xs ∙ sym (fitted_length n ys)) λ i h.
    let l : i < n = rw (fitted_length n xs) at h in
    fitted_at n xs i l ∙ f i ∙ sym (fitted_at n ys i l)

-- ---- the records of one plane

-- of n components that it covers, the next one and m more
one_plane : (v most n m : ℕ) (c : Channel) (ps : List PlaneRecord) → n ≡ min v most → n ≡ suc m
    → c ∷ (replicate m c ++ covered (most - n) ps) ≡ replicate (min v most) c ++ covered (most - v) ps
one_plane v most n m c ps q w = let y : most - v ≡ most - n = omega arith in rw (← q, y, w) refl

one_fewer : (a b : ℕ) (c : Channel) (cs : List Channel) (k : ℕ) → a ≡ suc b
    → get_or (c ∷ (replicate b c ++ cs)) k empty_channel ≡ get_or (replicate a c ++ cs) k empty_channel
one_fewer a b c cs k e = rw e refl

-- ---- walks

module _ (s t : List ℕ) where
  pub none_at : (k : ℕ) → record_of s t no_planes k ≡ empty_channel
  unfolding ahead covered
  none_at zero = refl
  none_at (suc k) = refl

  pub none_stands : Stands s t no_planes
  none_stands = record { holds = holds_none s t; standing = tt }

  -- a walk that has the records cs before it
  abbrev pub Before : Planes → List Channel → Type 0
  Before p cs = Stands s t p × ((k : ℕ) → record_of s t p k ≡ get_or cs k empty_channel)

  pub none_before : {p : Planes} {cs : List Channel} → p ≡ no_planes → cs ≡ [] → Before p cs
  none_before e q = rw (e, q) (none_stands, none_at)

  pub none_wanted : {p : Planes} {n : ℕ} (ps : List PlaneRecord) → p ≡ no_planes → n ≡ 0 → Before p (covered n ps)
  none_wanted {n = n} ps e q = none_before {cs = covered n ps} e (rw q (covered_zero ps))

  pub none_left : {p : Planes} (n : ℕ) {ps : List PlaneRecord} → p ≡ no_planes → ps ≡ [] → Before p (covered n ps)
  unfolding covered
  none_left n {ps} e q = none_before {cs = covered n ps} e (rw q refl)

  -- the record of the next plane, to as many components as it covers, and then those of the rest
  pub one_before : (used most n i : ℕ) (turn rest : Turn) (c : Channel) → Holds s t used → (most ≡ 0 → ⊥) → Standing s (entry_in t) used rest
      → rest_of s (entry_in t) used turn ≡ i ∷ rest_of s (entry_in t) used rest
      → n ≡ min (plane_record s (entries_in t used) i).covers most → c ≡ channel_of s (entries_in t used) i
      → Before (record { channel = c; again = n - 1; rest = rest; left = most - n; used = used }) (covered most (planes_from s t used turn))
  unfolding ahead covered
  one_before used most n i turn rest c h z g e q r = (record { holds = h; standing = g }, λ k. ap (λ (cs : List Channel). get_or cs k empty_channel) list)
    where
      v : ℕ
      v = (plane_record s (entries_in t used) i).covers

      some_covered : 0 < v
      some_covered = plane_covers s (entries_in t used) i

      list : c ∷ (replicate (n - 1) c ++ covered (most - n) (planes_from s t used rest)) ≡ covered most (planes_from s t used turn)
      list = unfold covered plane_record in rw (e, r) (one_plane v most n (n - 1) _ (planes_from s t used rest) q (omega (arith, some_covered)))

  -- ---- the components after the next one

  -- the same plane covers them too
  pub same_plane : {p r : Planes} → Stands s t p → (p.again ≡ 0 → ⊥)
      → r ≡ record { channel = p.channel; again = p.again - 1; rest = p.rest; left = p.left; used = p.used } → Follows s t p r
  unfolding ahead
  same_plane {p} h z e =
      rw e (record { stands = record { holds = h.holds; standing = h.standing }; behind = λ k. one_fewer p.again (p.again - 1) _ _ k (omega arith) })

  -- or the planes behind it
  pub next_planes : {p r : Planes} → p.again ≡ 0 → Before r (covered p.left (planes_from s t p.used p.rest)) → Follows s t p r
  unfolding ahead
  next_planes {p} z (g, f) = record { stands = g; behind = λ k. f k ∙ rw z refl }

-- ---- a walk from the first record on

-- p has the records of `first` from number k on before it
pub record On (s t : List ℕ) (first : Planes) (k : ℕ) (p : Planes) : Type 0 where
  pub stands : Stands s t p
  pub from : (j : ℕ) → record_of s t p j ≡ record_of s t first (k + j)

module _ (s t : List ℕ) (first : Planes) where
  pub on_first : Stands s t first → On s t first 0 first
  on_first h = record { stands = h; from = λ j. ap (record_of s t first) (omega arith) }

  module _ {k : ℕ} {p : Planes} (o : On s t first k p) where
    pub on_next : {r : Planes} → Follows s t p r → On s t first (k + 1) r
    on_next n = record { stands = n.stands; from = λ j. n.behind j ∙ o.from (suc j) ∙ ap (record_of s t first) (omega arith) }

    pub on_record : p.channel ≡ record_of s t first k
    unfolding ahead
    on_record = let z : k + 0 ≡ k = omega arith in o.from 0 ∙ ap (record_of s t first) z

    -- the next record in a row
    pub on_row : (n i : ℕ) → k ≡ i → i < n → p.channel ≡ get_or (fitted n (ahead s t first)) i empty_channel
    on_row n i e h = on_record ∙ ap (record_of s t first) e ∙ sym (fitted_at n (ahead s t first) i h)

-- behind a row's end
pub past_row : (n : ℕ) (cs : List Channel) (k : ℕ) → n ≤ k → empty_channel ≡ get_or (fitted n cs) k empty_channel
past_row n cs k h = sym (get_or-eq_default (fitted n cs) empty_channel (rw (fitted_length n cs) h))

-- a row of a walk that has nothing before it
pub none_row : (s t : List ℕ) (n k : ℕ) → empty_channel ≡ get_or (fitted n (ahead s t no_planes)) k empty_channel
none_row s t n k = by (dec_lt k n)
  where
    by : Dec (k < n) → empty_channel ≡ get_or (fitted n (ahead s t no_planes)) k empty_channel
    by (yes h) = sym (fitted_at n (ahead s t no_planes) k h ∙ none_at s t k)
    by (no h) = past_row n (ahead s t no_planes) k (omega arith)
