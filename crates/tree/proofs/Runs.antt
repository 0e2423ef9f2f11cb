-- Records one after another and a level's children, with the table: over plain values, for the proofs of the two functions that call each other.
-- Assumes nothing.
use Prim.Native.Nat.{ℕ, zero, suc, ◌+◌, ◌-◌, ◌*◌, ◌≤◌, ◌<◌}
use mathlib.Core.Path.{◌≡◌, refl, sym, ap, ◌∙◌}
use mathlib.Core.Bool.{Bool, true, false, cond}
use mathlib.Core.List.{List, [], ◌∷◌, ◌++◌, append_assoc, append-nil}
use native.Mathlib.Omega.{arith}
use native.Mathlib.Nat.{add_assoc, add-zero, mul-add}
use native.Mathlib.Numerals.{add-one, sub-one}
use borrow.Author.Tests.{leb-true, leb-false}
use lib.Dec.{leb}
use lib.ListN.{length, take, length-append}
use lib.Seq.{sets, length-sets}
use Rattle.format.proofs.Ground.Bytes.{sets_append}
use Rattle.format.proofs.Trees.Tables.{table_append, length_table, within_whole, within_full}
use Rattle.format.proofs.Trees.ByRules.{then_more, value_some}
use Rattle.std.specs.Prelude.{Option, Some, None, Result, Ok, Err}
use Rattle.format.specs.Given.{number}
use Rattle.format.specs.declared.refusal.Refusal.{Refusal}
use Rattle.format.specs.Refusals as why
use Rattle.format.specs.Trees.{Stop, at, fault, Read, ends, follow, then, children_or9, level_end, value, entry_of, records, children_at, room_in, within}
use Rattle.format.specs.Trees.{entry_bytes, table_bytes}
use Rattle.format.specs.declared.Entry.{Entry}
use Rattle.cursor.specs.Words.{Within}
use Rattle.cursor.specs.Steps.{Faults, Headed, from_head, HeadRead, LeafRead, LevelRead}
use Rattle.cursor.specs.declared.Cursor.{Cursor}
use Rattle.tree.specs.Table.{Fit, AllFit, put_all}
use Rattle.cursor.proofs.Answers.{value_level}
use Rattle.tree.specs.Steps.{LevelEnded, entry_for, records_at, value_at, Stops, Went, Ran}
use Rattle.cursor.specs.declared.record.Name.{Name}
use Rattle.tree.specs.declared.Spot.{Spot}

-- ---- the table

pub length_put : (t : List ℕ) (u : ℕ) (es : List Entry) → length (put_all t u es) ≡ length t
unfolding put_all
length_put t u es = length-sets t (48 * u) (table_bytes es)

put_nil : (t : List ℕ) (u : ℕ) → put_all t u [] ≡ t
unfolding put_all table_bytes
put_nil t u = refl

put_one : (t : List ℕ) (u : ℕ) (e : Entry) → put_all t u (e ∷ []) ≡ sets t (48 * u) (entry_bytes e)
unfolding put_all table_bytes
put_one t u e = ap (sets t (48 * u)) (append-nil (entry_bytes e))

put_append : (t : List ℕ) (u : ℕ) (xs ys : List Entry) → put_all t u (xs ++ ys) ≡ put_all (put_all t u xs) (u + length xs) ys
unfolding put_all
put_append t u xs ys = rw (table_append, sets_append, length_table, mul-add)

fit_append : (xs ys : List Entry) → AllFit xs → AllFit ys → AllFit (xs ++ ys)
fit_append [] ys f g = g
fit_append (x ∷ xs) ys f g = (f.0, fit_append xs ys f.1 g)

-- ---- readings

-- o, with the entries es before its own
abbrev before : List Entry → Read → Read
before es o = record { entries = es ++ o.entries; stop = o.stop }

then_at : (r : Read) (k : ℕ → ℕ → Read) (p : ℕ) → r.stop ≡ at p → then r k ≡ before r.entries (k (length r.entries) p)
unfolding follow
then_at r k p e = rw e

then_fault : (r : Read) (k : ℕ → ℕ → Read) (x : ℕ) → r.stop ≡ fault x → then r k ≡ record { entries = r.entries; stop = fault x }
unfolding follow
then_fault r k x e = rw e

-- ---- what ends a reading: its own fault, or a table with too few entries

data How (room : ℕ) (o : Read) (x : ℕ) : Type 0 where
  whole : length o.entries ≤ room → o.stop ≡ fault x → How room o x
  full : room < length o.entries → x ≡ why.table → How room o x

how : {room : ℕ} {o : Read} {x : ℕ} → Stops room o x → How room o x
unfolding within
how {room} {o} {x} s = go (leb (length o.entries) room) refl s.number
  where
    go : (b : Bool) → leb (length o.entries) room ≡ b
        → (cond b o (record { entries = take room o.entries; stop = fault why.table })).stop ≡ fault x → How room o x
    go true q e = whole (leb-true _ _ q) e
    go false q e = full (leb-false _ _ q) (cc)

stops : {room : ℕ} {o : Read} {x : ℕ} → How room o x → Stops room o x
stops {room} {o} (whole h e) = record { number = ap (λ (r : Read). r.stop) (within_whole room o h) ∙ e }
stops {room} {o} (full h e) = record { number = within_full room o h ∙ ap fault (sym e) }

-- a record with an entry ends it
pub stops_one : {room : ℕ} {o : Read} {x : ℕ} → 0 < room → Faults x o → Stops room o x
stops_one h f = stops (whole (omega (arith, f.one)) f.stops)

stops_then : {room : ℕ} {r : Read} {x : ℕ} (k : ℕ → ℕ → Read) → Stops room r x → Stops room (then r k) x
stops_then {room} {r} {x} k s = go (how s)
  where
    go : How room r x → Stops room (then r k) x
    go (whole h e) = rw (then_fault r k x e) (stops (whole h refl))
    go (full h e) = stops (full (omega (arith, then_more r k)) e)

stops_before : {room : ℕ} {o : Read} {x : ℕ} (es : List Entry) → length es ≤ room → Stops (room - length es) o x → Stops room (before es o) x
stops_before {room} {o} {x} es l s = go (how s)
  where
    go : How (room - length es) o x → Stops room (before es o) x
    go (whole h e) = stops (whole (rw length-append (omega arith)) e)
    go (full h e) = stops (full (rw length-append (omega arith)) e)

-- ---- records, one after another

-- the records that are left, k of them from c on, with u entries in use
abbrev pub rest_of : List ℕ → ℕ → Spot → Cursor → ℕ → ℕ → Read
rest_of d base p c u k = records d base (children_at p.levels d base) p.parent k u c.at c.end

-- where a value stands, with u entries in use
abbrev pub spot_at : Spot → ℕ → Spot
spot_at p u = record { parent = p.parent; used = u; levels = p.levels }

module _ (d : List ℕ) (base : ℕ) (p : Spot) where
  rest_none : (c : Cursor) (u k : ℕ) → k ≤ 0 → rest_of d base p c u k ≡ ends (at c.at)
  unfolding records
  rest_none c u zero h = refl
  rest_none c u (suc k) h = absurd (omega arith)

  rest_head : (c : Cursor) (u k : ℕ) {r : Result (Option (Name × Cursor)) Refusal} → 0 < k → HeadRead d c r
      → rest_of d base p c u k
      ≡ from_head (λ n v. value_at d base n v (spot_at p u))
      (λ n q. records d base (children_at p.levels d base) p.parent (k - 1) (u + n) q c.end) c r
  rest_head c u zero h w = absurd (omega arith)
  rest_head c u (suc k) h w = rw sub-one (w.says base (children_at p.levels d base) p.parent k u)

-- From k₀ records at c₀, with the table t₀ and u₀ entries in use, the loop has come to k at c, with t and u.
pub record Turned (d : List ℕ) (base : ℕ) (p : Spot) (t₀ : List ℕ) (c₀ : Cursor) (u₀ k₀ : ℕ) (t : List ℕ) (c : Cursor) (u k : ℕ) : Type 0 where
  pub acc : List Entry
  pub rest : rest_of d base p c₀ u₀ k₀ ≡ before acc (rest_of d base p c u k)
  pub count : u ≡ u₀ + length acc
  pub room : u ≤ room_in (length t₀)
  pub table : t ≡ put_all t₀ u₀ acc
  pub within : Within c d
  pub last : c.end ≡ c₀.end
  pub fit : AllFit acc

pub begin : (d : List ℕ) (base : ℕ) (p : Spot) (t : List ℕ) (c : Cursor) (u k : ℕ) → Within c d → u ≤ room_in (length t) → Turned d base p t c u k t c u k
begin d base p t c u k w h =
    record { acc = []; rest = refl; count = sym (add-zero u); room = h; table = sym (put_nil t u); within = w; last = refl; fit = tt }

module _ {d : List ℕ} {base : ℕ} {p : Spot} {t₀ : List ℕ} {c₀ : Cursor} {u₀ k₀ : ℕ} {t : List ℕ} {c : Cursor} {u k : ℕ}
    (T : Turned d base p t₀ c₀ u₀ k₀ t c u k) where
  pub kept_length : length t ≡ length t₀
  kept_length = ap length T.table ∙ length_put t₀ u₀ T.acc

  -- nothing is left to read
  over : rest_of d base p c u k ≡ ends (at c.at) → Went t₀ t c₀.end u₀ (rest_of d base p c₀ u₀ k₀) c u
  over e =
      let q : rest_of d base p c₀ u₀ k₀ ≡ record { entries = T.acc; stop = at c.at } = T.rest ∙ rw (e, append-nil) in
      rw q
      (record {
        stop = refl;
        used = T.count;
        room = T.room;
        table = T.table;
        fit = T.fit;
        order = omega (arith, T.within.order, T.last);
        last = T.last;
      })

  -- what is left ends with a fault
  ended : {x : ℕ} → Stops (room_in (length t₀) - u) (rest_of d base p c u k) x → Stops (room_in (length t₀) - u₀) (rest_of d base p c₀ u₀ k₀) x
  ended s =
      let h = T.count in
      let l = T.room in
      let e : room_in (length t₀) - u ≡ room_in (length t₀) - u₀ - length T.acc = omega arith in
      rw T.rest (stops_before T.acc (omega arith) (rw e at s))

  -- the ends of the loop: no record is asked for, none is there, its head is at fault, no entry is left
  pub ends_none : k ≤ 0 → Went t₀ t c₀.end u₀ (rest_of d base p c₀ u₀ k₀) c u
  ends_none h = over (rest_none d base p c u k h)

  pub ends_here : 0 < k → HeadRead d c (Ok None) → Went t₀ t c₀.end u₀ (rest_of d base p c₀ u₀ k₀) c u
  ends_here h w = over (rest_head d base p c u k h w)

  pub ends_bad : {x : Refusal} → 0 < k → HeadRead d c (Err x) → Stops (room_in (length t₀) - u₀) (rest_of d base p c₀ u₀ k₀) (number x)
  ends_bad h w = ended (rw (rest_head d base p c u k h w) (stops (whole (omega arith) refl)))

  module _ {n : Name} {v : Cursor} (pos : 0 < k) (head : HeadRead d c (Ok (Some (n, v)))) where
    abbrev val : Read
    val = value_at d base n v (spot_at p u)

    abbrev more : ℕ → ℕ → Read
    more m q = records d base (children_at p.levels d base) p.parent (k - 1) (u + m) q c.end

    step : rest_of d base p c u k ≡ then val more
    step = rest_head d base p c u k pos head

    pub ends_full : room_in (length t) ≤ u → Stops (room_in (length t₀) - u₀) (rest_of d base p c₀ u₀ k₀) why.table
    ends_full h =
        let l = kept_length in
        let s = value_some d (children_at p.levels d base u) n.kind n.start v.at v.end (entry_of d base p.parent n.start) in
        ended (rw step (stops_then more (stops (full (omega arith) refl))))

    -- a value that fails ends the records
    pub fails : {x : ℕ} → Stops (room_in (length t) - u) val x → Stops (room_in (length t₀) - u₀) (rest_of d base p c₀ u₀ k₀) x
    fails s = ended (rw step (stops_then more (rw kept_length at s)))

    -- a value that is read is one turn
    pub turn : {t' : List ℕ} {a : Cursor} {w : ℕ} → Went t t' v.end u val a w → v.end ≡ c.end → Turned d base p t₀ c₀ u₀ k₀ t' a w (k - 1)
    turn {t'} {a} {w} W ve =
        let es = val.entries in
        let here : a.end ≡ c.end = W.last ∙ ve in
        let next : more (length es) a.at ≡ rest_of d base p a w (k - 1) = rw (here, W.used) in
        let l = kept_length in
        record {
          acc = T.acc ++ es;
          rest = T.rest ∙ rw (step, then_at val more a.at W.stop, next, append_assoc);
          count = rw (W.used, length-append, T.count, add_assoc);
          room = omega (arith, W.room);
          table = W.table ∙ rw (put_append, ← T.count, ← T.table);
          within = record { order = omega (arith, W.order, W.last); inside = omega (arith, here, T.within.inside) };
          last = here ∙ T.last;
          fit = fit_append T.acc es T.fit W.fit;
        }

-- ---- a record's value

-- the record with the head n has its value at v, and the table t an entry for it
pub record Placed (d : List ℕ) (base : ℕ) (n : Name) (v : Cursor) (p : Spot) (t : List ℕ) : Type 0 where
  pub head : Headed d n v
  pub left : p.used < room_in (length t)

module _ {d : List ℕ} {base : ℕ} {n : Name} {v : Cursor} {p : Spot} {t : List ℕ} (P : Placed d base n v p t) where
  -- a value that is no level, with a fault and read
  pub leaf_stops : {x : Refusal} → LeafRead d v.end (value d (children_at p.levels d base p.used) n.kind n.start v.at v.end) (Err x)
      → Stops (room_in (length t) - p.used) (value_at d base n v p) (number x)
  leaf_stops l = stops_one (omega (arith, P.left)) (l.says (entry_of d base p.parent n.start))

  -- a level with a fault before its children
  pub level_unfit : {x : Refusal} → n.kind ≡ 11 → LevelRead d n.start v (Err x) → Stops (room_in (length t) - p.used) (value_at d base n v p) (number x)
  level_unfit k l =
      rw (value_level d (children_at p.levels d base p.used) n.kind n.start v.at v.end k (entry_of d base p.parent n.start))
      (stops_one (omega (arith, P.left)) (l.says (children_at p.levels d base p.used) (entry_of d base p.parent n.start)))

  module _ {k : ℕ} {c a : Cursor} (kind : n.kind ≡ 11) (level : LevelRead d n.start v (Ok (record { count = k; inner = c; after = a }))) where
    level_is : value_at d base n v p ≡ children_or9 (children_at p.levels d base p.used) k c.at c.end (entry_of d base p.parent n.start) v.end
    level_is =
        value_level d (children_at p.levels d base p.used) n.kind n.start v.at v.end kind (entry_of d base p.parent n.start)
        ∙ level.says (children_at p.levels d base p.used) (entry_of d base p.parent n.start)

    pub level_deep : p.levels ≡ 0 → Stops (room_in (length t) - p.used) (value_at d base n v p) why.deep
    unfolding children_or9 children_at
    level_deep z = rw (level_is, z) (stops_one (omega (arith, P.left)) (record { one = refl; stops = refl }))

  entry_is : (x y : ℕ) → entry_for base p.parent n x y ≡ entry_of d base p.parent n.start x y
  entry_is x y = λ i. record { kind = P.head.kind i; name = base + n.start + 2; units = P.head.units i; value = base + x; size = y; parent = p.parent }

  put_is : {t₁ : List ℕ} (x y : ℕ) → t₁ ≡ sets t (48 * p.used) (entry_bytes (entry_for base p.parent n x y))
      → t₁ ≡ put_all t p.used (entry_of d base p.parent n.start x y ∷ [])
  put_is x y e = e ∙ ap (λ (z : Entry). sets t (48 * p.used) (entry_bytes z)) (entry_is x y) ∙ sym (put_one t p.used _)

  pub leaf_went : {t₁ : List ℕ} {x y : ℕ} {c : Cursor}
      → LeafRead d v.end (value d (children_at p.levels d base p.used) n.kind n.start v.at v.end) (Ok (record { at = x; size = y; next = c }))
      → t₁ ≡ sets t (48 * p.used) (entry_bytes (entry_for base p.parent n x y)) → Fit (entry_for base p.parent n x y)
      → Went t t₁ v.end p.used (value_at d base n v p) c (p.used + 1)
  leaf_went {t₁} {x} {y} l e f =
      rw (l.says (entry_of d base p.parent n.start))
      (record {
        stop = refl;
        used = refl;
        room = omega (arith, P.left);
        table = put_is x y e;
        fit = (rw entry_is at f, tt);
        order = omega (arith, l.good.0.order, l.good.1);
        last = l.good.1;
      })

  -- a level's entry is stored, and its children are read
  module _ {k : ℕ} {c a : Cursor} (kind : n.kind ≡ 11) (level : LevelRead d n.start v (Ok (record { count = k; inner = c; after = a })))
      (some : p.levels ≡ 0 → ⊥) {t₁ : List ℕ} (put : t₁ ≡ sets t (48 * p.used) (entry_bytes (entry_for base p.parent n c.at (c.end - c.at)))) where
    abbrev own : Entry
    own = entry_of d base p.parent n.start c.at (c.end - c.at)

    abbrev kids : Read
    kids = records_at d base c k (record { parent = p.used + 1; used = p.used + 1; levels = p.levels - 1 })

    level_then : value_at d base n v p ≡ before (own ∷ []) (then kids λ m q. ends (level_end k c.end v.end))
    unfolding children_or9 children_at
    level_then = level_is kind level ∙ go p.levels some
      where
        go : (l : ℕ) → (l ≡ 0 → ⊥) → children_or9 (children_at l d base p.used) k c.at c.end (entry_of d base p.parent n.start) v.end
            ≡ before (own ∷ []) (then (records d base (children_at (l - 1) d base) (p.used + 1) k (p.used + 1) c.at c.end)
            λ m q. ends (level_end k c.end v.end))
        go zero z = absurd (z refl)
        go (suc l) z = simp (sub-one, add-one)

    room_is : room_in (length t₁) ≡ room_in (length t)
    room_is = ap room_in (ap length (put_is c.at (c.end - c.at) put) ∙ length_put t p.used (own ∷ []))

    pub level_fault : {x : ℕ} → Stops (room_in (length t₁) - (p.used + 1)) kids x → Stops (room_in (length t) - p.used) (value_at d base n v p) x
    level_fault s =
        let e : room_in (length t₁) - (p.used + 1) ≡ room_in (length t) - p.used - 1 = omega (arith, room_is, P.left) in
        rw level_then (stops_before (own ∷ []) (omega (arith, P.left)) (stops_then (λ m q. ends (level_end k c.end v.end)) (rw e at s)))

    module _ {t₂ : List ℕ} {b : Cursor} {w : ℕ} (W : Went t₁ t₂ c.end (p.used + 1) kids b w) where
      level_end_is : {z : Stop} → level_end k c.end v.end ≡ z → value_at d base n v p ≡ record { entries = own ∷ kids.entries; stop = z }
      level_end_is {z} e = level_then ∙ rw (then_at kids (λ m q. ends (level_end k c.end v.end)) b.at W.stop, e, append-nil)

      pub level_went : Fit (entry_for base p.parent n c.at (c.end - c.at)) → (r : Result (Cursor × ℕ) Refusal) → LevelEnded a k w r
          → Ran t t₂ v.end p.used (value_at d base n v p) r
      level_went f (Err x) s =
          let g = level.good in
          let e : level_end k c.end v.end ≡ fault (number x) = rw (← g.seam, ← g.last) (sym s.says) in
          let u = W.used in
          let l = W.room in
          rw (level_end_is e) (stops (whole (omega (arith, room_is, P.left)) refl))
      level_went f (Ok (q, u)) s =
          let g = level.good in
          let e : level_end k c.end v.end ≡ at q.at = rw (← g.seam, ← g.last) (sym s.says) in
          rw (level_end_is e)
          (record {
            stop = refl;
            used = omega (arith, W.used, s.good.2);
            room = omega (arith, W.room, s.good.2, room_is);
            table =
                W.table ∙ ap (λ (x : List ℕ). put_all x (p.used + 1) kids.entries) (put_is c.at (c.end - c.at) put)
                ∙ sym (put_append t p.used (own ∷ []) kids.entries);
            fit = (rw entry_is at f, W.fit);
            order = omega (arith, s.good.0, g.last);
            last = s.good.1 ∙ g.last;
          })
