-- The map's entries, one after another, with the last offset that a name had. Assumes nothing.
use Prim.Native.Nat.{ℕ, suc, ◌+◌, ◌-◌, ◌≤◌, ◌<◌}
use mathlib.Core.Path.{◌≡◌, refl, sym, ap, ◌∙◌}
use mathlib.Core.Bool.{Bool, true, false}
use mathlib.Core.Option.{Option, none, some, or_else}
use mathlib.Core.List.{List, []}
use native.Mathlib.Omega.{arith}
use lib.ListN.{length, drop, get_or, set, replicate, length-set, length-replicate, get_or-replicate}
use borrow.Author.Count.{below_more}
use Rattle.std.specs.Borrow.{Bor}
use Rattle.std.proofs.Common.{get_or-set_other, get_or-set_same}
use Rattle.format.specs.Bytes.{le_at, part, same}
use Rattle.format.specs.Answer.{Answer, given, refused, and_then, number_of}
use Rattle.format.specs.Map.{MapEntry, through_mark, end_mark, map_from, map_entries, most_entries, offset_of, prepend}
use Rattle.format.proofs.Map.Entries.{map_none, map_end, map_full, map_cut, map_entry, last_of, last_start, gives, last_entry}
use Rattle.chunk.specs.Answers.{lookup_of, find_in, name_at}
use borrow.Author.Tests.{eq-eqb, ne_eqb, lt-ltb, le-ltb}
use Rattle.chunk.specs.Scan.{entry_at, Entry, Stands, next_in}
use Rattle.std.specs.Prelude as std
use Rattle.format.specs.declared.refusal.Refusal.{Refusal}
use Rattle.format.specs.declared.refusal.Refusal.TheVariants as is
use Rattle.format.specs.Given.{maybe}

-- ---- what stands next

abbrev Told : List ℕ → ℕ → ℕ → std.Result (std.Option ℕ) Refusal → Type 0
Told m at k r = (r ≡ next_in m at k) × Stands m at k r

pub next_none : (m : List ℕ) (at k : ℕ) → none ≡ through_mark (drop at m) → Told m at k (std.Err is.Map)
unfolding next_in
next_none m at k t = (rw (← t), map_none (most_entries - k) m at (sym t))

module _ (m : List ℕ) (at k : ℕ) {n : ℕ} (t : some n ≡ through_mark (drop at m)) where
  pub next_end : same (part m at n) end_mark ≡ true → Told m at k (std.Ok std.None)
  unfolding next_in
  next_end e = (rw (← t, e), map_end m at n (sym t) (most_entries - k) e)

  module _ (e : same (part m at n) end_mark ≡ false) where
    pub next_full : k ≡ most_entries → Told m at k (std.Err is.Map)
    unfolding next_in
    next_full q =
        let z : most_entries - k ≡ 0 = omega arith in
        (rw (← t, e, eq-eqb k most_entries q), rw z (map_full m at n (sym t) e))

    pub next_cut : k < most_entries → length m < at + n + 16 → Told m at k (std.Err is.Map)
    unfolding next_in
    next_cut o l = (rw (← t, e, ne_eqb k most_entries (omega arith), lt-ltb (length m) (at + n + 16) l), map_cut m at n (sym t) e (most_entries - k) l)

    pub next_entry : k < most_entries → at + n + 16 ≤ length m → Told m at k (std.Ok (std.Some n))
    unfolding next_in
    next_entry o f =
        let z : most_entries - k ≡ suc (most_entries - (k + 1)) = omega arith in (
          rw (← t, e, ne_eqb k most_entries (omega arith), le-ltb (length m) (at + n + 16) f),
          record { free = o; inside = f; reads = rw z (map_entry m at n (sym t) e (most_entries - (k + 1)) f) },
        )

-- ---- a pass for a name

-- where a pass is that has taken `count` entries
pub record Scanned (m name : List ℕ) (at count : ℕ) (last : std.Option ℕ) : Type 0 where
  pub few : count ≤ most_entries
  pub within : at ≤ length m
  pub best : Option ℕ
  pub kept : maybe last ≡ best
  pub rest : find_in m name ≡ last_of m name best (map_from (most_entries - count) m at)

pub scan_start : (m name : List ℕ) → Scanned m name 0 0 std.None
unfolding find_in map_entries
scan_start m name =
    record { few = omega arith; within = omega arith; best = none; kept = refl; rest = last_start m name (map_from most_entries m 0) }

module _ {m name : List ℕ} {at count : ℕ} {last : std.Option ℕ} (h : Scanned m name at count last) where
  pub scan_broken : {n : ℕ} → map_from (most_entries - count) m at ≡ refused n → refused n ≡ find_in m name
  unfolding last_of
  scan_broken e = sym (h.rest ∙ rw e)

  pub scan_end : map_from (most_entries - count) m at ≡ given [] → lookup_of (std.Ok last) ≡ find_in m name
  unfolding last_of or_else offset_of
  scan_end e = ap given h.kept ∙ sym (h.rest ∙ rw e)

  module _ {n : ℕ} (e : Entry m at count n) where
    on : (b : Option ℕ) → b ≡ gives (same (part m at n) name) (le_at 8 m (at + n)) h.best
        → find_in m name ≡ last_of m name b (map_from (most_entries - (count + 1)) m (at + n + 16))
    on b q = h.rest ∙ rw (e.reads, q) (last_entry m name (entry_at m at n) h.best (map_from (most_entries - (count + 1)) m (at + n + 16)))

    next : (b : Option ℕ) → b ≡ gives (same (part m at n) name) (le_at 8 m (at + n)) h.best → (r : std.Option ℕ) → maybe r ≡ b
        → Scanned m name (at + n + 16) (count + 1) r
    next b p r k = record { few = omega (arith, e.free); within = e.inside; best = b; kept = k; rest = on b p }

    module _ {t : Bool} (s : t ≡ same (part m at n) name) {r : std.Option ℕ} where
      pub scan_hit : t ≡ true → {o : ℕ} → o ≡ le_at 8 m (at + n) → r ≡ std.Some o → Scanned m name (at + n + 16) (count + 1) r
      scan_hit y {o} q z = rw z (next (some o) (rw (← s, y, ← q)) (std.Some o) refl)

      pub scan_miss : t ≡ false → r ≡ last → Scanned m name (at + n + 16) (count + 1) r
      scan_miss y z = rw z (next h.best (rw (← s, y)) last h.kept)

-- ---- a pass for several names

-- where a pass for n names is that has taken `count` entries
pub record Passes (m : List ℕ) (names : List (Bor (List ℕ))) (n at count : ℕ) (last : List (std.Option ℕ)) : Type 0 where
  pub few : count ≤ most_entries
  pub within : at ≤ length m
  pub size : length last ≡ n
  pub each : (k : ℕ) → k < n → Scanned m (name_at names k) at count (get_or last k std.None)

-- the same within an entry whose name has `len` bytes: the names before i have taken it
pub record Turned (m : List ℕ) (names : List (Bor (List ℕ))) (n at count len i : ℕ) (last : List (std.Option ℕ)) : Type 0 where
  pub size : length last ≡ n
  pub taken : (k : ℕ) → k < i → Scanned m (name_at names k) (at + len + 16) (count + 1) (get_or last k std.None)
  pub left : (k : ℕ) → k < n → i ≤ k → Scanned m (name_at names k) at count (get_or last k std.None)

pub passes_start : (m : List ℕ) (names : List (Bor (List ℕ))) (n : ℕ) → Passes m names n 0 0 (replicate n std.None)
passes_start m names n =
    record {
      few = omega arith;
      within = omega arith;
      size = length-replicate n std.None;
      each = λ k h. rw get_or-replicate (scan_start m (name_at names k));
    }

module _ {m : List ℕ} {names : List (Bor (List ℕ))} {n at count : ℕ} {last : List (std.Option ℕ)} (h : Passes m names n at count last) where
  pub turn_start : {len : ℕ} → Turned m names n at count len 0 last
  turn_start = record { size = h.size; taken = λ k l. absurd (omega arith); left = λ k l o. h.each k l }

  pub passes_end : map_from (most_entries - count) m at ≡ given [] → (k : ℕ) → k < n → lookup_of (std.Ok (get_or last k std.None)) ≡ find_in m (name_at names k)
  passes_end e k l = scan_end (h.each k l) e

  pub passes_broken : {r : ℕ} → map_from (most_entries - count) m at ≡ refused r → (k : ℕ) → k < n → refused r ≡ find_in m (name_at names k)
  passes_broken e k l = scan_broken (h.each k l) e

module _ {m : List ℕ} {names : List (Bor (List ℕ))} {n at count len i : ℕ} {last : List (std.Option ℕ)} (h : Turned m names n at count len i last)
    (e : Entry m at count len) where
  pub turn_end : n ≤ i → Passes m names n (at + len + 16) (count + 1) last
  turn_end l = record { few = omega (arith, e.free); within = e.inside; size = h.size; each = λ k o. h.taken k (omega arith) }

  module _ (b : i < n) {t : Bool} (s : t ≡ same (part m at len) (name_at names i)) where
    pub turn_hit : t ≡ true → {o : ℕ} → o ≡ le_at 8 m (at + len) → Turned m names n at count len (i + 1) (set last i (std.Some o))
    turn_hit y {o} q =
        record {
          size = rw length-set h.size;
          taken = below_more _ _ (λ k l. let z : k ≡ i → ⊥ = omega arith in rw get_or-set_other (h.taken k l))
              (let z : i < length last = omega (arith, h.size) in rw get_or-set_same (scan_hit (h.left i b (omega arith)) e s y q refl));
          left = λ k l o. let z : k ≡ i → ⊥ = omega arith in rw get_or-set_other (h.left k l (omega arith));
        }

    pub turn_miss : t ≡ false → Turned m names n at count len (i + 1) last
    turn_miss y =
        record {
          size = h.size;
          taken = below_more _ _ h.taken (scan_miss (h.left i b (omega arith)) e s y refl);
          left = λ k l o. h.left k l (omega arith);
        }

-- ---- a pass for the map's own number

-- where a pass is that has taken `count` entries
pub record Passed (m : List ℕ) (at count : ℕ) : Type 0 where
  pub few : count ≤ most_entries
  pub within : at ≤ length m
  pub rest : number_of (map_from (most_entries - count) m at) ≡ number_of (map_entries m)

pub pass_start : (m : List ℕ) → Passed m 0 0
unfolding map_entries
pass_start m = record { few = omega arith; within = omega arith; rest = refl }

module _ {m : List ℕ} {at count : ℕ} (h : Passed m at count) where
  pub pass_on : {n : ℕ} → Entry m at count n → Passed m (at + n + 16) (count + 1)
  unfolding and_then number_of prepend
  pass_on {n} e =
      let r = by (map_from (most_entries - (count + 1)) m (at + n + 16)) in
      record { few = omega (arith, e.free); within = e.inside; rest = sym r ∙ ap number_of (sym e.reads) ∙ h.rest }
    where
      by : (a : Answer (List MapEntry)) → number_of (and_then a (prepend (entry_at m at n))) ≡ number_of a
      by (refused k) = refl
      by (given es) = refl

  pub pass_stop : {a : Answer (List MapEntry)} → map_from (most_entries - count) m at ≡ a → number_of a ≡ number_of (map_entries m)
  pass_stop e = ap number_of (sym e) ∙ h.rest
