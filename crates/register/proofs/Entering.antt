-- The entries of the map, taken one after another into the records of the frames. Assumes nothing.
use Prim.Native.Nat.{ℕ, ◌+◌, ◌-◌, ◌*◌, ◌^◌, ◌≤◌, ◌<◌}
use mathlib.Core.Path.{◌≡◌, refl, sym, ap, ◌∙◌}
use mathlib.Core.List.{List, [], ◌∷◌, ◌++◌, append_assoc, append-nil}
use native.Mathlib.Nat.{zero-add}
use native.Mathlib.Omega.{arith}
use lib.ListN.{length, drop}
use lib.Seq.{sets}
use Rattle.format.specs.Answer.{Answer, given, refused, and_then}
use Rattle.format.specs.Bytes.{le_at, le_bytes, part, over}
use Rattle.format.specs.Map.{MapEntry, map_from, map_entries, most_entries, prepend}
use Rattle.format.specs.Frames.{frame_name}
use Rattle.format.specs.Calls.Register.{place_bytes, register_from}
use Rattle.format.specs.declared.Loop.{Loop}
use Rattle.format.proofs.Ground.Answers.{given_inj, refused≢given}
use Rattle.format.proofs.Frames.Names.{name_different}
use Rattle.format.proofs.Calls.Register.{register_length, register_same, register_stored}
use Rattle.format.proofs.Ground.Tests.{true_same, false_same}
use Rattle.chunk.specs.Scan.{entry_at, Entry}
use Rattle.register.specs.Naming.{Names}
use Rattle.register.specs.Taking.{Taken}
use Rattle.std.specs.Prelude.{Some, None}

-- ---- one entry

module _ (m : List ℕ) (at n count : ℕ) (few : count < 2 ^ 64) (buf : List ℕ) (es : List MapEntry) where
  abbrev e : MapEntry
  e = entry_at m at n

  -- its name is that of none of the frames
  keeps : ((i : ℕ) → i < count → part m at n ≡ frame_name i → ⊥) → Taken m count es (es ++ e ∷ []) buf buf
  keeps f =
      record { taken = λ ls b q. q ∙ ap (λ (l : List ℕ). over l b) (sym (register_same m es ls e count 0 λ i _ h. false_same _ _ (f i (omega arith)))) }

  pub of_none : Names (part m at n) None → Taken m count es (es ++ e ∷ []) buf buf
  of_none x = keeps λ i h. x i (omega arith)

  module _ (k : ℕ) (x : Names (part m at n) (Some k)) where
    the_frame : (i : ℕ) → i < count → part m at n ≡ frame_name i → i ≡ k
    the_frame i h q = name_different i k (omega arith) (omega (arith, x.1)) (sym q ∙ x.0)

    pub of_later : count ≤ k → Taken m count es (es ++ e ∷ []) buf buf
    of_later h = keeps λ i l q. let z = the_frame i l q in omega arith

    module _ (h : k < count) where
      placed : (ls : List Loop) (b : List ℕ)
          → sets (over (register_from count m es ls 0) b) (24 * k + 12) (le_bytes 4 0 ++ le_bytes 8 (le_at 8 m (at + n)))
          ≡ over (register_from count m (es ++ e ∷ []) ls 0) b
      unfolding over place_bytes
      placed ls b =
          let l₁ : length (register_from count m es ls 0) ≡ 24 * count = register_length m es ls count 0 in
          let l₂ : length (register_from count m (es ++ e ∷ []) ls 0) ≡ 24 * count = register_length m (es ++ e ∷ []) ls count 0 in
          rw (l₁, l₂)
          (register_stored m es ls e count 0 k (drop (24 * count) b) h (rw zero-add (true_same _ _ x.0))
          λ i _ l f. false_same _ _ λ q. f (the_frame i (omega arith) q ∙ sym (zero-add k)))

      pub of_frame : {o : ℕ} {out : List ℕ} → o ≡ le_at 8 m (at + n) → out ≡ sets buf (24 * k + 12) (le_bytes 4 0 ++ le_bytes 8 o)
          → Taken m count es (es ++ e ∷ []) buf out
      of_frame p q = record { taken = λ ls b r. q ∙ rw (p, r) (placed ls b) }

-- ---- all of them

-- the entries that have come are taken, and those behind them are the rest
pub record Passed (m : List ℕ) (count : ℕ) (buf : List ℕ) (at entries : ℕ) (out : List ℕ) : Type 0 where
  pub few : entries ≤ most_entries
  pub within : at ≤ length m
  pub kept : length out ≡ length buf
  pub passed : List MapEntry
  pub rest : map_entries m ≡ and_then (map_from (most_entries - entries) m at) λ es. given (passed ++ es)
  pub takes : Taken m count [] passed buf out

pub pass_start : (m : List ℕ) (count : ℕ) (buf : List ℕ) → Passed m count buf 0 0 buf
unfolding map_entries and_then
pass_start m count buf =
    record {
      few = omega arith;
      within = omega arith;
      kept = refl;
      passed = [];
      rest = by (map_from most_entries m 0);
      takes = record { taken = λ ls b q. q };
    }
  where
    by : (a : Answer (List MapEntry)) → a ≡ and_then a λ es. given es
    by (refused n) = refl
    by (given es) = refl

module _ {m : List ℕ} {count : ℕ} {buf : List ℕ} {at entries : ℕ} {out : List ℕ} (h : Passed m count buf at entries out) where
  pub pass_on : {n : ℕ} {next : List ℕ} → Entry m at entries n → ((es : List MapEntry) → Taken m count es (es ++ entry_at m at n ∷ []) out next)
      → length next ≡ length out
      → Passed m count buf (at + n + 16) (entries + 1) next
  unfolding and_then prepend
  pass_on {n} {next} e f l =
      record {
        few = omega (arith, e.free);
        within = e.inside;
        kept = l ∙ h.kept;
        passed = h.passed ++ entry_at m at n ∷ [];
        rest = h.rest ∙ rw e.reads (by (map_from (most_entries - (entries + 1)) m (at + n + 16)));
        takes = record { taken = λ ls b q. (f h.passed).taken ls b (h.takes.taken ls b q) };
      }
    where
      by : (a : Answer (List MapEntry))
          → (and_then (and_then a (prepend (entry_at m at n))) λ es. given (h.passed ++ es)) ≡ and_then a λ es. given (h.passed ++ entry_at m at n ∷ [] ++ es)
      by (refused k) = refl
      by (given es) = ap given (sym (append_assoc h.passed (entry_at m at n ∷ []) es))

  pub pass_end : map_from (most_entries - entries) m at ≡ given [] → (es : List MapEntry) → map_entries m ≡ given es → Taken m count [] es buf out
  unfolding and_then
  pass_end q es p =
      let z : h.passed ++ [] ≡ es = given_inj (sym (h.rest ∙ rw q refl) ∙ p) in
      rw (← z, append-nil) h.takes

  pub pass_broken : {n : ℕ} → map_from (most_entries - entries) m at ≡ refused n → (es : List MapEntry) → map_entries m ≡ given es
      → Taken m count [] es buf out
  unfolding and_then
  pass_broken {n} q es p = absurd (refused≢given {n = n} (sym (h.rest ∙ rw q refl) ∙ p))
