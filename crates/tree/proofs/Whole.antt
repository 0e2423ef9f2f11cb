-- A tree that is read into a table, and what the answer tells a caller. Assumes nothing.
use Prim.Native.Nat.{ℕ, ◌-◌, ◌*◌, ◌≤◌}
use mathlib.Core.Path.{◌≡◌, refl, ap, ◌∙◌, subst}
use mathlib.Core.List.{List, ◌++◌}
use native.Mathlib.Omega.{arith}
use native.Mathlib.Nat.{sub-zero}
use lib.ListN.{length, take, drop}
use lib.Seq.{take_at}
use Rattle.format.proofs.Trees.Tables.{length_table, sets_over, within_whole, entries_back}
use Rattle.std.specs.Prelude.{Result, Ok, Err}
use Rattle.format.specs.Answer.{given, refused}
use Rattle.format.specs.Given.{number}
use Rattle.format.specs.declared.refusal.Refusal.{Refusal}
use Rattle.format.specs.Bytes.{over}
use Rattle.format.specs.Trees.{fault, Read, read, room_in, within, whole_tree, table_bytes}
use Rattle.format.specs.declared.Entry.{Entry}
use Rattle.cursor.specs.Words.{to}
use Rattle.cursor.specs.declared.Cursor.{Cursor}
use Rattle.tree.specs.Table.{put_all}
use Rattle.tree.specs.Steps.{records_at, Stops, Went, tree_into, parsed_in, Front, Fits}

-- one record at depth 0
abbrev whole : List ℕ → ℕ → Read
whole d base = records_at d base (to 0 (length d)) 1 (record { parent = 0; used = 0; levels = 64 })

whole_is : (d : List ℕ) (base : ℕ) → whole d base ≡ read d base
unfolding read
whole_is d base = refl

-- entries stored from the table's start
put_front : (t : List ℕ) (es : List Entry) → 48 * length es ≤ length t → put_all t 0 es ≡ table_bytes es ++ drop (48 * length es) t
unfolding put_all over
put_front t es h = sets_over (table_bytes es) t (rw length_table h) ∙ rw length_table

take_front : (es : List Entry) (ys : List ℕ) → take (48 * length es) (table_bytes es ++ ys) ≡ table_bytes es
take_front es ys = take_at (table_bytes es) ys _ (length_table es)

-- what is said of a tree's answer r, where its table of n bytes has become t
abbrev Said : List ℕ → ℕ → ℕ → List ℕ → Result ℕ Refusal → Type 0
Said d base n t r = (parsed_in t r ≡ tree_into d base n) × (Front t (tree_into d base n) × Fits n r)

module _ (d : List ℕ) (base : ℕ) (t t' : List ℕ) where
  pub tree_read : {e : ℕ} {c : Cursor} {w : ℕ} → Went t t' e 0 (whole d base) c w → Said d base (length t) t' (Ok w)
  unfolding whole_tree
  tree_read {e} {c} {w} W' =
      let W : Went t t' e 0 (read d base) c w = subst (λ (o : Read). Went t t' e 0 o c w) (whole_is d base) W' in
      let es = (read d base).entries in
      let l : length es ≤ room_in (length t) = omega (arith, W.used, W.room) in
      let q : tree_into d base (length t) ≡ given es = rw (within_whole (room_in (length t)) (read d base) l, W.stop) in
      let h : 48 * length es ≤ length t = omega arith in
      let b : t' ≡ table_bytes es ++ drop (48 * length es) t = W.table ∙ put_front t es h in
      let k : w ≡ length es = omega (arith, W.used) in
      (rw (q, k, b) (ap given (entries_back es _ W.fit)), (rw (q, b) (take_front es _), rw k h))

  pub tree_refused : (x : Refusal) → Stops (room_in (length t) - 0) (whole d base) (number x) → Said d base (length t) t' (Err x)
  unfolding whole_tree
  tree_refused x s =
      let z : (within (room_in (length t)) (read d base)).stop ≡ fault (number x) = rw (sub-zero, whole_is d base) at s.number in
      let q : tree_into d base (length t) ≡ refused (number x) = rw z in
      (rw q refl, (rw q tt, tt))
